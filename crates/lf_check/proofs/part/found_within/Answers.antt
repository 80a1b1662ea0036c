use Rattle.std.proofs.Common.{◌≡◌, ◌+◌, ◌<◌, ◌≤◌, subst, arith}
use Rattle.lf_sim.specs.Settings.{world_of}
use Rattle.lf_check.specs.declared.found.Found.TheVariants as found
use Rattle.lf_check.specs.Rows.{IsFound}
use Rattle.lf_check.proofs.FoundLemmas.{found-none, found-more, found-stop}
use Rattle.lf_check.proofs.part.found_within.Goals as goal

pub loop-at-init : goal.loop-at-init
loop-at-init g c =
    let j = c.args.judged.now in
    let s = j.setting.now in (
      omega arith,
      c.requires.order,
      found-none (world_of s) s.spec j.formula.now j.last c.args.places.now.tree.now c.args.places.now.sets.items c.args.from,
      c.requires.excluded,
      c.requires.spent,
    )

pub returns-in-Fails : goal.returns-in-Fails
returns-in-Fails g c =
    let j = c.args.judged.now in
    let s = j.setting.now in
    let places = c.args.places.now in
    let at = c.loop-at.at in
    let low = c.loop-at.invariant.0 in
    let near : at < c.args.to = c.loop-at-test.true in
    let far : at + 1 ≤ c.args.to = omega (arith, near) in
    found-stop (world_of s) s.spec j.formula.now j.last places.tree.now places.sets.items c.args.from at (at + 1) low (omega arith) c.args.to
    c.in-Fails.at c.loop-at.first c.in-Fails.reason far c.loop-at.invariant.2
    (subst (IsFound (world_of s) s.spec j.formula.now j.last places.tree.now places.sets.items at (at + 1)) c.in-Fails.is c.in_ok-at.ensures.found)

pub found_at-requires-clause-excluded : goal.found_at-requires-clause-excluded
found_at-requires-clause-excluded g c = c.loop-at.invariant.3

pub found_at-requires-clause-spent : goal.found_at-requires-clause-spent
found_at-requires-clause-spent g c = c.loop-at.invariant.4

pub loop-at-preserved : goal.loop-at-preserved
loop-at-preserved g c =
    let j = c.args.judged.now in
    let s = j.setting.now in
    let places = c.args.places.now in
    let at = c.loop-at.at in
    let low = c.loop-at.invariant.0 in
    let near : at < c.args.to = c.loop-at-test.true in (
      omega (arith, low),
      omega (arith, near),
      found-more (world_of s) s.spec j.formula.now j.last places.tree.now places.sets.items c.args.from at (at + 1) low (omega arith)
          c.loop-at.first c.in-Passes.other c.lower-first.result c.loop-at.invariant.2
          (subst (IsFound (world_of s) s.spec j.formula.now j.last places.tree.now places.sets.items at (at + 1)) c.in-Passes.is c.in_ok-at.ensures.found)
          c.lower-first.ensures,
      c.in_ok-at.ensures.excluded,
      c.in_ok-at.ensures.spent,
    )

pub returns : goal.returns
returns g c =
    let j = c.args.judged.now in
    let s = j.setting.now in
    let places = c.args.places.now in
    let end : c.loop-at.at ≡ c.args.to = omega (arith, c.loop-at.invariant.1, c.loop-at-test.false) in
    subst (λ to. IsFound (world_of s) s.spec j.formula.now j.last places.tree.now places.sets.items c.args.from to (found.Passes c.loop-at.first)) end
    c.loop-at.invariant.2
