use Rattle.std.proofs.Common.{◌≡◌, ◌+◌, ◌≤◌, ◌++◌, false, sym, ap, subst, ◌∙◌, inl, inr, arith}
use Rattle.std.specs.Prelude.{OnOk}
use Rattle.std.specs.List.{flat_map}
use Rattle.std.proofs.lemmas.List.{append-nil, take_all}
use Rattle.lf_sim.specs.Settings.{set_of, world_of}
use Rattle.lf_residual.specs.declared.part.Part.{Part}
use Rattle.lf_residual.specs.Parts.{all_parts, part_of, size_of}
use Rattle.lf_residual.proofs.JudgedLemmas.{sizes-part, truths-from_all, truths-from_any}
use Rattle.lf_residual.proofs.OutlineLemmas.{part-from}
use Rattle.lf_residual.proofs.Places.{is-at, inner-at}
use Rattle.lf_residual.proofs.RestingLemmas.{Walk, all-grounds, all-true, first-later, first-none, first-now, grounds-more, ground_of}
use Rattle.lf_residual.proofs.RestingLemmas.{ground-all, ground-any, ground-down, ground-one, ground-over, ground-shows, inner-truths}
use Rattle.lf_residual.proofs.RestingLemmas.{next-parts, next-truths, next-walk, one-true, truth-here, truth-inside}
use Rattle.lf_residual.proofs.resting.+put_points.Goals as goal

pub put_all-put_points-requires : goal.put_all-put_points-requires
put_all-put_points-requires t c =
    let ground = c.args.ground.now in
    let w = world_of ground.setting.now in
    let faults = set_of ground.run.now in
    let parts = c.args.parts.now in
    let part = c.part-item.result in
    let l = c.parts in
    let small : size_of part ≤ (all_parts part_of parts).size =
    subst (λ x. size_of x ≤ (all_parts part_of parts).size) (sym c.part-item.is) (sizes-part parts l.part-index part c.parts-test.true) in (
      omega (arith, small),
      (
        next-parts w faults ground.parts.now ground.truths.now parts l.part-index l.at part c.parts-test.true c.part-item.is l.invariant.walk,
        (
          next-truths w faults ground.parts.now ground.truths.now parts l.part-index l.at part c.parts-test.true c.part-item.is l.invariant.walk,
          one-true w faults parts l.part-index part c.requires.holds c.parts-test.true c.part-item.is,
        ),
      ),
    )

pub put_all-size_at-at-requires : goal.put_all-size_at-at-requires
put_all-size_at-at-requires t c =
    let ground = c.args.ground.now in
    let part = c.part-item.result in
    let l = c.parts in
    (is-at part l.at ground.parts.now (next-parts (world_of ground.setting.now) (set_of ground.run.now) ground.parts.now ground.truths.now c.args.parts.now
    l.part-index l.at part c.parts-test.true c.part-item.is l.invariant.walk)).there

pub put_all-overflow_add-at : goal.put_all-overflow_add-at
put_all-overflow_add-at t c =
    let ground = c.args.ground.now in
    let part = c.part-item.result in
    let l = c.parts in
    let at = is-at part l.at ground.parts.now (next-parts (world_of ground.setting.now) (set_of ground.run.now) ground.parts.now ground.truths.now
    c.args.parts.now l.part-index l.at part c.parts-test.true c.part-item.is l.invariant.walk) in
    let own : c.size_at-at.result ≡ size_of part = c.size_at-at.ensures (part_of part) ∙ ap (λ (p : Part). p.size) (at.is (part_of part)) in
    let fits = at.fits in
    omega arith

pub put_all-parts-preserved : goal.put_all-parts-preserved
put_all-parts-preserved t c =
    let ground = c.args.ground.now in
    let w = world_of ground.setting.now in
    let faults = set_of ground.run.now in
    let ps = ground.parts.now in
    let truths = ground.truths.now in
    let parts = c.args.parts.now in
    let part = c.part-item.result in
    let l = c.parts in
    let at = is-at part l.at ps (next-parts w faults ps truths parts l.part-index l.at part c.parts-test.true c.part-item.is l.invariant.walk) in
    let own : size_of part ≡ c.size_at-at.result = sym (c.size_at-at.ensures (part_of part) ∙ ap (λ (p : Part). p.size) (at.is (part_of part))) in
    record {
      walk = subst (λ n. Walk w faults ps truths parts (l.part-index + 1) (l.at + n)) own
          (next-walk w faults ps truths parts l.part-index l.at part c.parts-test.true c.part-item.is l.invariant.walk);
      put = grounds-more w faults parts l.part-index part c.args.points.now.items l.points.items c.put_points.new.points.items c.parts-test.true c.part-item.is
          l.invariant.put c.in_ok-put_points.ensures;
    }

pub put_all-returns : goal.put_all-returns
put_all-returns t c =
    let ground = c.args.ground.now in
    let w = world_of ground.setting.now in
    let faults = set_of ground.run.now in
    let parts = c.args.parts.now in
    let old = c.args.points.now.items in
    c.parts.invariant.put ∙ ap (λ xs. old ++ flat_map (ground_of w faults) xs) (take_all c.parts.part-index parts c.parts-test.false)
    ∙ ap (λ ps. old ++ ps) (sym (all-grounds w faults parts c.requires.holds))

pub put_first-bounds-ground-at : goal.put_first-bounds-ground-at
put_first-bounds-ground-at t c =
    let ground = c.args.ground.now in
    let w = world_of ground.setting.now in
    let faults = set_of ground.run.now in
    let part = c.part-item.result in
    let l = c.parts in
    truth-inside w faults part l.at ground.truths.now (next-truths w faults ground.parts.now ground.truths.now c.args.parts.now l.part-index l.at part
    c.parts-test.true c.part-item.is l.invariant.walk)

pub put_first-put_points-requires : goal.put_first-put_points-requires
put_first-put_points-requires t c =
    let ground = c.args.ground.now in
    let w = world_of ground.setting.now in
    let faults = set_of ground.run.now in
    let parts = c.args.parts.now in
    let part = c.part-item.result in
    let l = c.parts in
    let small : size_of part ≤ (all_parts part_of parts).size =
    subst (λ x. size_of x ≤ (all_parts part_of parts).size) (sym c.part-item.is) (sizes-part parts l.part-index part c.parts-test.true) in
    let own = next-truths w faults ground.parts.now ground.truths.now parts l.part-index l.at part c.parts-test.true c.part-item.is l.invariant.walk in (
      omega (arith, small),
      (
        next-parts w faults ground.parts.now ground.truths.now parts l.part-index l.at part c.parts-test.true c.part-item.is l.invariant.walk,
        (own, sym (truth-here w faults part l.at ground.truths.now false own) ∙ c.if-ground-at.true),
      ),
    )

pub put_first-returns-then-ground-at : goal.put_first-returns-then-ground-at
put_first-returns-then-ground-at t c =
    let ground = c.args.ground.now in
    let w = world_of ground.setting.now in
    let faults = set_of ground.run.now in
    let parts = c.args.parts.now in
    let part = c.part-item.result in
    let l = c.parts in
    let own = next-truths w faults ground.parts.now ground.truths.now parts l.part-index l.at part c.parts-test.true c.part-item.is l.invariant.walk in
    let first = first-now w faults parts l.part-index part c.parts-test.true c.part-item.is l.invariant.later
    (sym (truth-here w faults part l.at ground.truths.now false own) ∙ c.if-ground-at.true) in
    subst (λ ps. OnOk c.put_points.result (c.put_points.new.points.items ≡ ps)) (λ i. l.invariant.put i ++ sym first i) c.put_points.ensures

pub put_first-size_at-at-requires : goal.put_first-size_at-at-requires
put_first-size_at-at-requires t c =
    let ground = c.args.ground.now in
    let part = c.part-item.result in
    let l = c.parts in
    (is-at part l.at ground.parts.now (next-parts (world_of ground.setting.now) (set_of ground.run.now) ground.parts.now ground.truths.now c.args.parts.now
    l.part-index l.at part c.parts-test.true c.part-item.is l.invariant.walk)).there

pub put_first-overflow_add-at : goal.put_first-overflow_add-at
put_first-overflow_add-at t c =
    let ground = c.args.ground.now in
    let part = c.part-item.result in
    let l = c.parts in
    let at = is-at part l.at ground.parts.now (next-parts (world_of ground.setting.now) (set_of ground.run.now) ground.parts.now ground.truths.now
    c.args.parts.now l.part-index l.at part c.parts-test.true c.part-item.is l.invariant.walk) in
    let own : c.size_at-at.result ≡ size_of part = c.size_at-at.ensures (part_of part) ∙ ap (λ (p : Part). p.size) (at.is (part_of part)) in
    let fits = at.fits in
    omega arith

pub put_first-parts-preserved : goal.put_first-parts-preserved
put_first-parts-preserved t c =
    let ground = c.args.ground.now in
    let w = world_of ground.setting.now in
    let faults = set_of ground.run.now in
    let ps = ground.parts.now in
    let truths = ground.truths.now in
    let parts = c.args.parts.now in
    let part = c.part-item.result in
    let l = c.parts in
    let at = is-at part l.at ps (next-parts w faults ps truths parts l.part-index l.at part c.parts-test.true c.part-item.is l.invariant.walk) in
    let size : size_of part ≡ c.size_at-at.result = sym (c.size_at-at.ensures (part_of part) ∙ ap (λ (p : Part). p.size) (at.is (part_of part))) in
    let own = next-truths w faults ps truths parts l.part-index l.at part c.parts-test.true c.part-item.is l.invariant.walk in
    record {
      walk = subst (λ n. Walk w faults ps truths parts (l.part-index + 1) (l.at + n)) size
          (next-walk w faults ps truths parts l.part-index l.at part c.parts-test.true c.part-item.is l.invariant.walk);
      put = l.invariant.put;
      later = first-later w faults parts l.part-index part c.parts-test.true c.part-item.is l.invariant.later
          (sym (truth-here w faults part l.at truths false own) ∙ c.if-ground-at.false);
    }

pub put_first-returns : goal.put_first-returns
put_first-returns t c =
    let ground = c.args.ground.now in
    let old = c.args.points.now.items in
    c.parts.invariant.put ∙ sym (append-nil old)
    ∙ ap (λ ps. old ++ ps) (sym (first-none (world_of ground.setting.now) (set_of ground.run.now) c.args.parts.now c.parts.part-index c.parts-test.false
    c.parts.invariant.later))

pub put_points-put_all-requires : goal.put_points-put_all-requires
put_points-put_all-requires t c =
    let ground = c.args.ground.now in
    let w = world_of ground.setting.now in
    let faults = set_of ground.run.now in
    let f = c.args.formula.now in
    let xs = c.as_slice.result.now in
    let size : (all_parts part_of xs).size + 1 ≡ size_of f =
    ap (λ (p : Part). p.size) (part-from f c.in-All.parts xs (inl c.in-All.is) c.as_slice.ensures) in (
      omega (arith, size),
      (
        inner-at f c.in-All.parts xs c.args.at ground.parts.now (inl c.in-All.is) c.as_slice.ensures c.requires.parts,
        (
          inner-truths w faults f xs c.args.at ground.truths.now (truths-from_all w faults f c.in-All.parts xs c.in-All.is c.as_slice.ensures) size
              c.requires.truths,
          all-true w faults f c.in-All.parts xs c.in-All.is c.as_slice.ensures c.requires.holds,
        ),
      ),
    )

pub put_points-returns-in-All : goal.put_points-returns-in-All
put_points-returns-in-All t c =
    let ground = c.args.ground.now in
    subst (λ ps. OnOk c.put_all.result (c.put_all.new.points.items ≡ c.args.points.now.items ++ ps))
    (ground-all (world_of ground.setting.now) (set_of ground.run.now) c.args.formula.now c.in-All.parts c.as_slice.result.now c.in-All.is
    c.as_slice.ensures) c.put_all.ensures

pub put_points-overflow_add-at-in-Any : goal.put_points-overflow_add-at-in-Any
put_points-overflow_add-at-in-Any t c =
    let there = (is-at c.args.formula.now c.args.at c.args.ground.now.parts.now c.requires.parts).there in omega arith

pub put_points-put_first-requires : goal.put_points-put_first-requires
put_points-put_first-requires t c =
    let ground = c.args.ground.now in
    let w = world_of ground.setting.now in
    let faults = set_of ground.run.now in
    let f = c.args.formula.now in
    let xs = c.as_slice-in-Any.result.now in
    let size : (all_parts part_of xs).size + 1 ≡ size_of f =
    ap (λ (p : Part). p.size) (part-from f c.in-Any.parts xs (inr c.in-Any.is) c.as_slice-in-Any.ensures) in (
      omega (arith, size),
      (
        inner-at f c.in-Any.parts xs c.args.at ground.parts.now (inr c.in-Any.is) c.as_slice-in-Any.ensures c.requires.parts,
        inner-truths w faults f xs c.args.at ground.truths.now (truths-from_any w faults f c.in-Any.parts xs c.in-Any.is c.as_slice-in-Any.ensures) size
            c.requires.truths,
      ),
    )

pub put_points-returns-in-Any : goal.put_points-returns-in-Any
put_points-returns-in-Any t c =
    let ground = c.args.ground.now in
    subst (λ ps. OnOk c.put_first.result (c.put_first.new.points.items ≡ c.args.points.now.items ++ ps))
    (ground-any (world_of ground.setting.now) (set_of ground.run.now) c.args.formula.now c.in-Any.parts c.as_slice-in-Any.result.now c.in-Any.is
    c.as_slice-in-Any.ensures) c.put_first.ensures

pub put_points-returns-in-Down : goal.put_points-returns-in-Down
put_points-returns-in-Down t c =
    let ground = c.args.ground.now in
    let old = c.args.points.now.items in
    sym (append-nil old)
    ∙ ap (λ ps. old ++ ps) (sym (ground-down (world_of ground.setting.now) (set_of ground.run.now) c.args.formula.now _ _ c.in-Down.is c.requires.holds))

pub put_points-returns-in_ok-push-in-Shows : goal.put_points-returns-in_ok-push-in-Shows
put_points-returns-in_ok-push-in-Shows t c =
    let ground = c.args.ground.now in
    let old = c.args.points.now.items in
    c.in_ok-push-in-Shows.ensures.items
    ∙ ap (λ ps. old ++ ps) (sym (ground-shows (world_of ground.setting.now) (set_of ground.run.now) c.args.formula.now c.in-Shows.node c.in-Shows.step _
    c.in-Shows.is c.requires.holds))

pub put_points-returns-in-One : goal.put_points-returns-in-One
put_points-returns-in-One t c =
    let ground = c.args.ground.now in
    subst (λ ps. OnOk c.push_up.result (c.push_up.new.points.items ≡ c.args.points.now.items ++ ps))
    (sym (ground-one (world_of ground.setting.now) (set_of ground.run.now) c.args.formula.now c.in-One.nodes c.in-One.last _ c.in-One.is c.requires.holds))
    c.push_up.ensures

pub put_points-returns-in-Over : goal.put_points-returns-in-Over
put_points-returns-in-Over t c =
    let ground = c.args.ground.now in
    let old = c.args.points.now.items in
    sym (append-nil old)
    ∙ ap (λ ps. old ++ ps) (sym (ground-over (world_of ground.setting.now) (set_of ground.run.now) c.args.formula.now _ _ _ _ c.in-Over.is))
