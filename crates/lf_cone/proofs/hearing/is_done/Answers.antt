use Rattle.std.proofs.Common.{◌≡◌, refl, sym, ◌∙◌, inl, inr, arith, subst}
use Rattle.std.proofs.lemmas.Bool.{both_ways, cases_lt, false≢true}
use Rattle.lf_sim.specs.Runs.{is_up}
use Rattle.lf_sim.specs.Settings.{world_of}
use Rattle.lf_cone.specs.Cones.{IsHeard}
use Rattle.lf_cone.proofs.HearingLemmas.{hearer}
use Rattle.lf_cone.proofs.hearing.is_done.Goals as goal
use Rattle.lf_cone.proofs.hearing.is_done.Goals.{else-from-to-via-then-from-to+else-hears, else-from-to-via-else-from-to}

pub returns-then-not-goes : goal.returns-then-not-goes
returns-then-not-goes g c = (
  λ h. absurd (false≢true h),
  λ s. absurd (both_ways (is_up (world_of c.args.setting.now) c.args.effects.now.set c.args.from c.args.step)
      (sym c.goes.ensures.value ∙ c.if-not-goes.true) s.1.2.sends),
)

pub returns-then-hears : goal.returns-then-hears
returns-then-hears g c = (
  λ _. let by = c.hears.ensures.0 c.if-hears.true in (c.loop-to.to, (by.0, omega (arith, by.1, c.at.ensures.value), by.2)),
  λ _. refl,
)

pub loop-to-preserved : goal.loop-to-preserved
loop-to-preserved g c = λ m below heard. elim (cases_lt m c.loop-to.to) [
  | inl early ↦ c.loop-to.invariant m early heard
  | inr late ↦
      let same : m ≡ c.loop-to.to = omega (arith, below, late) in
      let here = subst (IsHeard (world_of c.args.setting.now) c.args.effects.now.set c.args.reach.now c.args.from c.args.step) same heard in
      elim c.else-from-to.branch [
        | else-from-to-via-then-from-to+else-hears d ↦
            both_ways d.hears.result d.if-hears.false (d.hears.ensures.1 (here.0, omega (arith, here.1, d.at.ensures.value), here.2))
        | else-from-to-via-else-from-to d ↦ here.2.apart d.if-from-to.false
      ]
]

pub returns : goal.returns
returns g c =
    let w = world_of c.args.setting.now in (
      λ h. absurd (false≢true h),
      λ s.
          let node = hearer w c.args.effects.now.set c.args.from c.args.step s.0 s.1.0 s.1.2 in
          absurd (c.loop-to.invariant s.0 (omega (arith, node, c.loop-to-test.false, c.requires.nodes, c.args.setting.now.nodes_agree)) s.1),
    )
