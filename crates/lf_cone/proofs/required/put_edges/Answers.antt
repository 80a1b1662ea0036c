use Rattle.std.proofs.Common.{[], ◌<◌, length, sym, ap, ◌∙◌, subst, arith}
use Rattle.std.proofs.lemmas.Bool.{iff_false}
use Rattle.lf_faults.specs.Allowed.{IsAllowed}
use Rattle.lf_sim.specs.Settings.{world_of, set_of}
use Rattle.lf_cone.specs.Cones.{AreRequired}
use Rattle.lf_cone.specs.Places.{AreEnds, IsRoom}
use Rattle.lf_cone.proofs.RequiredLemmas.{none_allowed, none_left, end_steps, within_end, less_than_same}
use Rattle.lf_cone.proofs.required.put_edges.Goals as goal

pub returns-then-not-admits : goal.returns-then-not-admits
returns-then-not-admits g c =
    let s = c.args.setting.now in
    let w = world_of s in
    subst (AreRequired w (set_of c.args.run.now) s.spec c.args.reach.now c.args.excluded.now) (sym c.clear.ensures.items)
    (subst (λ F. AreRequired w F s.spec c.args.reach.now c.args.excluded.now []) c.set-set.ensures
    (none_allowed w c.set-set.result s.spec c.args.reach.now c.args.excluded.now c.budget.ensures.limits c.len.ensures.ascending
    (iff_false c.admits.ensures c.if-not-admits.true)))

pub returns-then-len-budget : goal.returns-then-len-budget
returns-then-len-budget g c =
    let s = c.args.setting.now in
    let w = world_of s in
    subst (AreRequired w (set_of c.args.run.now) s.spec c.args.reach.now c.args.excluded.now) (sym c.clear.ensures.items)
    (subst (λ F. AreRequired w F s.spec c.args.reach.now c.args.excluded.now []) c.set-set.ensures
    (none_left w c.set-set.result s.spec c.args.reach.now c.args.excluded.now c.budget.ensures.limits (omega
    (arith, c.if-len-budget.true, c.len.ensures.value, c.budget.ensures.value))))

pub put_omissions-requires-clause-run : goal.put_omissions-requires-clause-run
put_omissions-requires-clause-run g c = c.requires

pub put_omissions-requires-clause-set : goal.put_omissions-requires-clause-set
put_omissions-requires-clause-set g c = c.new.ensures ∙ c.set-set.ensures

pub put_omissions-requires-clause-few : goal.put_omissions-requires-clause-few
put_omissions-requires-clause-few g c =
    less_than_same _ _ _ _ c.if-len-budget.false (c.len.ensures.value ∙ ap length (sym c.new.ensures)) c.budget.ensures.value

pub put_omissions-requires-clause-marks : goal.put_omissions-requires-clause-marks
put_omissions-requires-clause-marks g c = c.new-2.ensures.marks

pub put_omissions-requires-clause-allowed : goal.put_omissions-requires-clause-allowed
put_omissions-requires-clause-allowed g c =
    subst (IsAllowed c.args.setting.now.spec) (sym c.new.ensures) (c.admits.ensures.0 c.if-not-admits.false)

pub put_omissions-requires-clause-ends : goal.put_omissions-requires-clause-ends
put_omissions-requires-clause-ends g c =
    subst (λ h. AreEnds c.args.reach.now h c.ends_of.result) c.horizon.ensures.value c.ends_of.ensures

pub put_omissions-requires-clause-first : goal.put_omissions-requires-clause-first
put_omissions-requires-clause-first g c = c.loop-step.auto.step

pub put_omissions-requires-clause-last : goal.put_omissions-requires-clause-last
put_omissions-requires-clause-last g c = within_end _ _ _ c.loop-step-test.true c.horizon-step-end.ensures.value

pub put_crashes-requires-clause-marks : goal.put_crashes-requires-clause-marks
put_crashes-requires-clause-marks g c = c.new-2.ensures.marks

pub put_crashes-requires-clause-allowed : goal.put_crashes-requires-clause-allowed
put_crashes-requires-clause-allowed g c =
    subst (IsAllowed c.args.setting.now.spec) (sym c.new.ensures) (c.admits.ensures.0 c.if-not-admits.false)

pub put_crashes-requires-clause-room : goal.put_crashes-requires-clause-room
put_crashes-requires-clause-room g c =
    subst (λ F. IsRoom c.args.setting.now.spec F c.room_in.result.crashes c.room_in.result.pauses) (sym c.new.ensures) c.room_in.ensures

pub put_crashes-requires-clause-ends : goal.put_crashes-requires-clause-ends
put_crashes-requires-clause-ends g c =
    subst (λ h. AreEnds c.args.reach.now h c.ends_of.result) c.horizon.ensures.value c.ends_of.ensures

pub put_crashes-requires-clause-first : goal.put_crashes-requires-clause-first
put_crashes-requires-clause-first g c = c.loop-step.auto.step

pub put_crashes-requires-clause-last : goal.put_crashes-requires-clause-last
put_crashes-requires-clause-last g c = within_end _ _ _ c.loop-step-test.true c.horizon-step-end.ensures.value

pub put_pauses-requires-clause-marks : goal.put_pauses-requires-clause-marks
put_pauses-requires-clause-marks g c = c.new-2.ensures.marks

pub put_pauses-requires-clause-allowed : goal.put_pauses-requires-clause-allowed
put_pauses-requires-clause-allowed g c =
    subst (IsAllowed c.args.setting.now.spec) (sym c.new.ensures) (c.admits.ensures.0 c.if-not-admits.false)

pub put_pauses-requires-clause-room : goal.put_pauses-requires-clause-room
put_pauses-requires-clause-room g c =
    subst (λ F. IsRoom c.args.setting.now.spec F c.room_in.result.crashes c.room_in.result.pauses) (sym c.new.ensures) c.room_in.ensures

pub put_pauses-requires-clause-ends : goal.put_pauses-requires-clause-ends
put_pauses-requires-clause-ends g c =
    subst (λ h. AreEnds c.args.reach.now h c.ends_of.result) c.horizon.ensures.value c.ends_of.ensures

pub put_pauses-requires-clause-first : goal.put_pauses-requires-clause-first
put_pauses-requires-clause-first g c = c.loop-step.auto.step

pub put_pauses-requires-clause-last : goal.put_pauses-requires-clause-last
put_pauses-requires-clause-last g c = within_end _ _ _ c.loop-step-test.true c.horizon-step-end.ensures.value

pub put_omissions-requires-clause-so_far : goal.put_omissions-requires-clause-so_far
put_omissions-requires-clause-so_far g c = c.loop-step.invariant

pub put_crashes-requires-clause-so_far : goal.put_crashes-requires-clause-so_far
put_crashes-requires-clause-so_far g c = c.in_ok-put_omissions.ensures

pub put_pauses-requires-clause-so_far : goal.put_pauses-requires-clause-so_far
put_pauses-requires-clause-so_far g c = c.in_ok-put_crashes.ensures

pub loop-step-preserved : goal.loop-step-preserved
loop-step-preserved g c =
    c.in_ok-put_pauses.ensures

pub returns : goal.returns
returns g c =
    let s = c.args.setting.now in
    let w = world_of s in
    let end = c.loop-step.step in
    let short : s.spec.horizon < end = omega (arith, c.loop-step-test.false, c.horizon-step-end.ensures.value) in
    subst (λ xs. AreRequired w (set_of c.args.run.now) s.spec c.args.reach.now xs c.loop-step.found.items) c.new-2.ensures.faults
    (subst (λ F. AreRequired w F s.spec c.args.reach.now c.new-2.result.faults.now c.loop-step.found.items) (c.new.ensures ∙ c.set-set.ensures)
    (end_steps w c.new.result.set s.spec c.args.reach.now c.new-2.result.faults.now c.budget.ensures.limits c.loop-step.found.items end short
    c.loop-step.invariant))

pub room_in-requires : goal.room_in-requires
room_in-requires g c = c.admits.ensures.0 c.if-not-admits.false
