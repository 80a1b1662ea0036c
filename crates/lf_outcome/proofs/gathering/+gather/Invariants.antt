use Rattle.std.proofs.Common.{◌-◌, map}
use Rattle.lf_sim.specs.Settings.{world_of, set_of}
use Rattle.lf_outcome.specs.Evidence.{all_of, evidence_at, first_of}
use Rattle.lf_outcome.specs.Unfolding.{later, steps}
use Rattle.lf_outcome.proofs.EvidenceLemmas.{IsGathered, IsPassed}
use Rattle.lf_outcome.proofs.gathering.+gather.Given as goal

-- the parts so far are true, and their points are put behind those of the list
abbrev pub invariant-gather_all-all : goal.invariant-gather_all-all
invariant-gather_all-all g l =
    let w = world_of l.setting in
    let faults = set_of l.run in
    IsGathered (evidence_at w faults l.offset)
    l.parts l.part-index l.initial.points.items l.points.items

-- the parts so far are false, and the list is as it was
abbrev pub invariant-gather_first-any : goal.invariant-gather_first-any
invariant-gather_first-any g l =
    let w = world_of l.setting in
    let faults = set_of l.run in
    IsPassed (evidence_at w faults l.offset)
    l.parts l.part-index l.initial.points.items l.points.items

-- all parts are true at the steps so far, and their points are put behind those of the list
abbrev pub invariant-gather_all_over-steps : goal.invariant-gather_all_over-steps
invariant-gather_all_over-steps g l =
    let w = world_of l.setting in
    let faults = set_of l.run in
    IsGathered (λ t. all_of (map (evidence_at w faults (later l.offset t)) l.parts))
    (steps l.first l.last) (l.step - l.first) l.initial.points.items l.points.items

-- no part is true at the steps so far, and the list is as it was
abbrev pub invariant-gather_first_over-steps : goal.invariant-gather_first_over-steps
invariant-gather_first_over-steps g l =
    let w = world_of l.setting in
    let faults = set_of l.run in
    IsPassed (λ t. first_of (map (evidence_at w faults (later l.offset t)) l.parts))
    (steps l.first l.last) (l.step - l.first) l.initial.points.items l.points.items
