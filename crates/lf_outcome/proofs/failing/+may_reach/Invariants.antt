use Rattle.std.proofs.Common.{◌≡◌, ◌-◌, take, true, false}
use Rattle.std.specs.List.{list_all, list_any}
use Rattle.lf_sim.specs.Settings.{world_of, set_of}
use Rattle.lf_outcome.specs.Failing.{down_or_later, shown_or_later, single_by}
use Rattle.lf_outcome.specs.Truth.{truth}
use Rattle.lf_outcome.specs.Unfolding.{later, steps, unfold_at}
use Rattle.lf_outcome.proofs.failing.+may_reach.Given as goal

-- the parts so far may be true
abbrev pub invariant-all_may-all : goal.invariant-all_may-all
invariant-all_may-all g l =
    let w = world_of l.setting in
    let faults = set_of l.run in
    list_all (λ part. truth (down_or_later w faults l.last) (shown_or_later w faults l.last) (single_by w faults l.last) (unfold_at part l.offset))
    (take l.part-index l.parts) ≡ true

-- the parts so far aren't
abbrev pub invariant-any_may-any : goal.invariant-any_may-any
invariant-any_may-any g l =
    let w = world_of l.setting in
    let faults = set_of l.run in
    list_any (λ part. truth (down_or_later w faults l.last) (shown_or_later w faults l.last) (single_by w faults l.last) (unfold_at part l.offset))
    (take l.part-index l.parts) ≡ false

-- all parts may be true at the steps so far
abbrev pub invariant-all_over-steps : goal.invariant-all_over-steps
invariant-all_over-steps g l =
    let w = world_of l.setting in
    let faults = set_of l.run in
    list_all (λ t. list_all (λ part. truth (down_or_later w faults l.last) (shown_or_later w faults l.last) (single_by w faults l.last)
    (unfold_at part (later l.offset t))) l.parts) (take (l.step - l.first) (steps l.first l.end)) ≡ true

-- no part is true at the steps so far
abbrev pub invariant-any_over-steps : goal.invariant-any_over-steps
invariant-any_over-steps g l =
    let w = world_of l.setting in
    let faults = set_of l.run in
    list_any (λ t. list_any (λ part. truth (down_or_later w faults l.last) (shown_or_later w faults l.last) (single_by w faults l.last)
    (unfold_at part (later l.offset t))) l.parts) (take (l.step - l.first) (steps l.first l.end)) ≡ false
