use Rattle.std.proofs.Common.{◌≡◌, ◌-◌, take, true, false}
use Rattle.std.specs.List.{list_all, list_any}
use Rattle.lf_outcome.specs.Truth.{truth, is_down, is_shown_where, is_single_where}
use Rattle.lf_outcome.specs.Unfolding.{later, steps, unfold_at}
use Rattle.lf_sim.specs.Settings.{world_of, set_of}
use Rattle.lf_outcome.proofs.truth.+is_true.Given as goal

-- the parts so far are true
abbrev pub invariant-all_true-all : goal.invariant-all_true-all
invariant-all_true-all g l =
    let w = world_of l.setting in
    let faults = set_of l.run in
    list_all (λ part. truth (is_down w faults) (is_shown_where w faults l.limit) (is_single_where w faults l.limit) (unfold_at part l.offset))
    (take l.part-index l.parts) ≡ true

-- the parts so far aren't true
abbrev pub invariant-any_true-any : goal.invariant-any_true-any
invariant-any_true-any g l =
    let w = world_of l.setting in
    let faults = set_of l.run in
    list_any (λ part. truth (is_down w faults) (is_shown_where w faults l.limit) (is_single_where w faults l.limit) (unfold_at part l.offset))
    (take l.part-index l.parts) ≡ false

-- all parts are true at the steps so far
abbrev pub invariant-all_over-steps : goal.invariant-all_over-steps
invariant-all_over-steps g l =
    let w = world_of l.setting in
    let faults = set_of l.run in
    list_all (λ t. list_all (λ part. truth (is_down w faults) (is_shown_where w faults l.limit) (is_single_where w faults l.limit)
    (unfold_at part (later l.offset t))) l.parts) (take (l.step - l.first) (steps l.first l.last)) ≡ true

-- no part is true at the steps so far
abbrev pub invariant-any_over-steps : goal.invariant-any_over-steps
invariant-any_over-steps g l =
    let w = world_of l.setting in
    let faults = set_of l.run in
    list_any (λ t. list_any (λ part. truth (is_down w faults) (is_shown_where w faults l.limit) (is_single_where w faults l.limit)
    (unfold_at part (later l.offset t))) l.parts) (take (l.step - l.first) (steps l.first l.last)) ≡ false
