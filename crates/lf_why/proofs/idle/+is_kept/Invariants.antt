use Rattle.std.proofs.Common.{◌≡◌, ◌-◌, [], take, true, false}
use Rattle.std.specs.List.{list_all, list_any}
use Rattle.lf_outcome.specs.Truth.{reaches}
use Rattle.lf_outcome.specs.Unfolding.{later, steps, unfold_at}
use Rattle.lf_sim.specs.Settings.{world_of}
use Rattle.lf_why.specs.Idle.{idle_world}
use Rattle.lf_why.proofs.idle.+is_kept.Given as goal

-- the parts so far are kept
abbrev pub invariant-all_kept-all : goal.invariant-all_kept-all
invariant-all_kept-all g l =
    list_all (λ part. reaches (idle_world (world_of l.setting)) [] (unfold_at part l.offset)) (take l.part-index l.parts) ≡ true

-- the parts so far aren't
abbrev pub invariant-any_kept-any : goal.invariant-any_kept-any
invariant-any_kept-any g l =
    list_any (λ part. reaches (idle_world (world_of l.setting)) [] (unfold_at part l.offset)) (take l.part-index l.parts) ≡ false

-- all parts are kept at the steps so far
abbrev pub invariant-all_over-steps : goal.invariant-all_over-steps
invariant-all_over-steps g l =
    list_all (λ t. list_all (λ part. reaches (idle_world (world_of l.setting)) [] (unfold_at part (later l.offset t))) l.parts)
    (take (l.step - l.first) (steps l.first l.last)) ≡ true

-- no part is kept at the steps so far
abbrev pub invariant-any_over-steps : goal.invariant-any_over-steps
invariant-any_over-steps g l =
    list_any (λ t. list_any (λ part. reaches (idle_world (world_of l.setting)) [] (unfold_at part (later l.offset t))) l.parts)
    (take (l.step - l.first) (steps l.first l.last)) ≡ false
