use Rattle.std.proofs.Common.{◌≡◌, false}
use Rattle.std.specs.Prelude.{is_some}
use Rattle.std.specs.List.{list_any, range_with_len}
use Rattle.lf_outcome.specs.Truth.{entered}
use Rattle.lf_sim.specs.Settings.{set_of, world_of}
use Rattle.lf_stakes.proofs.entered.is_entered_by.Given as goal

-- nothing is entered after the steps so far
abbrev pub invariant-loop-past : goal.invariant-loop-past
invariant-loop-past l =
    list_any (λ t. is_some (entered (world_of l.setting) (set_of l.run) l.topic l.node t)) (range_with_len 1 l.past) ≡ false
