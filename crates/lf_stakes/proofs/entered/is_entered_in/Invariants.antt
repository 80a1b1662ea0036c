use Rattle.std.proofs.Common.{◌≡◌, false}
use Rattle.std.specs.List.{list_any, range_with_len}
use Rattle.lf_sim.specs.Settings.{set_of, world_of}
use Rattle.lf_stakes.specs.Entered.{is_entered_by}
use Rattle.lf_stakes.proofs.entered.is_entered_in.Given as goal

-- nothing is entered by the nodes so far
abbrev pub invariant-loop-node : goal.invariant-loop-node
invariant-loop-node l = list_any (is_entered_by (world_of l.setting) (set_of l.run) l.topic) (range_with_len 0 l.node) ≡ false
