use Rattle.std.proofs.Common.{ℕ, ◌<◌, ◌≤◌}
use Rattle.std.specs.List.{count_by}
use Rattle.lf_faults.specs.Allowed.{is_crash_of, is_pause_of}
use Rattle.lf_faults.proofs.allowed.once_each.Given as goal

-- no node so far crashes twice or pauses twice
abbrev pub invariant-loop-node : goal.invariant-loop-node
invariant-loop-node l = (n : ℕ) → n < l.node → (count_by (is_crash_of n) l.set ≤ 1) × (count_by (is_pause_of n) l.set ≤ 1)
