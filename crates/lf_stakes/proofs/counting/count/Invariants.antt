use Rattle.std.proofs.Common.{◌≡◌, ℕ, ◌+◌, ◌<◌, ◌≤◌}
use Rattle.std.specs.Prelude.{if◌then◌else◌, slice_index}
use Rattle.lf_stakes.specs.Stakes.{has_number}
use Rattle.lf_stakes.proofs.counting.count.Given as goal

-- those before i are counted, and the others are as they were
abbrev pub invariant-loop-i : goal.invariant-loop-i
invariant-loop-i l =
    ((k : ℕ) → k < l.i → slice_index l.counts k ≡ slice_index l.initial.counts k + (if has_number (k + 1) l.numbers then 1 else 0))
    × ((k : ℕ) → l.i ≤ k → slice_index l.counts k ≡ slice_index l.initial.counts k)
