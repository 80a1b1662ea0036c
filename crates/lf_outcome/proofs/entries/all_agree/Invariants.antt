use Rattle.std.proofs.Common.{◌≡◌, ℕ, ◌+◌, ◌<◌, true, slice_index_or}
use Rattle.lf_outcome.specs.Truth.{agree}
use Rattle.lf_outcome.proofs.entries.all_agree.Given as goal

-- each of the entries so far agrees with the next
abbrev pub invariant-entries : goal.invariant-entries
invariant-entries l =
    (j : ℕ) → j + 1 < l.i
    → agree (slice_index_or l.entries j (record { key = 0; value = 0 })) (slice_index_or l.entries (j + 1) (record { key = 0; value = 0 })) ≡ true
