-- Lists of different sets.
use Rattle.std.specs.Prelude.{◌≡◌, ℕ, ◌<◌, List, length, slice_index_or}
use Rattle.lf_faults.specs.declared.fault.Parts.{Parts}

-- no set comes twice
abbrev pub AreDifferent : List (List Parts) → Type 0
AreDifferent sets =
    (i j : ℕ) (d : List Parts) → i < length sets → j < length sets → slice_index_or sets i d ≡ slice_index_or sets j d → i ≡ j
