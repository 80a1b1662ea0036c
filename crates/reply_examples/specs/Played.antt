-- A reply that is played again.
use Rattle.std.specs.Prelude.{◌≡◌, ◌++◌, ℕ, List, Some}
use Rattle.lf_delays.specs.declared.delay.Delay.{Delay}
use Rattle.lf_delays.specs.Delays.{arrive_lines, list_text}
use Rattle.lf_faults.specs.declared.fault.Parts.{Parts}
use Rattle.leastfault.specs.Replays.{set_words}
use Rattle.leastfault.specs.Reports.{report}

-- the text tells a set of faults and which notes come late, and these are the words that name them
abbrev pub IsNamedBy : List ℕ → List ℕ → List ℕ → Type 0
IsNamedBy told faults delays =
    (set : List Parts) × (ds : List Delay) × (told ≡ report 0 (Some set) ++ arrive_lines ds) × (faults ≡ set_words set) × (delays ≡ list_text ds)
