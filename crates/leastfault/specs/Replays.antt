-- What the replies over every delay promise of one another, and of the runs that play them again.
use Rattle.std.specs.Prelude.{◌≡◌, ◌⊎◌, ◌++◌, ℕ, Bool, List, map, Option, Some, codes}
use Rattle.std.specs.List.{join_with_byte}
use Rattle.lf_delays.specs.declared.delay.Delay.{Delay}
use Rattle.lf_delays.specs.Delays.{arrive_lines, list_text}
use Rattle.lf_faults.specs.declared.fault.Parts.{Parts}
use Rattle.lf_faults.specs.Texts.{spelling}
use Rattle.lf_outcome.specs.declared.scenario.Scenario.{Scenario}
use Rattle.lf_trace.specs.Lines.{line}
use Rattle.lf_protocol_file.specs.declared.declared.Declared.{Declared}
use Rattle.leastfault.specs.Delayed.{IsDelayedReply}
use Rattle.leastfault.specs.Reports.{report}
use Rattle.leastfault.specs.Shown.{RepliesRun}

-- two replies are one, or both report the same set of faults, and may differ in which notes come late
abbrev pub AgreeButForDelays : List ℕ → List ℕ → Type 0
AgreeButForDelays one other =
    (one ≡ other)
    ⊎ ((set : List Parts) × (budget : ℕ) × (ds : List Delay) × (es : List Delay)
    × (one ≡ report budget (Some set) ++ arrive_lines ds) × (other ≡ report budget (Some set) ++ arrive_lines es))

-- the words that name a set: its faults, with one comma (44) between each two
abbrev pub set_words : List Parts → List ℕ
set_words set = join_with_byte 44 (map spelling set)

-- the run misses: the last line says so, and so does the status
abbrev pub EndsInMisses : List ℕ → ℕ → Type 0
EndsInMisses reply status = ((lines : List ℕ) × (reply ≡ lines ++ line (codes "misses"))) × (status ≡ 1)

-- where words name the faults of a reply, the run in which notes arrive as its lines say misses, with the rules that nodes took or without
abbrev pub IsReplayed : Option Declared → List ℕ → List ℕ → Scenario → List ℕ → Type 0
IsReplayed known words text s reply =
    (set : List Parts) × (ds : List Delay) × (reply ≡ report s.setting.spec.budget (Some set) ++ arrive_lines ds)
    × (words ≡ set_words set → (rules : Bool) (again : List ℕ) (status : ℕ)
    → IsDelayedReply known (list_text ds) (RepliesRun rules words) text again status → EndsInMisses again status)
