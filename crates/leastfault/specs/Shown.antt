-- The replies to runs, told as it is asked.
use Rattle.std.specs.Prelude.{◌≡◌, ◌⊎◌, ⊤, ℕ, Bool, false, true, List, string_bytes, Option, None, Some}
use Rattle.lf_trace.specs.Beside.{beside_by}
use Rattle.lf_trace.specs.Changes.{changes_by}
use Rattle.lf_faults.specs.declared.fault.Parts.{Parts}
use Rattle.lf_faults.specs.Allowed.{IsAllowed}
use Rattle.lf_sim.specs.Settings.{world_of}
use Rattle.lf_outcome.specs.declared.scenario.Scenario.{Scenario}
use Rattle.lf_trace.specs.Namings.{Names}
use Rattle.lf_trace.specs.Words.{words_of}
use Rattle.lf_words.specs.declared.types.Shown.{Shown}
use Rattle.lf_words.specs.declared.types.Shown.TheVariants as shown
use Rattle.lf_protocol_file.specs.declared.declared.Declared.{Declared}
use Rattle.leastfault.specs.declared.shown.Told.{Told}
use Rattle.leastfault.specs.declared.shown.Told.TheVariants as told
use Rattle.leastfault.specs.Answers.{reaches_in}
use Rattle.leastfault.specs.Known.{IsTextOf}
use Rattle.leastfault.specs.Delayed.{IsDelayedReply}
use Rattle.leastfault.specs.Replies.{HasOneReply, HasOneStatus, IsRunReply, RepliesNoSet, RepliesRefusal, RepliesTrace, tells_rules}
use Rattle.leastfault.specs.Reports.{run_status}

-- what is told of the run of a set. No contract says which text a JSON document or a picture is
abbrev pub Tells : Told → Scenario → List Parts → List ℕ → Type 0
Tells told.Changes s set reply = reply ≡ changes_by (words_of s.setting.machine) (world_of s.setting) set s.formula
Tells told.Json s set reply = ⊤
Tells told.Picture s set reply = ⊤

-- the same of the set that the words name, where it is allowed, with the status of the run
abbrev pub RepliesTold : Told → List ℕ → Scenario → List ℕ → ℕ → Type 0
RepliesTold told words s reply status =
    (set : List Parts) × Names words set × IsAllowed s.setting.spec set × Tells told s set reply × (status ≡ run_status (reaches_in s set))

-- the reply to a text and the words that name a set: the scenario's refusal comes before the words
abbrev pub IsToldReply : Told → Option Declared → List ℕ → List ℕ → List ℕ → ℕ → Type 0
IsToldReply told known words text reply status =
    RepliesRefusal known text reply status
    ⊎ ((s : Scenario) × IsTextOf known s text × (RepliesNoSet words s reply status ⊎ RepliesTold told words s reply status))

-- how the run of a set differs from that of the set that the other words name, where that is allowed, with the status of the first
abbrev pub RepliesBeside : List ℕ → List Parts → Scenario → List ℕ → ℕ → Type 0
RepliesBeside other set s reply status =
    RepliesNoSet other s reply status
    ⊎ ((besides : List Parts) × (Names other besides × IsAllowed s.setting.spec besides)
    × (reply ≡ beside_by (words_of s.setting.machine) (world_of s.setting) besides set s.formula) × (status ≡ run_status (reaches_in s set)))

-- the same of the set that the words name, where it is allowed
abbrev pub RepliesBesides : List ℕ → List ℕ → Scenario → List ℕ → ℕ → Type 0
RepliesBesides other words s reply status =
    RepliesNoSet words s reply status
    ⊎ ((set : List Parts) × (Names words set × IsAllowed s.setting.spec set) × RepliesBeside other set s reply status)

abbrev pub IsBesideReply : List ℕ → Option Declared → List ℕ → List ℕ → List ℕ → ℕ → Type 0
IsBesideReply other known words text reply status =
    RepliesRefusal known text reply status ⊎ ((s : Scenario) × IsTextOf known s text × RepliesBesides other words s reply status)

-- the reply of a run to a scenario and the words that name a set: with the rules that nodes took, or without
abbrev pub RepliesRun : Bool → List ℕ → Scenario → List ℕ → ℕ → Type 0
RepliesRun rules words s reply status = RepliesNoSet words s reply status ⊎ RepliesTrace rules words s reply status

-- and one that tells this of it
abbrev pub RepliesNamed : Told → List ℕ → Scenario → List ℕ → ℕ → Type 0
RepliesNamed told words s reply status = RepliesNoSet words s reply status ⊎ RepliesTold told words s reply status

-- the same, told as it is asked
abbrev pub RepliesShown : Bool → Shown → List ℕ → Scenario → List ℕ → ℕ → Type 0
RepliesShown rules shown.Whole = RepliesRun false
RepliesShown rules shown.Rules = RepliesRun rules
RepliesShown rules shown.Changes = RepliesNamed told.Changes
RepliesShown rules shown.Json = RepliesNamed told.Json
RepliesShown rules (shown.Beside other) = RepliesBesides (string_bytes other)

-- the reply of a run by the scenario's seed, told as it is asked
abbrev pub IsSeededReply : Option Declared → Shown → List ℕ → List ℕ → List ℕ → ℕ → Type 0
IsSeededReply known shown.Whole = IsRunReply known false
IsSeededReply known shown.Rules = IsRunReply known (tells_rules known true)
IsSeededReply known shown.Changes = IsToldReply told.Changes known
IsSeededReply known shown.Json = IsToldReply told.Json known
IsSeededReply known (shown.Beside other) = IsBesideReply (string_bytes other) known

-- the reply of a run, told as it is asked: by the seed, or where notes arrive as words say
abbrev pub IsShownReply : Option Declared → Shown → Option (List ℕ) → List ℕ → List ℕ → List ℕ → ℕ → Type 0
IsShownReply known how None words = IsSeededReply known how words
IsShownReply known how (Some delays) words = IsDelayedReply known delays (RepliesShown (tells_rules known true) how words)

-- the reply that draws it
abbrev pub IsDrawnReply : Option Declared → Option (List ℕ) → List ℕ → List ℕ → List ℕ → ℕ → Type 0
IsDrawnReply known None words = IsToldReply told.Picture known words
IsDrawnReply known (Some delays) words = IsDelayedReply known delays (RepliesNamed told.Picture words)

-- there is one reply at most, with one status; of a JSON document the status and the refusals are one
abbrev pub HasOneShown : Shown → (List ℕ → ℕ → Type 0) → Type 0
HasOneShown shown.Whole = HasOneReply
HasOneShown shown.Rules = HasOneReply
HasOneShown shown.Changes = HasOneReply
HasOneShown shown.Json = HasOneStatus
HasOneShown (shown.Beside other) = HasOneReply

-- the words for the set beside it name one set at most
abbrev pub NamesOnce : Shown → Type 0
NamesOnce shown.Whole = ⊤
NamesOnce shown.Rules = ⊤
NamesOnce shown.Changes = ⊤
NamesOnce shown.Json = ⊤
NamesOnce (shown.Beside words) = (one other : List Parts) → Names (string_bytes words) one → Names (string_bytes words) other → one ≡ other
