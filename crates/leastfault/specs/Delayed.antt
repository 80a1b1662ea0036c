-- The replies where notes arrive as words say, and over every delay.
use Rattle.std.specs.Prelude.{◌≡◌, ◌⊎◌, ◌++◌, ℕ, Bool, true, false, List, Result, MatchResult, Option, None, Some, IfSome, codes, string_bytes}
use Rattle.std.specs.Option.{option_map}
use Rattle.lf_delays.specs.Answers.{IsFirstUnder}
use Rattle.lf_delays.specs.Windows.{under}
use Rattle.lf_delays.specs.Delays.{IsRead, arrive_lines}
use Rattle.lf_delays.specs.Told.{told}
use Rattle.lf_faults.specs.declared.fault.Parts.{Parts}
use Rattle.lf_latency.specs.declared.arrivals.Arrivals.{Arrivals}
use Rattle.lf_latency.specs.Arrivals.{arrival_in, choosing}
use Rattle.lf_outcome.specs.declared.scenario.Scenario.{Scenario}
use Rattle.lf_sim.specs.Settings.{world_of}
use Rattle.lf_delays.specs.Trials.{IsTightBy}
use Rattle.lf_trace.specs.Lines.{line}
use Rattle.lf_protocol_file.specs.declared.declared.Declared.{Declared}
use Rattle.leastfault.specs.declared.reply.Reply.{Reply}
use Rattle.leastfault.specs.Known.{IsTextOf}
use Rattle.leastfault.specs.Replies.{IsAnswerReply, RepliesRefusal}
use Rattle.leastfault.specs.Reports.{report, search_status}

-- the scenario is the other one, but that notes arrive as chosen
pub record IsChoosing (s : Scenario) (arrivals : Arrivals) (given : Scenario) : Type 0 where
  pub machine : given.setting.machine ≡ s.setting.machine
  pub network : given.setting.network ≡ choosing s.setting.network arrivals
  pub spec : given.setting.spec ≡ s.setting.spec
  pub formula : given.formula ≡ s.formula
  pub max_sets : given.max_sets ≡ s.max_sets

-- it is the other one, but that notes arrive as the words say
abbrev pub HasDelays : List ℕ → Scenario → Scenario → Type 0
HasDelays words s given = (arrivals : Arrivals) × IsRead s.setting.network words (Some arrivals) × IsChoosing s arrivals given

-- the line that words name no delays of the scenario's network
abbrev pub no_delays_line : List ℕ
no_delays_line = line (codes "refused delays")

-- that line, where they name none, with status 2
abbrev pub RepliesNoDelays : List ℕ → Scenario → List ℕ → ℕ → Type 0
RepliesNoDelays words s reply status = IsRead s.setting.network words None × (reply ≡ no_delays_line) × (status ≡ 2)

-- of a scenario: the one in which notes arrive as the words say, or the reply where these are refused
abbrev pub IsGivenTo : Scenario → List ℕ → Result Scenario (Reply ℕ) → Type 0
IsGivenTo s words r = MatchResult r (HasDelays words s) (λ reply. RepliesNoDelays words s (string_bytes reply.text) reply.value)

-- the same of a text: the scenario's refusal comes before that of the words
abbrev pub IsGivenOf : Option Declared → List ℕ → List ℕ → Result Scenario (Reply ℕ) → Type 0
IsGivenOf known words text r = MatchResult r
    (λ given. (s : Scenario) × IsTextOf known s text × HasDelays words s given)
    (λ reply. RepliesRefusal known text (string_bytes reply.text) reply.value
    ⊎ ((s : Scenario) × IsTextOf known s text × RepliesNoDelays words s (string_bytes reply.text) reply.value))

-- the reply to a text where notes arrive as the words say, by what is replied to a scenario
abbrev pub IsDelayedReply : Option Declared → List ℕ → (Scenario → List ℕ → ℕ → Type 0) → List ℕ → List ℕ → ℕ → Type 0
IsDelayedReply known words Replies text reply status =
    RepliesRefusal known text reply status
    ⊎ ((s : Scenario) × IsTextOf known s text
    × (RepliesNoDelays words s reply status ⊎ ((given : Scenario) × HasDelays words s given × Replies given reply status)))

-- the report of a set of faults, and which notes come late in its run under these arrivals
abbrev pub late_report : Scenario → List Parts → Arrivals → List ℕ
late_report s set arrivals =
    report s.setting.spec.budget (Some set) ++ arrive_lines (told (under (world_of s.setting) (arrival_in arrivals)) set s.setting.network.links)

-- the same of an answer over every delay
abbrev pub every_delay_report : Scenario → Option (List Parts × Arrivals) → List ℕ
every_delay_report s None = report s.setting.spec.budget None
every_delay_report s (Some found) = late_report s found.0 found.1

-- no late note of its run can be spared: with any one of them as early as it can be, and the others as they are, the set reaches
abbrev pub IsTightAnswer : Scenario → Option (List Parts × Arrivals) → Type 0
IsTightAnswer s answer = IfSome answer (λ found. IsTightBy s found.0 found.1)

-- the report of the answer over every delay, with its status
abbrev pub RepliesEveryDelay : Scenario → List ℕ → ℕ → Type 0
RepliesEveryDelay s reply status =
    (answer : Option (List Parts × Arrivals))
    × IsFirstUnder s.setting.network s.setting.spec (world_of s.setting) s.formula answer × IsTightAnswer s answer
    × (reply ≡ every_delay_report s answer) × (status ≡ search_status (option_map (λ found. found.0) answer))

-- the reply to a text
abbrev pub IsEveryDelayReply : Option Declared → List ℕ → List ℕ → ℕ → Type 0
IsEveryDelayReply known text reply status =
    RepliesRefusal known text reply status ⊎ ((s : Scenario) × IsTextOf known s text × RepliesEveryDelay s reply status)

-- the reply that tells the answer, by the seed or over every delay
abbrev pub IsAnswerAsked : Option Declared → Bool → List ℕ → List ℕ → ℕ → Type 0
IsAnswerAsked known false = IsAnswerReply known
IsAnswerAsked known true = IsEveryDelayReply known
