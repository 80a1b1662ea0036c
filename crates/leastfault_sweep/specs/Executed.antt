-- What a sweep comes to.
use Rattle.std.specs.Prelude.{◌≡◌, ◌≢◌, ◌⊎◌, ℕ, ◌<◌, ◌≤◌, Bool, false, List, [], ◌∷◌, ◌++◌, length}
use Rattle.std.specs.Prelude.{Option, None, Some, Result, Err, IfOk, IfErr, String, string_bytes}
use Rattle.std.specs.Option.{option_map}
use Rattle.std.specs.Io.KnownBytes.{Appends}
use Rattle.std.specs.declared.alloc.Global.{Global}
use Rattle.toml.specs.Data.{Members, members_have_valid_dates}
use Rattle.lf_protocol_file.specs.declared.error.ProtocolError.{ProtocolError}
use Rattle.lf_protocol_file.specs.declared.error.ProtocolError.TheVariants as refusals
use Rattle.lf_protocol_file.specs.Files as files
use Rattle.lf_scenario.specs.Limits.{longest}
use Rattle.lf_scenario.specs.declared.error.ScenarioError.TheVariants as scenarios
use Rattle.lf_sweep.specs.Combinations.{combinations, words_at}
use Rattle.lf_sweep.specs.Texts.{IsScenario, with_words}
use Rattle.lf_sweep.specs.Counts.{status_of}
use Rattle.lf_sweep.specs.Studies.{WasBegun}
use Rattle.lf_protocol_file.specs.declared.declared.Declared.{Declared}
use Rattle.leastfault.specs.declared.fault.BytesFault.{BytesFault}
use Rattle.leastfault.specs.declared.fault.BytesFault.TheVariants as faults
use Rattle.leastfault.specs.Engines.{IsFront, tells_read, tells_write}
use Rattle.leastfault.specs.Places.{AddsFront, IsFrontAt, place_of, read_of}
use Rattle.lf_streams.specs.Files.{Adds, Desk}
use Rattle.leastfault.specs.Protocols.{protocol_refusal}
use Rattle.leastfault.specs.Reports.{refusal}
use Rattle.lf_sweep_words.specs.declared.types.SweepAsked.{SweepAsked}
use Rattle.leastfault_sweep.specs.declared.executing.Ended.{Ended}
use Rattle.leastfault_sweep.specs.declared.executing.SweepExecuted.{SweepExecuted}
use Rattle.leastfault_sweep.specs.declared.reading.SweepTexts.{SweepTexts}
use Rattle.leastfault_sweep.specs.declared.executing.Ended.TheVariants as ended
use Rattle.leastfault_sweep.specs.Replies.{IsKnownIn, IsSweep, RefusesBy, RepliesBy}

-- the status: that of the replies' counts, and else 2
abbrev pub end_status : Ended → ℕ
end_status (ended.Swept counts) = status_of counts
end_status (ended.Refused line) = 2
end_status ended.Undated = 2

-- which files a sweep reads: that of the protocol, where one is named, which is a file also where it is `-`, and that of the scenario
abbrev pub protocol_place : SweepAsked → Option (Option (List ℕ))
protocol_place a = option_map (λ name. Some (string_bytes name)) a.protocol

abbrev pub scenario_place : SweepAsked → Option (List ℕ)
scenario_place a = place_of (string_bytes a.file)

-- what a sweep reads, in this order
abbrev pub reads_of : SweepAsked → List (Option (List ℕ) × ℕ)
reads_of a = read_of (protocol_place a) longest ++ ((scenario_place a, longest) ∷ [])

-- the text of a protocol file, where one is named
abbrev pub given_of : SweepTexts → Option (List ℕ)
given_of texts = option_map (λ bytes. bytes.items) texts.protocol

-- the texts are those at the front of what the files hold
abbrev pub AreFronts : SweepAsked → (Option (List ℕ) → Option (List ℕ)) → SweepTexts → Type 0
AreFronts a holds texts =
    IsFrontAt holds (protocol_place a) longest (given_of texts) × IsFront longest (holds (scenario_place a)) texts.scenario.items

-- no protocol file is given, or it is one
abbrev pub IsReadable : Option (List ℕ) → Type 0
IsReadable protocol = (known : Option Declared) × IsKnownIn protocol known

-- one is given and refused, with this line
abbrev pub IsRefusedFile : Option (List ℕ) → List ℕ → Type 0
IsRefusedFile None line = ⊥
IsRefusedFile (Some text) line = (why : ProtocolError) × (why ≢ refusals.Memory) × files.IsRefused text why × (line ≡ protocol_refusal why)

abbrev pub IsPastProtocol : Option (List ℕ) → Option (String Global) → Type 0
IsPastProtocol protocol None = IsReadable protocol
IsPastProtocol protocol (Some line) = IsRefusedFile protocol (string_bytes line)

-- the scenario as a whole is refused, with this line: it is too long, or no TOML document
abbrev pub IsRefusedScenario : List ℕ → List ℕ → Type 0
IsRefusedScenario text line =
    ((longest < length text) × (line ≡ refusal scenarios.TooLong))
    ⊎ ((length text ≤ longest) × ((ms : Members) → ¬ (IsScenario text ms)) × (line ≡ refusal scenarios.NoDocument))

module _ {W : Type 0} (written : W → Option (List ℕ)) (has_failed : W → Bool) (asked : SweepAsked) (protocol : Option (List ℕ)) (text : List ℕ) where
  -- a front of the lines was written
  abbrev pub HasBegun : W → W → Type 0
  HasBegun old new =
      WasBegun written has_failed (RepliesBy protocol asked.by) (RefusesBy protocol) text asked.plan.varied.items asked.part 0 old new

  -- by the texts of the protocol file, where one is named, and of the scenario it comes to this: all lines were written, and these are their
  -- counts; or the protocol file is refused, or else the scenario, and nothing was written; or a combination has a date that can't be written
  abbrev pub IsEnd : W → W → Ended → Type 0
  IsEnd old new (ended.Swept counts) =
      IsReadable protocol × (length text ≤ longest)
      × ((bytes : List ℕ) × IsSweep protocol asked.by text asked.plan.varied.items asked.part bytes counts × Appends (written old) (written new) bytes)
  IsEnd old new (ended.Refused line) =
      (IsRefusedFile protocol (string_bytes line) ⊎ (IsReadable protocol × IsRefusedScenario text (string_bytes line)))
      × Appends (written old) (written new) []
  IsEnd old new ended.Undated =
      (IsReadable protocol × (length text ≤ longest)
      × ((number : ℕ) × (ms : Members) × (number < combinations asked.plan.varied.items) × IsScenario text ms
      × (members_have_valid_dates (with_words asked.plan.varied.items (words_at asked.plan.varied.items number) ms) ≡ false)))
      × HasBegun old new

  -- so it ends, or a front of the lines was written where the sink failed or memory ran out
  pub record IsSweptOrNot (old new : W) (result : Result Ended BytesFault) : Type 0 where
    pub done : IfOk result (IsEnd old new)
    pub front : IfErr result (λ _. HasBegun old new)
    pub sink : has_failed new ≡ tells_write result
    pub source : tells_read result ≡ false
    pub pool : (number : ℕ) → ¬ (result ≡ Err (faults.Pool number))

-- what the files hold that the words name comes to that
pub record IsExecuted {W : Type 0} (written : W → Option (List ℕ)) (has_failed : W → Bool) (asked : SweepAsked) (old new : Desk) (before after : W)
    (result : Result SweepExecuted BytesFault) : Type 0 where
  -- both texts were read, each once, and they come to this
  pub done : IfOk result (λ x. AreFronts asked old.holds x.texts × Adds (reads_of asked) old.reads new.reads
      × IsEnd written has_failed asked (given_of x.texts) x.texts.scenario.items before after x.ended)
  -- else a front of the lines was written, once both were read, or nothing
  pub begun : IfErr result (λ _. Appends (written before) (written after) []
      ⊎ ((texts : SweepTexts) × AreFronts asked old.holds texts × Adds (reads_of asked) old.reads new.reads
      × HasBegun written has_failed asked (given_of texts) texts.scenario.items before after))
  -- no more than this was read, and nothing was written into files
  pub front : AddsFront (reads_of asked) old.reads new.reads
  pub unwritten : new.writes ≡ old.writes
  pub well : new.write_failed ≡ old.write_failed
  -- `Read` says that a read failed, and `Write` that the sink did
  pub source : new.read_failed ≡ tells_read result
  pub sink : has_failed after ≡ tells_write result
  pub pool : (number : ℕ) → ¬ (result ≡ Err (faults.Pool number))
