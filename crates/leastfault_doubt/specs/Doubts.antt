-- What is asked of a scenario, and what was written of it.
use Rattle.std.specs.Prelude.{◌≡◌, ◌≢◌, ◌⊎◌, ℕ, Bool, List, [], length, Option, None, Some, Result, is_some, string_bytes}
use Rattle.lf_faults.specs.declared.fault.Parts.{Parts}
use Rattle.lf_doubt.specs.declared.ground.Ground.{Ground}
use Rattle.lf_doubt.specs.declared.ground.Stake.{Stake}
use Rattle.lf_doubt.specs.declared.question.Question.{Question}
use Rattle.lf_doubt.specs.Bounds.{has_spread}
use Rattle.lf_doubt.specs.Questions.{questions_of}
use Rattle.lf_mutations.specs.declared.mutation.Mutation.{Mutation}
use Rattle.lf_mutations.specs.Mutations.{mutations}
use Rattle.lf_outcome.specs.declared.scenario.Scenario.{Scenario}
use Rattle.lf_protocol_file.specs.declared.declared.Declared.{Declared}
use Rattle.lf_protocol_file.specs.declared.error.ProtocolError.{ProtocolError}
use Rattle.lf_protocol_file.specs.declared.error.ProtocolError.TheVariants as refusals
use Rattle.lf_protocol_file.specs.Files as files
use Rattle.lf_sim.specs.Settings.{world_of}
use Rattle.lf_staked.specs.Stakes.{AreStakes}
use Rattle.lf_stakes.specs.Singles.{AreSingles}
use Rattle.lf_stakes.specs.Stakes.{counts_of}
use Rattle.lf_stakes.specs.Starting.{starts_of}
use Rattle.lf_sweep.specs.declared.counts.Counts.{Counts}
use Rattle.lf_sweep.specs.declared.fault.SweepFault.{SweepFault}
use Rattle.lf_sweep.specs.declared.part.Part.{Part}
use Rattle.lf_sweep.specs.Counts.{Told}
use Rattle.lf_sweep.specs.Sweeps as sweeps
use Rattle.leastfault.specs.Known.{IsTextOf}
use Rattle.leastfault.specs.Protocols.{protocol_refusal}
use Rattle.leastfault.specs.Replies.{IsAnswerReply, RepliesRefusal}
use Rattle.leastfault_sweep.specs.Replies.{IsKnownIn}
use Rattle.leastfault_doubt.specs.declared.doubting.Begun.{Begun}
use Rattle.leastfault_doubt.specs.declared.doubting.Begun.TheVariants as begun
use Rattle.leastfault_doubt.specs.Replies.{HasNoReply, IsReplyTo, told_line}

-- what may be changed in the rules of the protocol of a file
abbrev pub changes_of : Option Declared → Bool → List Mutation
changes_of None deep = []
changes_of (Some file) deep = mutations file.definition deep

-- what was counted of the parts of the promise of a file's scenario; what a shipped protocol promises is told of in no parts
abbrev pub AreStakesOf : Option Declared → List ℕ → Scenario → List (List Parts) → List Stake → Type 0
AreStakesOf None text s sets stakes = stakes ≡ []
AreStakesOf (Some file) text s sets stakes = AreStakes file text s sets stakes

-- the questions about the answer to a scenario: what was counted in its runs without a fault and with each single allowed one, and what may be changed
pub record AreQuestions (known : Option Declared) (text : List ℕ) (s : Scenario) (deep : Bool) (questions : List Question) : Type 0 where
  pub sets : List (List Parts)
  pub singles : AreSingles s.setting.spec sets
  pub ground : Ground
  pub changes : ground.mutations.now ≡ changes_of known deep
  pub taken : ground.taken.now ≡ counts_of s.setting.machine (world_of s.setting) sets
  pub starting : ground.starting.now ≡ starts_of s.setting.machine
  pub runs : ground.runs ≡ length sets
  pub bounds : ground.bounds ≡ s.setting.spec
  pub spread : ground.has_spread ≡ has_spread s.setting.network
  pub own : ground.is_own ≡ is_some known
  pub parts : AreStakesOf known text s sets ground.stakes.now
  pub asked : questions ≡ questions_of ground

-- the text is a scenario's, and these are the questions about its answer, and the reply that tells it
pub record AreReadyWith (known : Option Declared) (text : List ℕ) (deep : Bool) (reply : List ℕ) (status : ℕ) (questions : List Question) : Type 0 where
  pub scenario : Scenario
  pub is_scenario : IsTextOf known scenario text
  pub are : AreQuestions known text scenario deep questions
  pub answer : IsAnswerReply known text reply status

-- the same where the text of a protocol file may be given
pub record AreReady (protocol : Option (List ℕ)) (text : List ℕ) (deep : Bool) (reply : List ℕ) (status : ℕ) (questions : List Question) : Type 0 where
  pub known : Option Declared
  pub is_known : IsKnownIn protocol known
  pub ready : AreReadyWith known text deep reply status questions

-- a protocol file is given and refused, with this line
abbrev pub IsRefusedProtocol : Option (List ℕ) → List ℕ → Type 0
IsRefusedProtocol None line = ⊥
IsRefusedProtocol (Some text) line = (why : ProtocolError) × (why ≢ refusals.Memory) × files.IsRefused text why × (line ≡ protocol_refusal why)

-- the scenario is
pub record IsRefusedScenario (protocol : Option (List ℕ)) (text line : List ℕ) : Type 0 where
  pub known : Option Declared
  pub is_known : IsKnownIn protocol known
  pub refused : RepliesRefusal known text line 2

-- what is found before anything is asked
abbrev pub IsBegunWith : Option Declared → List ℕ → Bool → Begun → Type 0
IsBegunWith known text deep (begun.Refused line) = RepliesRefusal known text (string_bytes line) 2
IsBegunWith known text deep (begun.Ready given questions) =
    AreReadyWith known text deep (string_bytes given.text) given.status questions.items

abbrev pub IsBegun : Option (List ℕ) → List ℕ → Bool → Begun → Type 0
IsBegun protocol text deep (begun.Refused line) =
    IsRefusedProtocol protocol (string_bytes line) ⊎ IsRefusedScenario protocol text (string_bytes line)
IsBegun protocol text deep (begun.Ready given questions) = AreReady protocol text deep (string_bytes given.text) given.status questions.items

module _ {W : Type 0} (written : W → Option (List ℕ)) (has_failed : W → Bool) where
  module _ (seconds : Option ℕ) (protocol : Option (List ℕ)) (text : List ℕ) (given : Told) (questions : List Question) (part : Part) where
    -- the line of each of a part's questions was written, in their order; or a front of these lines, where it ended before
    abbrev pub WasAsked : W → W → Result Counts SweepFault → Type 0
    WasAsked =
        sweeps.WasSwept written has_failed (length questions) (IsReplyTo seconds protocol text given questions) (told_line questions)
        (λ number. HasNoReply protocol text) part
