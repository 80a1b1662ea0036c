-- The replies to the combinations of a sweep.
use Rattle.std.specs.Prelude.{◌≡◌, ◌≢◌, ℕ, List, Option, None, Some}
use Rattle.std.specs.Borrow.{Bor}
use Rattle.std.specs.Option.{option_map}
use Rattle.lf_protocol_file.specs.declared.error.ProtocolError.{ProtocolError}
use Rattle.lf_protocol_file.specs.declared.error.ProtocolError.TheVariants as refusals
use Rattle.lf_protocol_file.specs.Files as files
use Rattle.lf_sweep.specs.declared.part.Part.{Part}
use Rattle.lf_sweep.specs.declared.varied.Varied.{Varied}
use Rattle.lf_sweep.specs.Combinations.{combinations}
use Rattle.lf_sweep.specs.Parts.{IsLengthOf}
use Rattle.lf_sweep.specs.Studies.{AreToldAt}
use Rattle.lf_sweep.specs.declared.counts.Counts.{Counts}
use Rattle.lf_sweep.specs.declared.fault.SweepFault.{SweepFault}
use Rattle.lf_sweep.specs.declared.fault.SweepFault.TheVariants as faults
use Rattle.lf_protocol_file.specs.declared.declared.Declared.{Declared}
use Rattle.leastfault.specs.Replies.{IsAnswerReply, IsSearchReply}
use Rattle.lf_sweep_words.specs.declared.types.By.{By}
use Rattle.lf_sweep_words.specs.declared.types.By.TheVariants as by

-- the text that is given, where one is
abbrev pub text_of : Option (Bor (List ℕ)) → Option (List ℕ)
text_of given = option_map (λ text. text.now) given

-- the protocol that is known is that of the file's text, where there is one
abbrev pub IsKnownIn : Option (List ℕ) → Option Declared → Type 0
IsKnownIn None None = Unit {0}
IsKnownIn None (Some file) = ⊥
IsKnownIn (Some text) None = ⊥
IsKnownIn (Some text) (Some file) = files.IsText file text

-- the reply to a scenario's text, with its status
abbrev pub IsReplyBy : By → Option Declared → List ℕ → List ℕ → ℕ → Type 0
IsReplyBy by.Answer known text reply status = IsAnswerReply known text reply status
IsReplyBy by.Search known text reply status = IsSearchReply known text reply status

-- the reply to a scenario's text, with its status, where the text of a protocol file may be given
pub record RepliesBy (protocol : Option (List ℕ)) (by : By) (text reply : List ℕ) (status : ℕ) : Type 0 where
  pub known : Option Declared
  pub is_known : IsKnownIn protocol known
  pub is : IsReplyBy by known text reply status

-- a protocol file is given, and refused
abbrev pub IsRefusedIn : Option (List ℕ) → Type 0
IsRefusedIn None = ⊥
IsRefusedIn (Some text) = (why : ProtocolError) × (why ≢ refusals.Memory) × files.IsRefused text why

-- why there may be no reply, besides want of memory: that
abbrev pub RefusesBy : Option (List ℕ) → SweepFault → Type 0
RefusesBy protocol e = (e ≡ faults.Protocol) × IsRefusedIn protocol

-- the bytes are the lines of all of a part's combinations, in their order, and these are the counts of their replies
abbrev pub IsSweep : Option (List ℕ) → By → List ℕ → List Varied → Part → List ℕ → Counts → Type 0
IsSweep protocol by scenario vs part bytes counts =
    (some : ℕ) × IsLengthOf part (combinations vs) some × AreToldAt (RepliesBy protocol by) scenario vs part 0 some bytes counts
