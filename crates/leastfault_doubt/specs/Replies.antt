-- The replies to questions, and their lines.
use Rattle.std.specs.Prelude.{◌≡◌, ◌⊎◌, ℕ, Bool, true, false, List, [], ◌∷◌, codes, Option, None, Some, IsSome, slice_get}
use Rattle.lf_doubt.specs.declared.change.Change.{Change}
use Rattle.lf_doubt.specs.declared.change.Change.TheVariants as changes
use Rattle.lf_doubt.specs.declared.question.Question.{Question}
use Rattle.lf_doubt.specs.declared.question.Question.TheVariants as asks
use Rattle.lf_doubt.specs.Names.{counted_reply, question_name}
use Rattle.lf_mutations.specs.declared.mutation.Mutation.{Mutation}
use Rattle.lf_protocol_file.specs.declared.declared.Declared.{Declared}
use Rattle.lf_sweep.specs.declared.fault.SweepFault.{SweepFault}
use Rattle.lf_sweep.specs.declared.fault.SweepFault.TheVariants as faults
use Rattle.lf_sweep.specs.Counts.{Told}
use Rattle.lf_sweep.specs.Lines.{line_of}
use Rattle.leastfault.specs.Delayed.{IsAnswerAsked}
use Rattle.leastfault_sweep.specs.Replies.{IsKnownIn, IsRefusedIn}
use Rattle.lf_changes.specs.Changed.{HasNoChangedText, HasNoRule, IsChangedText, IsMutant}

-- a reply that takes longer than it may is left open: only where the seconds are limited
pub record IsOpen (seconds : Option ℕ) (reply : List ℕ) (status : ℕ) : Type 0 where
  pub limited : IsSome seconds
  pub words : reply ≡ codes "open\n"
  pub undecided : status ≡ 2

-- the answer to a scenario's text, by the seed or over every delay, or it is left open
abbrev pub IsAnsweredOrOpen : Option ℕ → Option Declared → Bool → List ℕ → List ℕ → ℕ → Type 0
IsAnsweredOrOpen seconds known every_delay text reply status =
    IsAnswerAsked known every_delay text reply status ⊎ IsOpen seconds reply status

-- what was counted is told
pub record IsCounted (words : List ℕ) (reply : List ℕ) (status : ℕ) : Type 0 where
  pub told : reply ≡ words
  pub well : status ≡ 0

-- the reply is the one that is given
pub record IsGiven (given : Told) (reply : List ℕ) (status : ℕ) : Type 0 where
  pub text : reply ≡ given.0
  pub same : status ≡ given.1

module _ (seconds : Option ℕ) (protocol : Option (List ℕ)) (scenario : List ℕ) (given : Told) where
  -- the answer with the given protocol
  pub record IsAnswered (every_delay : Bool) (text reply : List ℕ) (status : ℕ) : Type 0 where
    pub known : Option Declared
    pub is_known : IsKnownIn protocol known
    pub answer : IsAnsweredOrOpen seconds known every_delay text reply status

  -- the answer to the given scenario with a change made in a rule of the protocol
  pub record IsAnsweredWithout (m : Mutation) (reply : List ℕ) (status : ℕ) : Type 0 where
    pub text : List ℕ
    pub is_given : protocol ≡ Some text
    pub changed : Declared
    pub mutant : IsMutant text m changed
    pub answer : IsAnsweredOrOpen seconds (Some changed) false scenario reply status

  -- there is nothing that is changed so
  pub record IsNoRule (m : Mutation) (reply : List ℕ) (status : ℕ) : Type 0 where
    pub none : (text : List ℕ) → protocol ≡ Some text → HasNoRule text m
    pub words : reply ≡ codes "no such rule\n"
    pub undecided : status ≡ 2

  -- the answer to the scenario with another value at a key
  pub record IsAnsweredWith (every_delay : Bool) (change : Change) (reply : List ℕ) (status : ℕ) : Type 0 where
    pub text : List ℕ
    pub changed : IsChangedText scenario change text
    pub answer : IsAnswered every_delay text reply status

  -- the reply to a question. That to the first is given
  abbrev pub IsReplyOf : Question → List ℕ → ℕ → Type 0
  IsReplyOf asks.Given reply status = IsGiven given reply status
  IsReplyOf (asks.Taken rule times runs) reply status = IsCounted (counted_reply (codes "taken ") times runs) reply status
  IsReplyOf (asks.Rule m) reply status = IsAnsweredWithout m reply status ⊎ IsNoRule m reply status
  IsReplyOf (asks.Part stake) reply status = IsCounted (counted_reply (codes "holds ") stake.times stake.runs) reply status
  IsReplyOf (asks.With change) reply status = IsAnsweredWith false change reply status
  IsReplyOf asks.EveryDelay reply status = IsAnswered true scenario reply status
  IsReplyOf asks.Spread reply status = IsAnsweredWith true (changes.Spread 1) reply status

  -- the reply to the question at a place of a list
  pub record IsReplyTo (questions : List Question) (number : ℕ) (told : Told) : Type 0 where
    pub question : Question
    pub there : slice_get questions number ≡ Some question
    pub replied : IsReplyOf question told.0 told.1

-- why there may be none, besides want of memory: the protocol file is refused, or the scenario is no document or has a date that can't be written
abbrev pub HasNoReply : Option (List ℕ) → List ℕ → SweepFault → Type 0
HasNoReply protocol scenario e =
    ((e ≡ faults.Protocol) × IsRefusedIn protocol) ⊎ ((change : Change) × HasNoChangedText scenario change e)

-- what the question at a place is called, as the only cell before the reply
abbrev pub name_at : Option Question → List (List ℕ)
name_at None = []
name_at (Some question) = question_name question ∷ []

-- the line of the question at a place: what it is called, and the reply
abbrev pub told_line : List Question → ℕ → Told → List ℕ
told_line questions number told = line_of (name_at (slice_get questions number)) told.0
