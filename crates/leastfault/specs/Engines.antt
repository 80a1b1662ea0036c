-- What every engine promises.
use Rattle.std.specs.Prelude.{◌≡◌, ◌≢◌, ℕ, ◌+◌, ◌<◌, ◌≤◌, ◌||◌, Bool, true, false, List, length, take, drop, string_bytes}
use Rattle.std.specs.Prelude.{◌⊎◌, Option, Some, Result, Ok, Err, IfOk, IfErr, IfSome, MatchResult}
use Rattle.std.specs.Io.KnownBytes.{Appends}
use Rattle.lf_scenario.specs.Limits.{longest}
use Rattle.lf_tree.specs.Texts.{most_bytes}
use Rattle.leastfault.specs.declared.fault.BytesFault.{BytesFault}
use Rattle.leastfault.specs.declared.fault.BytesFault.TheVariants as faults
use Rattle.leastfault.specs.declared.reply.Reply.{Reply}

-- which answers say that a source failed, and which that the sink did
abbrev pub tells_read : {X : Type 0} → Result X BytesFault → Bool
tells_read (Ok _) = false
tells_read (Err faults.Read) = true
tells_read (Err faults.Write) = false
tells_read (Err faults.Memory) = false
tells_read (Err (faults.Pool number)) = false

abbrev pub tells_write : {X : Type 0} → Result X BytesFault → Bool
tells_write (Ok _) = false
tells_write (Err faults.Read) = false
tells_write (Err faults.Write) = true
tells_write (Err faults.Memory) = false
tells_write (Err (faults.Pool number)) = false

-- no more than so many bytes of a source were taken
abbrev pub TookAtMost : ℕ → Option (List ℕ) → Option (List ℕ) → Type 0
TookAtMost most held left = IfSome held (λ h. (n : ℕ) × (n ≤ most) × (left ≡ Some (drop n h)))

-- so many bytes of a source were taken, or all where it held fewer
abbrev pub WasRead : ℕ → Option (List ℕ) → Option (List ℕ) → Type 0
WasRead most held left = IfSome held (λ h. left ≡ Some (drop most h))

-- what is said of a text is true of what a source held: where it doesn't tell, of some text
abbrev pub OfHeld : (List ℕ → Type 0) → Option (List ℕ) → Type 0
OfHeld Says held = (text : List ℕ) × IfSome held (λ h. text ≡ h) × Says text

-- and so of two
abbrev pub OfBoth : (List ℕ → List ℕ → Type 0) → Option (List ℕ) → Option (List ℕ) → Type 0
OfBoth Says held other = OfHeld (λ text. OfHeld (Says text) other) held

-- what is made of sources, before anything is written: what it is, for which causes workers give no answer, whether a source has failed by
-- then, and what was taken
pub record IsMade {Y : Type 0} (IsOne : Y → Type 0) (IsCause : ℕ → Type 0) (failed : Bool) (Took : Type 0) (made : Result Y BytesFault) : Type 0 where
  pub one : IfOk made IsOne
  -- `Read` says that a source failed, and `Write` is for sinks
  pub source : failed ≡ tells_read made
  pub sink : tells_write made ≡ false
  -- workers give no answer for a cause
  pub pool : (number : ℕ) → made ≡ Err (faults.Pool number) → IsCause number
  -- and no more was taken than this
  pub taken : Took

-- and where a reply is written to a sink, which replies there are with which values
pub record IsSent {X W : Type 0} (IsReply : List ℕ → X → Type 0) (IsCause : ℕ → Type 0) (failed : Bool) (Took : Type 0)
    (written : W → Option (List ℕ)) (has_failed : W → Bool) (old new : W) (result : Result X BytesFault) : Type 0 where
  -- a whole reply was written
  pub reply : IfOk result (λ value. (reply : List ℕ) × IsReply reply value × Appends (written old) (written new) reply)
  -- `Write` leaves a part of one, from its front and not the whole, and any other fault nothing
  pub part : result ≡ Err faults.Write → (reply : List ℕ) × (value : X) × (n : ℕ) × IsReply reply value
      × (n < length reply) × Appends (written old) (written new) (take n reply)
  pub unwritten : IfErr result (λ e. e ≢ faults.Write → new ≡ old)
  -- `Read` says that a source failed, and `Write` that the sink did
  pub source : failed ≡ tells_read result
  pub sink : has_failed new ≡ tells_write result
  -- workers give no answer for a cause
  pub pool : (number : ℕ) → result ≡ Err (faults.Pool number) → IsCause number
  -- and no more was taken than this
  pub taken : Took

-- of one source, a scenario's
module _ {R : Type 0} (left : R → Option (List ℕ)) (has_failed : R → Bool) where
  abbrev pub IsMadeOfOne : {Y : Type 0} → (List ℕ → Y → Type 0) → (List ℕ → ℕ → Type 0) → R → R → Result Y BytesFault → Type 0
  IsMadeOfOne IsOne IsCause old new =
      IsMade (λ y. OfHeld (λ text. IsOne text y) (left old)) (λ number. OfHeld (λ text. IsCause text number) (left old))
      (has_failed new) (TookAtMost (longest + 1) (left old) (left new))

  abbrev pub IsEngine : {X W : Type 0} → (List ℕ → List ℕ → X → Type 0) → (List ℕ → ℕ → Type 0) → R → R
      → (W → Option (List ℕ)) → (W → Bool) → W → W → Result X BytesFault → Type 0
  IsEngine IsReply IsCause old new =
      IsSent (λ reply value. OfHeld (λ text. IsReply text reply value) (left old)) (λ number. OfHeld (λ text. IsCause text number) (left old))
      (has_failed new) (TookAtMost (longest + 1) (left old) (left new))

-- of two, a scenario's and a tree's: no more than one byte past the longest text is taken of each. A reply comes only where both were read, to one
-- byte past the longest text or to the end
module _ {R S : Type 0} (left : R → Option (List ℕ)) (has_failed : R → Bool) (left_too : S → Option (List ℕ)) (has_failed_too : S → Bool) where
  abbrev pub IsMadeOfBoth : {Y : Type 0} → (List ℕ → List ℕ → Y → Type 0) → (List ℕ → ℕ → Type 0) → R → R → S → S → Result Y BytesFault → Type 0
  IsMadeOfBoth IsOne IsCause old new old_too new_too =
      IsMade
      (λ y. OfBoth (λ text certificate. IsOne text certificate y) (left old) (left_too old_too)
      × (WasRead (longest + 1) (left old) (left new) × WasRead (most_bytes + 1) (left_too old_too) (left_too new_too)))
      (λ number. OfHeld (λ text. IsCause text number) (left old)) (has_failed new || has_failed_too new_too)
      (TookAtMost (longest + 1) (left old) (left new) × TookAtMost (most_bytes + 1) (left_too old_too) (left_too new_too))

  abbrev pub IsEngineOfBoth : {X W : Type 0} → (List ℕ → List ℕ → List ℕ → X → Type 0) → (List ℕ → ℕ → Type 0) → R → R → S → S
      → (W → Option (List ℕ)) → (W → Bool) → W → W → Result X BytesFault → Type 0
  IsEngineOfBoth IsReply IsCause old new old_too new_too =
      IsSent
      (λ reply value. OfBoth (λ text certificate. IsReply text certificate reply value) (left old) (left_too old_too)
      × (WasRead (longest + 1) (left old) (left new) × WasRead (most_bytes + 1) (left_too old_too) (left_too new_too)))
      (λ number. OfHeld (λ text. IsCause text number) (left old)) (has_failed new || has_failed_too new_too)
      (TookAtMost (longest + 1) (left old) (left new) × TookAtMost (most_bytes + 1) (left_too old_too) (left_too new_too))

-- no worker is asked, so none gives no answer
abbrev pub NoCause : List ℕ → ℕ → Type 0
NoCause text number = ⊥

-- of a reply that isn't written yet: its text, and what is answered with it
abbrev pub OfReply : {X : Type 0} → (List ℕ → List ℕ → X → Type 0) → List ℕ → Reply X → Type 0
OfReply IsReply text r = IsReply text (string_bytes r.text) r.value

-- the bytes were read at the front of a source, no more than one past so many
abbrev pub IsFront : ℕ → Option (List ℕ) → List ℕ → Type 0
IsFront most held bytes = IfSome held (λ h. bytes ≡ take (most + 1) h)

-- a reply that was made was written, or a part of it, or nothing
abbrev pub WasWritten : {X W : Type 0} → (W → Option (List ℕ)) → (W → Bool) → Reply X → W → W → Result X BytesFault → Type 0
WasWritten written has_failed made old new result =
    ((result ≡ Ok made.value) × Appends (written old) (written new) (string_bytes made.text) × (has_failed new ≡ false))
    ⊎ ((result ≡ Err faults.Write) × ((n : ℕ) × (n < length (string_bytes made.text))
    × Appends (written old) (written new) (take n (string_bytes made.text))) × (has_failed new ≡ true))

abbrev pub WasSent : {X W : Type 0} → (W → Option (List ℕ)) → (W → Bool) → Result (Reply X) BytesFault → W → W → Result X BytesFault → Type 0
WasSent written has_failed made old new result =
    MatchResult made (λ r. WasWritten written has_failed r old new result) (λ e. (result ≡ Err e) × (new ≡ old))

-- what is made of texts that are at hand, or nothing for want of memory or for a cause of workers
abbrev pub IsMadeHere : {Y : Type 0} → (Y → Type 0) → (ℕ → Type 0) → Result Y BytesFault → Type 0
IsMadeHere IsOne IsCause (Ok y) = IsOne y
IsMadeHere IsOne IsCause (Err faults.Read) = ⊥
IsMadeHere IsOne IsCause (Err faults.Write) = ⊥
IsMadeHere IsOne IsCause (Err faults.Memory) = Unit {0}
IsMadeHere IsOne IsCause (Err (faults.Pool number)) = IsCause number

-- of what was made something is made that is related to it so, unless memory runs out
abbrev pub Remakes : {Y Z : Type 0} → (Y → Z → Type 0) → Result Y BytesFault → Result Z BytesFault → Type 0
Remakes AreRelated made result =
    MatchResult made (λ y. MatchResult result (AreRelated y) (λ e. e ≡ faults.Memory)) (λ e. result ≡ Err e)
