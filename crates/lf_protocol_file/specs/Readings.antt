-- What a reading gives: a value, or why there is none.
use Rattle.std.specs.Prelude.{◌≡◌, ◌≢◌, Bool, true, false, Option, Some, None, Result, Ok, Err, MatchResult}
use Rattle.lf_texts.specs.declared.error.TextError.{TextError}
use Rattle.lf_texts.specs.declared.error.TextError.TheVariants as texts
use Rattle.lf_protocol_file.specs.declared.path.Path.{Path}
use Rattle.lf_protocol_file.specs.declared.fault.Fault.{Fault}
use Rattle.lf_protocol_file.specs.declared.fault.Fault.TheVariants as faults
use Rattle.lf_protocol_file.specs.declared.error.ProtocolError.{ProtocolError}
use Rattle.lf_protocol_file.specs.declared.error.ProtocolError.TheVariants as refusals
use Rattle.lf_protocol_file.specs.Refusals.{placed}

-- of one value, wherever it stands, and of a file
abbrev pub Valued : Type 0 → Type 0
Valued A = Result A Fault

abbrev pub Reading : Type 0 → Type 0
Reading A = Result A ProtocolError

-- the next step, where this one isn't refused
infixl 10 ◌>>=◌
abbrev pub ◌>>=◌ : {A B E : Type 0} → Result A E → (A → Result B E) → Result B E
Ok x >>= next = next x
Err e >>= next = Err e

-- a value at a place
abbrev pub located : {A : Type 0} → Path → Valued A → Reading A
located path (Ok x) = Ok x
located path (Err fault) = Err (placed fault path)

-- a text that is no name, no expression and so on
abbrev pub of_text : TextError → Fault
of_text texts.Unfit = faults.Unfit
of_text texts.PastLimit = faults.PastLimit
of_text texts.Memory = faults.Memory

abbrev pub as_value : {A : Type 0} → Result A TextError → Valued A
as_value (Ok x) = Ok x
as_value (Err e) = Err (of_text e)

-- what has to be there
abbrev pub wanted : {A : Type 0} → Option A → Valued A
wanted None = Err faults.Unfit
wanted (Some x) = Ok x

-- what has to be so
abbrev pub checked : Bool → Valued (Unit {0})
checked true = Ok tt
checked false = Err faults.Unfit

-- a call gives what is defined, or memory has run out
abbrev pub Gives : {A : Type 0} → Valued A → Valued A → Type 0
Gives defined result = MatchResult result (λ x. defined ≡ Ok x) (λ e. e ≢ faults.Memory → defined ≡ Err e)

abbrev pub Reads : {A : Type 0} → Reading A → Reading A → Type 0
Reads defined result = MatchResult result (λ x. defined ≡ Ok x) (λ e. e ≢ refusals.Memory → defined ≡ Err e)
