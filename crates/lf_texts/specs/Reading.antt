-- What a reading gives: a value, or the fault.
use Rattle.std.specs.Prelude.{◌≡◌, ◌≢◌, Bool, true, false, List, Option, Some, None, Result, Ok, Err, MatchResult}
use Rattle.std.specs.Borrow.{Bor}
use Rattle.lf_grammar.specs.declared.token.Token.{Token}
use Rattle.lf_texts.specs.declared.error.TextError.{TextError}
use Rattle.lf_texts.specs.declared.error.TextError.TheVariants as faults

abbrev pub Reading : Type 0 → Type 0
Reading A = Result A TextError

-- the next step, where this one is no fault
infixl 10 ◌>>=◌
abbrev pub ◌>>=◌ : {A B : Type 0} → Reading A → (A → Reading B) → Reading B
Ok x >>= next = next x
Err e >>= next = Err e

-- what has to be there
abbrev pub wanted : {A : Type 0} → Option A → Reading A
wanted None = Err faults.Unfit
wanted (Some x) = Ok x

-- what has to be so
abbrev pub checked : Bool → Reading (Unit {0})
checked true = Ok tt
checked false = Err faults.Unfit

-- what is read first, and the tokens behind it
pub record Read (A : Type 0) : Type 0 where
  pub value : A
  pub rest : List Token

abbrev pub read_by : {A : Type 0} → A × Bor (List Token) → Read A
read_by r = record { value = r.0; rest = r.1.now }

-- a call gives what is defined
abbrev pub Says : {A B : Type 0} → (A → B) → Reading B → Result A TextError → Type 0
Says view defined result = MatchResult result (λ x. defined ≡ Ok (view x)) (λ e. defined ≡ Err e)

-- or memory has run out
abbrev pub Gives : {A B : Type 0} → (A → B) → Reading B → Result A TextError → Type 0
Gives view defined result = MatchResult result (λ x. defined ≡ Ok (view x)) (λ e. e ≢ faults.Memory → defined ≡ Err e)
