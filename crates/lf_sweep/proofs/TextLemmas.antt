-- The texts of combinations.
use Rattle.std.proofs.Common.{◌≡◌, ◌↔◌, true, false, String, Global, Result, Ok, Err, Option, Some, None, sym, ap, ◌∙◌, is_ok, is_some, inl, inr}
use Rattle.std.proofs.lemmas.Bool.{cases_Bool, false≢true}
use Rattle.toml.specs.Data.{Members, members_have_valid_dates}
use Rattle.toml.specs.declared.ser.error.Error.{Error}
use Rattle.toml.specs.declared.ser.error.Error.TheVariants as errors

-- members of which a text is written have no date that can't be
pub dated : (ms ns : Members) (r : Result (String Global) Error) (text : String Global) → r ≡ Ok text → ns ≡ ms
    → (r ≡ Err errors.DateInvalid) ↔ (members_have_valid_dates ns ≡ false) → members_have_valid_dates ms ≡ true
dated ms ns r text written same dates = elim (cases_Bool (members_have_valid_dates ms)) [
  | inl valid ↦ valid
  | inr wrong ↦
      let refused = dates.1 (ap members_have_valid_dates same ∙ wrong) in
      absurd (false≢true (sym (ap is_ok (sym written ∙ refused))))
]

-- and where one has, it is known which
pub undated : (ms ns : Members) (r : Result (String Global) Error) → r ≡ Err errors.DateInvalid → ns ≡ ms
    → (r ≡ Err errors.DateInvalid) ↔ (members_have_valid_dates ns ≡ false) → members_have_valid_dates ms ≡ false
undated ms ns r refused same dates = ap members_have_valid_dates (sym same) ∙ dates.0 refused

pub nothing_read : {X : Type 0} (o : Option X) (x : X) → o ≡ None → o ≡ Some x → ⊥
nothing_read o x none some = false≢true (ap is_some (sym none ∙ some))
