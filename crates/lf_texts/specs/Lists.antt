-- What stands in a row.
use Rattle.std.specs.Prelude.{ℕ, zero, suc, List, [], ◌∷◌, ◌++◌, Option, Some, None, Ok, Err}
use Rattle.lf_grammar.specs.declared.sign.Sign.{Sign}
use Rattle.lf_grammar.specs.declared.sign.Sign.TheVariants as signs
use Rattle.lf_grammar.specs.declared.token.Token.{Token}
use Rattle.lf_grammar.specs.Fronts.{behind_sign}
use Rattle.lf_texts.specs.declared.error.TextError.TheVariants as faults
use Rattle.lf_texts.specs.Fronts.{past}
use Rattle.lf_texts.specs.Reading.{Reading, ◌>>=◌, Read}

-- one way where nothing is there, and another where something is
abbrev pub where_some : {A B : Type 0} → Option A → Reading B → (A → Reading B) → Reading B
where_some None absent present = absent
where_some (Some x) absent present = present x

-- items with a sign between them, behind those before, and so many at most: one too many is past the limit where it would begin
unfoldable pub listed : {A : Type 0} → (List A → List Token → Reading (Read A)) → Sign → ℕ → List A → List Token → Reading (Read (List A))
listed item sign zero before ts = Err faults.PastLimit
listed item sign (suc room) before ts =
    item before ts >>= λ x. where_some (behind_sign sign x.rest) (Ok (record { value = before ++ x.value ∷ []; rest = x.rest }))
    (λ next. listed item sign room (before ++ x.value ∷ []) next)

-- what stands before an item in brackets, and behind the last one; no brackets stand where there are no items
abbrev pub opened : {A : Type 0} → List A → List Token → Reading (List Token)
opened [] ts = past signs.OpenRound ts
opened (x ∷ xs) ts = past signs.Comma ts

abbrev pub closed : {A : Type 0} → List A → List Token → Reading (List Token)
closed [] ts = Ok ts
closed (x ∷ xs) ts = past signs.CloseRound ts

-- an item for each of some, in brackets, with commas between
abbrev pub bracketed : {A B : Type 0} → (B → List A → List Token → Reading (Read A)) → List B → List A → List Token → Reading (Read (List A))
bracketed item [] before ts = closed before ts >>= λ rest. Ok (record { value = before; rest = rest })
bracketed item (y ∷ ys) before ts =
    opened before ts >>= λ inner. item y before inner >>= λ x. bracketed item ys (before ++ x.value ∷ []) x.rest
