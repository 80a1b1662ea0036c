-- A text is one list of values at most.
use Rattle.std.proofs.Common.{◌≡◌, ◌∙◌, ℕ, ◌+◌, List, [], ◌∷◌, ◌++◌, length, take, drop, sym, ap, subst, arith, inl, inr}
use Rattle.std.proofs.lemmas.Bool.{cases_order, false≢true}
use Rattle.lf_sweep.specs.Listed.{AreBefore, AreValues, EndsAt, IsValue}

-- a text's first value ends at one place
ends_once : (text : List ℕ) (n m : ℕ) → EndsAt text n → EndsAt text m → n ≡ m
ends_once text n m a b = elim (cases_order n m) [
  | inl same ↦ same
  | inr apart ↦ elim apart [
    | inl less ↦ absurd (false≢true (sym (b.first n less) ∙ a.here))
    | inr more ↦ absurd (false≢true (sym (a.first m more) ∙ b.here))
  ]
]

fronts_once : (front fronts : List (List ℕ)) (text rest last : List ℕ) → AreBefore front text rest → IsValue rest (length rest)
    → AreBefore fronts text last → IsValue last (length last) → front ++ rest ∷ [] ≡ fronts ++ last ∷ []
fronts_once [] [] text rest last begun value begun_too value_too = ap (λ t. t ∷ []) (sym begun ∙ begun_too)
fronts_once [] (w ∷ ws) text rest last begun value begun_too value_too =
    let whole = subst (λ t. IsValue t (length t)) (sym begun) value in
    absurd (omega (arith, begun_too.2, ends_once text begun_too.0 (length text) begun_too.1.end whole.end))
fronts_once (v ∷ vs) [] text rest last begun value begun_too value_too =
    let whole = subst (λ t. IsValue t (length t)) (sym begun_too) value_too in
    absurd (omega (arith, begun.2, ends_once text begun.0 (length text) begun.1.end whole.end))
fronts_once (v ∷ vs) (w ∷ ws) text rest last begun value begun_too value_too =
    let same = ends_once text begun.0 begun_too.0 begun.1.end begun_too.1.end in
    let more =
    fronts_once vs ws (drop (begun.0 + 1) text) rest last begun.4 value
    (subst (λ n. AreBefore ws (drop (n + 1) text) last) (sym same) begun_too.4) value_too in
    let first : v ≡ w = begun.3 ∙ ap (λ n. take n text) same ∙ sym begun_too.3 in
    rw (first) (ap (λ l. w ∷ l) more)

pub values_once : (text : List ℕ) (words others : List (List ℕ)) → AreValues words text → AreValues others text → words ≡ others
values_once text words others a b = a.all ∙ fronts_once a.front b.front text a.last b.last a.begun a.ended b.begun b.ended ∙ sym b.all
