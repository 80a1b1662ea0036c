-- Values in a list.
use Rattle.std.proofs.Common.{◌≡◌, ◌≢◌, ◌⊎◌, ℕ, ◌+◌, ◌<◌, ◌≤◌, ◌==◌, ◌&&◌, Bool, true, false, List, [], ◌∷◌, ◌++◌, length, take, drop, slice_index_or}
use Rattle.std.proofs.Common.{IsCharBoundary, IsUtf8, MatchOption, Option, Some, refl, sym, ap, subst, ◌∙◌, arith, inl, inr}
use Rattle.std.proofs.lemmas.Bool.{cases_lt, cases_order, eqb-true, or_cases, false≢true}
use Rattle.std.proofs.lemmas.Str.{IsCharBoundary-after_ascii, IsCharBoundary-before_ascii, IsCharBoundary-end}
use Rattle.lf_sweep.specs.declared.error.VaryError.{VaryError}
use Rattle.lf_sweep.specs.declared.error.VaryError.TheVariants as faults
use Rattle.lf_sweep.specs.Listed.{AreBefore, AreValues, EndsAt, IsNoList, IsNoValue, IsValue, has_mark, is_end, may_end}

ends : (text : List ℕ) (n : ℕ) → n ≤ length text → is_end text n ≡ true → (n ≡ length text) ⊎ ((n < length text) × (slice_index_or text n 0 ≡ 44))
ends text n inside end = elim (or_cases (n == length text) (slice_index_or text n 0 == 44) end) [
  | inl same ↦ inl (eqb-true n (length text) same)
  | inr comma ↦ elim (cases_lt n (length text)) [
    | inl less ↦ inr (less, eqb-true (slice_index_or text n 0) 44 comma)
    | inr more ↦ inl (omega (arith, inside, more))
  ]
]

boundary_by : (text : List ℕ) (n : ℕ) → (n ≡ length text) ⊎ ((n < length text) × (slice_index_or text n 0 ≡ 44)) → IsCharBoundary text n
boundary_by text n (inl same) = subst (IsCharBoundary text) (sym same) (IsCharBoundary-end text)
boundary_by text n (inr comma) = IsCharBoundary-before_ascii text n comma.0 (omega (arith, comma.1))

-- a text may be cut where a value may end
pub end_boundary : (text : List ℕ) (n : ℕ) → n ≤ length text → is_end text n ≡ true → IsCharBoundary text n
end_boundary text n inside end = boundary_by text n (ends text n inside end)

both : (x y : Bool) → (x && y) ≡ true → x ≡ true
both true y h = refl
both false y h = absurd (false≢true h)

end_of : (text : List ℕ) (n : ℕ) → may_end text n ≡ true → is_end text n ≡ true
unfolding may_end
end_of text n may = both (is_end text n) _ may

pub value_boundary : (text : List ℕ) (n : ℕ) → EndsAt text n → IsCharBoundary text n
value_boundary text n at = end_boundary text n at.inside (end_of text n at.here)

behind_by : (text : List ℕ) (n : ℕ) → IsUtf8 text → n < length text → (n ≡ length text) ⊎ ((n < length text) × (slice_index_or text n 0 ≡ 44)) →
    IsCharBoundary text (n + 1)
behind_by text n utf8 less (inl same) = absurd (omega (arith, less, same))
behind_by text n utf8 less (inr comma) = IsCharBoundary-after_ascii text n utf8 less (omega (arith, comma.1))

-- and behind the comma
pub behind_boundary : (text : List ℕ) (n : ℕ) → IsUtf8 text → EndsAt text n → n < length text → IsCharBoundary text (n + 1)
behind_boundary text n utf8 at less = behind_by text n utf8 less (ends text n at.inside (end_of text n at.here))

-- one place more at which something isn't so
pub more_false : (f : ℕ → Bool) (n : ℕ) → ((m : ℕ) → m < n → f m ≡ false) → f n ≡ false → (m : ℕ) → m < n + 1 → f m ≡ false
more_false f n before here m below = elim (cases_order m n) [
  | inl same ↦ subst (λ k. f k ≡ false) (sym same) here
  | inr apart ↦ elim apart [
    | inl less ↦ before m less
    | inr more ↦ absurd (omega (arith, below, more))
  ]
]

-- one value more
pub more_before : (words : List (List ℕ)) (text rest : List ℕ) (n : ℕ) → AreBefore words text rest → IsValue rest n → n < length rest
    → AreBefore (words ++ take n rest ∷ []) text (drop (n + 1) rest)
more_before [] text rest n before value less =
    (n, subst (λ t. IsValue t n) (sym before) value, subst (λ t. n < length t) (sym before) less, ap (take n) (sym before), ap (drop (n + 1)) before)
more_before (word ∷ words) text rest n before value less =
    (before.0, before.1, before.2, before.3, more_before words (drop (before.0 + 1) text) rest n before.4 value less)

pub next_before : (words pushed : List (List ℕ)) (text rest shown behind : List ℕ) (n : ℕ) → AreBefore words text rest → IsValue rest n
    → n < length rest → shown ≡ take n rest → behind ≡ drop (n + 1) rest → pushed ≡ words ++ shown ∷ [] → AreBefore pushed text behind
next_before words pushed text rest shown behind n before value less shown_is behind_is pushed_is =
    subst (λ l. AreBefore l text behind) (sym (pushed_is ∙ ap (λ s. words ++ s ∷ []) shown_is))
    (subst (AreBefore (words ++ take n rest ∷ []) text) (sym behind_is) (more_before words text rest n before value less))

pub ends_found : (text : List ℕ) (r : Option ℕ) (n : ℕ)
    → MatchOption r ((m : ℕ) → m ≤ length text → may_end text m ≡ false) (EndsAt text) → r ≡ Some n → EndsAt text n
ends_found text r n h is = subst (λ o. MatchOption o ((m : ℕ) → m ≤ length text → may_end text m ≡ false) (EndsAt text)) is h

-- the last value
pub all_values : (front words : List (List ℕ)) (text rest shown : List ℕ) (n : ℕ) → AreBefore front text rest → IsValue rest n → length rest ≤ n
    → shown ≡ rest → words ≡ front ++ shown ∷ [] → AreValues words text
all_values front words text rest shown n begun value whole shown_is all =
    let same : n ≡ length rest = omega (arith, value.end.inside, whole) in
    record {
      front = front;
      last = rest;
      begun = begun;
      ended = subst (IsValue rest) same value;
      all = all ∙ ap (λ s. front ++ s ∷ []) shown_is;
    }

pub wanting : (text : List ℕ) (e : VaryError) → e ≡ faults.Memory → IsNoList text e
wanting text e is = ([], text, refl, subst (IsNoValue text 1) (sym is) tt)

pub no_list : (front : List (List ℕ)) (text rest : List ℕ) (k : ℕ) (e : VaryError) → AreBefore front text rest → IsNoValue rest k e
    → k ≡ length front + 1 → IsNoList text e
no_list front text rest k e begun none at = (front, rest, begun, subst (λ n. IsNoValue rest n e) at none)

-- a text's first value ends at one place
pub ends_once : (text : List ℕ) (n m : ℕ) → EndsAt text n → EndsAt text m → n ≡ m
ends_once text n m a b = elim (cases_order n m) [
  | inl same ↦ same
  | inr apart ↦ elim apart [
    | inl less ↦ absurd (false≢true (sym (b.first n less) ∙ a.here))
    | inr more ↦ absurd (false≢true (sym (a.first m more) ∙ b.here))
  ]
]

-- where a text begins with a value it isn't refused
value_or_none : (text : List ℕ) (n k : ℕ) (e : VaryError) → e ≢ faults.Memory → IsValue text n → IsNoValue text k e → ⊥
value_or_none text n k faults.NoPair other value none = none
value_or_none text n k faults.NoPlace other value none = none
value_or_none text n k faults.NoRange other value none = none
value_or_none text n k (faults.NoValue l) other value none = absurd (omega (arith, ends_once text n 0 value.end none.1, value.some))
value_or_none text n k (faults.Unread l) other value none = false≢true (sym (none.1 n value.end.inside) ∙ value.end.here)
value_or_none text n k (faults.Marked l) other value none =
    let same = ends_once text n none.2.0 value.end none.2.1 in
    false≢true (sym (value.bare none.1) ∙ ap (λ m. has_mark (take m text)) same ∙ none.2.2)
value_or_none text n k faults.TooMany other value none = none
value_or_none text n k faults.Memory other value none = other refl

-- the rest behind values that stand before it is one
listed_or_none : (front fronts : List (List ℕ)) (text rest last : List ℕ) (k : ℕ) (e : VaryError) → e ≢ faults.Memory
    → AreBefore front text rest → IsNoValue rest k e → AreBefore fronts text last → IsValue last (length last) → ⊥
listed_or_none [] [] text rest last k e other begun none begun_too value =
    value_or_none last (length last) k e other value (subst (λ t. IsNoValue t k e) (sym begun ∙ begun_too) none)
listed_or_none [] (w ∷ ws) text rest last k e other begun none begun_too value =
    value_or_none text begun_too.0 k e other begun_too.1 (subst (λ t. IsNoValue t k e) (sym begun) none)
listed_or_none (v ∷ vs) [] text rest last k e other begun none begun_too value =
    let whole = subst (λ t. IsValue t (length t)) (sym begun_too) value in
    absurd (omega (arith, begun.2, ends_once text begun.0 (length text) begun.1.end whole.end))
listed_or_none (v ∷ vs) (w ∷ ws) text rest last k e other begun none begun_too value =
    let same = ends_once text begun.0 begun_too.0 begun.1.end begun_too.1.end in
    listed_or_none vs ws (drop (begun.0 + 1) text) rest last k e other begun.4 none
    (subst (λ n. AreBefore ws (drop (n + 1) text) last) (sym same) begun_too.4) value

pub list_or_none : (text : List ℕ) (words : List (List ℕ)) (e : VaryError) → e ≢ faults.Memory → AreValues words text → IsNoList text e → ⊥
list_or_none text words e other are none =
    listed_or_none none.0 are.front text none.1 are.last (length none.0 + 1) e other none.2 none.3 are.begun are.ended

fronts_once : (front fronts : List (List ℕ)) (text rest last : List ℕ) → AreBefore front text rest → IsValue rest (length rest)
    → AreBefore fronts text last → IsValue last (length last) → front ++ rest ∷ [] ≡ fronts ++ last ∷ []
fronts_once [] [] text rest last begun value begun_too value_too = ap (λ t. t ∷ []) (sym begun ∙ begun_too)
fronts_once [] (w ∷ ws) text rest last begun value begun_too value_too =
    let whole = subst (λ t. IsValue t (length t)) (sym begun) value in
    absurd (omega (arith, begun_too.2, ends_once text begun_too.0 (length text) begun_too.1.end whole.end))
fronts_once (v ∷ vs) [] text rest last begun value begun_too value_too =
    let whole = subst (λ t. IsValue t (length t)) (sym begun_too) value_too in
    absurd (omega (arith, begun.2, ends_once text begun.0 (length text) begun.1.end whole.end))
fronts_once (v ∷ vs) (w ∷ ws) text rest last begun value begun_too value_too =
    let same = ends_once text begun.0 begun_too.0 begun.1.end begun_too.1.end in
    let more =
    fronts_once vs ws (drop (begun.0 + 1) text) rest last begun.4 value
    (subst (λ n. AreBefore ws (drop (n + 1) text) last) (sym same) begun_too.4) value_too in
    let first : v ≡ w = begun.3 ∙ ap (λ n. take n text) same ∙ sym begun_too.3 in
    rw (first) (ap (λ l. w ∷ l) more)

-- a text is one list of values at most
pub values_once : (text : List ℕ) (words others : List (List ℕ)) → AreValues words text → AreValues others text → words ≡ others
values_once text words others a b = a.all ∙ fronts_once a.front b.front text a.last b.last a.begun a.ended b.begun b.ended ∙ sym b.all
