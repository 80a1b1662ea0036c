-- The first of texts that has anything in it.
use Rattle.std.proofs.Common.{◌≡◌, ℕ, zero, suc, ◌+◌, ◌<◌, ◌≤◌, ◌==◌, Bool, true, false, List, [], length}
use Rattle.std.proofs.Common.{◌++◌, refl, sym, ap, ◌∙◌, subst, arith, inl, inr, add-one, cond}
use Rattle.std.proofs.lemmas.Bool.{cases_lt}
use Rattle.std.proofs.lemmas.Bool.Decides.{nat_tests}
use Rattle.std.proofs.lemmas.List.{nil_from_length}
use Rattle.lf_trace.specs.Elsewhere.{behind_first, first_and_last, last_told, told_or}
use Rattle.lf_trace.specs.First.{first_told}

-- where there is none so far, the next may be it
pub first_more : (f : ℕ → List ℕ) (n : ℕ) → first_told f n ≡ [] → first_told f (n + 1) ≡ f n
first_more f n none = rw (add-one, none) refl

-- and where there is one, it stays
or_next : (xs ys : List ℕ) → 0 < length xs → cond (length xs == 0) ys xs ≡ xs
or_next xs ys some =
    let no : (length xs == 0) ≡ false = grind (arith, nat_tests) in
    rw no refl

pub first_stays : (f : ℕ → List ℕ) (n : ℕ) → 0 < length (first_told f n) → (m : ℕ) → n ≤ m → first_told f m ≡ first_told f n
first_stays f n some zero within = let same : zero ≡ n = omega (arith, within) in ap (first_told f) same
first_stays f n some (suc m) within = elim (cases_lt m n) [
  | inl last ↦ let same : suc m ≡ n = omega (arith, last, within) in ap (first_told f) same
  | inr earlier ↦
      let before = first_stays f n some m earlier in
      or_next (first_told f m) (f m) (subst (λ (xs : List ℕ). 0 < length xs) (sym before) some) ∙ before
]

-- as a loop finds it that tests each text for being empty
module _ (f : ℕ → List ℕ) (n : ℕ) (lines : List ℕ) (empty : Bool) (none : first_told f n ≡ []) (is : lines ≡ f n) (tested : empty ≡ (length lines == 0)) where
  pub none_more : empty ≡ true → first_told f (n + 1) ≡ []
  none_more says =
      let no_line : length lines ≡ 0 = grind (arith, nat_tests) in
      first_more f n none ∙ sym is ∙ nil_from_length lines no_line

  pub some_found : empty ≡ false → (m : ℕ) → n < m → lines ≡ first_told f m
  some_found says m within =
      let some : 0 < length lines = grind (arith, nat_tests) in
      let here : lines ≡ first_told f (n + 1) = is ∙ sym (first_more f n none) in
      here ∙ sym (first_stays f (n + 1) (subst (λ (xs : List ℕ). 0 < length xs) here some) m (omega (arith, within)))

pub none_found : (f : ℕ → List ℕ) (n m : ℕ) (text : List ℕ) → first_told f n ≡ [] → n ≡ m → text ≡ [] → text ≡ first_told f m
none_found f n m text none all is = is ∙ sym none ∙ ap (first_told f) all

-- the test of a text, made of a copy
pub tested_as : (text line : List ℕ) (empty : Bool) → line ≡ text → empty ≡ (length line == 0) → empty ≡ (length text == 0)
tested_as text line empty same tested = tested ∙ ap (λ (xs : List ℕ). length xs == 0) same

-- as a loop finds the first of f, and the last of g behind it, that tests the first so far for being empty
module _ (f g : ℕ → List ℕ) (n : ℕ) (text last : List ℕ) (empty : Bool) (first : text ≡ first_told f n) (later : last ≡ last_told (behind_first f g) n)
    (tested : empty ≡ (length text == 0)) where
  pub begins : (new : List ℕ) → empty ≡ true → new ≡ f n → (new ≡ first_told f (n + 1)) × (last ≡ last_told (behind_first f g) (n + 1))
  begins new says is =
      let no_text : length text ≡ 0 = grind (arith, nat_tests) in
      let none : first_told f n ≡ [] = sym first ∙ nil_from_length text no_text in
      let same : last_told (behind_first f g) (n + 1) ≡ last_told (behind_first f g) n = rw (add-one, none) refl in
      (is ∙ sym (first_more f n none), later ∙ sym same)

  pub goes_on : (new : List ℕ) → empty ≡ false → new ≡ told_or (g n) last → (text ≡ first_told f (n + 1)) × (new ≡ last_told (behind_first f g) (n + 1))
  goes_on new says is =
      let here : (length (first_told f n) == 0) ≡ false = ap (λ xs. length xs == 0) (sym first) ∙ sym tested ∙ says in
      let stays : first_told f (n + 1) ≡ first_told f n = rw (add-one, here) refl in
      let next : last_told (behind_first f g) (n + 1) ≡ told_or (g n) (last_told (behind_first f g) n) = rw (add-one, here) refl in
      (first ∙ sym stays, is ∙ ap (told_or (g n)) later ∙ sym next)

-- and both at the end
pub both_told : (f g : ℕ → List ℕ) (n m : ℕ) (first last line new : List ℕ) → first ≡ first_told f n → last ≡ last_told (behind_first f g) n → line ≡ last
    → new ≡ first ++ line → n ≡ m → new ≡ first_and_last f g m
both_told f g n m first last line new begun later is pushed all =
    pushed ∙ ap (λ (lines : List ℕ). first ++ lines) (is ∙ later) ∙ ap (λ (lines : List ℕ). lines ++ last_told (behind_first f g) n) begun
    ∙ ap (first_and_last f g) all
