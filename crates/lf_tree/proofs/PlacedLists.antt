-- Lists, place by place.
use Rattle.std.proofs.Common.{◌≡◌, ℕ, zero, suc, ◌+◌, List, [], ◌∷◌, ◌++◌, length, drop, refl, sym, ap, subst, ◌∙◌, arith}
use Rattle.std.proofs.Math.Nat.{zero-add}
use Rattle.std.specs.Prelude.{⊤, Some}
use Rattle.std.specs.List.{slice_get}
use Rattle.std.proofs.Math.Seq.{drop-nil}

module _ {X : Type 0} (P : ℕ → X → Type 0) where
  -- it holds of each element and its place, where the first stands at this one
  abbrev pub AllFrom : ℕ → List X → Type 0
  AllFrom at [] = ⊤
  AllFrom at (x ∷ xs) = P at x × AllFrom (at + 1) xs

  pub all_from-append : (at after : ℕ) (xs ys : List X) → after ≡ at + length xs → AllFrom at xs → AllFrom after ys → AllFrom at (xs ++ ys)
  all_from-append at after [] ys is front back =
      let same : after ≡ at = omega (arith, is) in
      subst (λ k. AllFrom k ys) same back
  all_from-append at after (x ∷ xs) ys is front back =
      let more : length (x ∷ xs) ≡ suc (length xs) = refl in
      (front.0, all_from-append (at + 1) after xs ys (omega (arith, is, more)) front.1 back)

  pub all_from-at : (at : ℕ) (xs : List X) → AllFrom at xs → (k : ℕ) (x : X) → slice_get xs k ≡ Some x → P (at + k) x
  all_from-at at [] all k x is = absurd (cc)
  all_from-at at (y ∷ ys) all zero x is =
      let same : y ≡ x = cc in
      let here : at ≡ at + 0 = omega arith in
      subst (λ j. P j x) here (subst (λ z. P at z) same all.0)
  all_from-at at (y ∷ ys) all (suc k) x is =
      let there : (at + 1) + k ≡ at + suc k = omega arith in
      subst (λ j. P j x) there (all_from-at (at + 1) ys all.1 k x is)

module _ {X : Type 0} where
  pub get-right : (xs ys : List X) (k : ℕ) → slice_get (xs ++ ys) (length xs + k) ≡ slice_get ys k
  get-right [] ys k = ap (slice_get ys) (zero-add k)
  get-right (x ∷ xs) ys k =
      let one : length (x ∷ xs) ≡ suc (length xs) = refl in
      let on : length (x ∷ xs) + k ≡ suc (length xs + k) = omega (arith, one) in
      ap (slice_get (x ∷ (xs ++ ys))) on ∙ get-right xs ys k

  pub get-left : (xs ys : List X) (k : ℕ) (x : X) → slice_get xs k ≡ Some x → slice_get (xs ++ ys) k ≡ Some x
  get-left [] ys k x is = absurd (cc)
  get-left (y ∷ xs) ys zero x is = is
  get-left (y ∷ xs) ys (suc k) x is = get-left xs ys k x is

  -- from an element on
  pub get-drop : (xs : List X) (k : ℕ) (x : X) → slice_get xs k ≡ Some x → drop k xs ≡ x ∷ drop (k + 1) xs
  get-drop [] k x is = absurd (cc)
  get-drop (y ∷ xs) zero x is = let same : y ≡ x = cc in ap (λ z. z ∷ xs) same
  get-drop (y ∷ xs) (suc k) x is =
      let on : suc (k + 1) ≡ suc k + 1 = omega arith in
      get-drop xs k x is ∙ ap (λ j. x ∷ drop j (y ∷ xs)) on

  pub drop-drop : (n k : ℕ) (xs : List X) → drop n (drop k xs) ≡ drop (k + n) xs
  drop-drop n zero xs = ap (λ j. drop j xs) (sym (zero-add n))
  drop-drop n (suc k) [] = drop-nil n ∙ sym (drop-nil (suc k + n))
  drop-drop n (suc k) (x ∷ xs) =
      let on : suc (k + n) ≡ suc k + n = omega arith in
      drop-drop n k xs ∙ ap (λ j. drop j (x ∷ xs)) on
