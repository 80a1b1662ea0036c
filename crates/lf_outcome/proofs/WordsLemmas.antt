-- The first of a list that has a word.
use Rattle.std.proofs.Common.{◌≡◌, ℕ, suc, Bool, true, false, List, [], ◌∷◌, refl, sym, arith}
use Rattle.std.specs.Prelude.{Option, None, Some, IfSome, Contains, find, cond}
use Rattle.std.specs.Str.{bytes_eq}
use Rattle.std.proofs.lemmas.Slice.Eq.{bytes_eq-Decides}

module _ {A : Type 0} (word_of : A → List ℕ) (word : List ℕ) where
  -- one of the list that has the word
  abbrev IsNamed : List A → A → Type 0
  IsNamed xs x = Contains xs x × (word_of x ≡ word)

  later : (x : A) (xs : List A) (o : Option A) → IfSome o (IsNamed xs) → IfSome o (IsNamed (x ∷ xs))
  later x xs (Some y) ((k, within, is), same) = ((suc k, omega arith, is), same)
  later x xs None h = h

  first : (x : A) (xs : List A) → bytes_eq word (word_of x) ≡ true → IsNamed (x ∷ xs) x
  first x xs e = ((0, omega arith, refl), sym ((bytes_eq-Decides word (word_of x)).0 e))

  chosen : (x : A) (xs : List A) (b : Bool) (o : Option A) → (b ≡ true → IsNamed (x ∷ xs) x)
      → IfSome o (IsNamed (x ∷ xs)) → IfSome (cond b (Some x) o) (IsNamed (x ∷ xs))
  chosen x xs true o here there = here refl
  chosen x xs false o here there = there

  pub found-named : (xs : List A) → IfSome (find (λ x. bytes_eq word (word_of x)) xs) (λ x. Contains xs x × (word_of x ≡ word))
  found-named [] = tt
  found-named (x ∷ xs) =
      let rest = find (λ y. bytes_eq word (word_of y)) xs in
      chosen x xs (bytes_eq word (word_of x)) rest (first x xs) (later x xs rest (found-named xs))
