-- The first thing of a list that has a name, by the names that things have.
use Rattle.std.proofs.Common.{◌≡◌, ◌≢◌, ℕ, suc, Bool, true, false, List, [], ◌∷◌, refl, sym, arith}
use Rattle.std.specs.Prelude.{Option, None, Some, IfSome, IfNone, All, Contains, find, cond}
use Rattle.std.specs.Str.{bytes_eq}
use Rattle.std.proofs.lemmas.Bool.{both_ways}
use Rattle.std.proofs.lemmas.List.Elements.{All-cons, All-nil}
use Rattle.std.proofs.lemmas.Slice.Eq.{bytes_eq-Decides}

module _ {X : Type 0} (name : X → List ℕ) (word : List ℕ) where
  abbrev IsNamed : List X → X → Type 0
  IsNamed xs x = Contains xs x × (name x ≡ word)

  later : (y : X) (xs : List X) (o : Option X) → IfSome o (IsNamed xs) → IfSome o (IsNamed (y ∷ xs))
  later y xs (Some x) ((k, within, is), same) = ((suc k, omega arith, is), same)
  later y xs None h = h

  first : (y : X) (xs : List X) → bytes_eq word (name y) ≡ true → IsNamed (y ∷ xs) y
  first y xs e = ((0, omega arith, refl), sym ((bytes_eq-Decides word (name y)).0 e))

  chosen : (y : X) (xs : List X) (b : Bool) (o : Option X) → (b ≡ true → IsNamed (y ∷ xs) y) → IfSome o (IsNamed (y ∷ xs))
      → IfSome (cond b (Some y) o) (IsNamed (y ∷ xs))
  chosen y xs true o here there = here refl
  chosen y xs false o here there = there

  pub found_named : (xs : List X) → IfSome (find (λ x. bytes_eq word (name x)) xs) (λ x. Contains xs x × (name x ≡ word))
  found_named [] = tt
  found_named (y ∷ xs) =
      chosen y xs (bytes_eq word (name y)) (find (λ x. bytes_eq word (name x)) xs) (first y xs)
      (later y xs (find (λ x. bytes_eq word (name x)) xs) (found_named xs))

  none : (y : X) (xs : List X) (b : Bool) (o : Option X) → (b ≡ false → name y ≢ word) → IfNone o (All (λ x. name x ≢ word) xs)
      → IfNone (cond b (Some y) o) (All (λ x. name x ≢ word) (y ∷ xs))
  none y xs true o here there = tt
  none y xs false (Some x) here there = tt
  none y xs false None here there = All-cons (λ x. name x ≢ word) y xs (here refl) there

  pub none_named : (xs : List X) → IfNone (find (λ x. bytes_eq word (name x)) xs) (All (λ x. name x ≢ word) xs)
  none_named [] = All-nil (λ x. name x ≢ word)
  none_named (y ∷ xs) =
      none y xs (bytes_eq word (name y)) (find (λ x. bytes_eq word (name x)) xs)
      (λ e same. both_ways (bytes_eq word (name y)) e ((bytes_eq-Decides word (name y)).1 (sym same))) (none_named xs)
