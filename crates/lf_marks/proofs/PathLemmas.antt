-- The path of a place, from its end on.
use Rattle.std.proofs.Common.{◌≡◌, ℕ, ◌+◌, ◌<◌, sym, ap, ◌∙◌, subst, arith, Some, List, [], ◌∷◌, ◌++◌, length, get_or, take, drop, reverse}
use Rattle.std.proofs.lemmas.List.{reverse-append, take_at, length-reverse, drop_more}
use Rattle.lf_marks.specs.Arena.{look}
use Rattle.lf_marks.specs.declared.set.Set.{Set}
use Rattle.lf_marks.specs.Walks.{Spot, led_from, IsArena}
use Rattle.lf_marks.proofs.WalkLemmas.{led-taken}
use Rattle.lf_marks.proofs.SetLemmas.{read-is}

module _ (level start : ℕ) (sets : List Set) (arena : IsArena level start (length sets) (look sets)) where
  module _ (x : ℕ) (s : Set) (few : x < length sets) (some : 0 < x) (read : s ≡ get_or sets x s) where
    pub parent-before : s.parent < x
    parent-before = omega (arith, (arena.up x some few).before, ap (λ (p : Spot). p.parent) (read-is sets x s few read))

    pub parent-above : (look sets s.parent).depth + 1 ≡ (look sets x).depth
    parent-above =
        let p : (look sets x).parent ≡ s.parent = ap (λ (z : Spot). z.parent) (read-is sets x s few read) in
        ap (λ z. (look sets z).depth + 1) (sym p) ∙ (arena.up x some few).depth

    pub parent-led : (y : ℕ) (path pushed : List ℕ) → led_from (look sets) x (reverse path) ≡ Some y → pushed ≡ path ++ s.kid ∷ []
        → (s.parent < length sets) × (led_from (look sets) s.parent (reverse pushed) ≡ Some y)
    parent-led y path pushed led is =
        let r = read-is sets x s few read in
        let u = arena.up x some few in
        let p : (look sets x).parent ≡ s.parent = ap (λ (z : Spot). z.parent) r in
        let k : (look sets x).kid ≡ s.kid = ap (λ (z : Spot). z.kid) r in
        let taken : s.kid < (look sets s.parent).taken = subst (λ z. s.kid < (look sets z).taken) p (omega (arith, u.kid, k)) in
        let place : (look sets s.parent).first + s.kid ≡ x = subst (λ z. (look sets z).first + s.kid ≡ x) p (omega (arith, u.place, k)) in (
          omega (arith, few, u.before, p),
          ap (λ (q : List ℕ). led_from (look sets) s.parent (reverse q)) is ∙ ap (led_from (look sets) s.parent) (reverse-append path (s.kid ∷ []))
              ∙ led-taken (look sets) s.parent s.kid (reverse path) taken ∙ ap (λ z. led_from (look sets) z (reverse path)) place ∙ led,
        )

  -- one step along a path
  pub step-led : (x i : ℕ) (path : List ℕ) (first taken : ℕ) → first ≡ (look sets x).first → taken ≡ (look sets x).taken → i < length path
      → get_or path i 0 < taken
      → (first + get_or path i 0 < length sets)
      × (led_from (look sets) (first + get_or path i 0) (drop (i + 1) path) ≡ led_from (look sets) x (drop i path))
  step-led x i path first taken f t more few =
      let kid : get_or path i 0 < (look sets x).taken = omega (arith, few, t) in (
        omega (arith, (arena.down x (get_or path i 0) kid).within, f),
        ap (λ z. led_from (look sets) (z + get_or path i 0) (drop (i + 1) path)) f ∙ sym (led-taken (look sets) x (get_or path i 0) (drop (i + 1) path) kid)
            ∙ ap (led_from (look sets) x) (sym (drop_more path i 0 more)),
      )

-- a list that was turned round in its place
pub turned : (xs turned : List ℕ) (n : ℕ) → turned ≡ reverse xs → n ≡ length xs → take n (turned ++ drop (length turned) xs) ≡ reverse xs
turned xs t n is long = take_at t (drop (length t) xs) n (omega (arith, ap (λ (r : List ℕ). length r) is, length-reverse xs, long)) ∙ is
