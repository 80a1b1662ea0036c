-- A cell put in the place of another.
use Rattle.std.proofs.Common.{◌≡◌, ℕ, ◌+◌, ◌-◌, ◌*◌, ◌<◌, ◌≤◌, List, [], ◌∷◌, ◌++◌, length, get_or, sym, ap, subst, ◌∙◌, arith, inl, inr, length-append}
use Rattle.std.specs.Prelude.{◌≢◌, slice_get, Option, Some, false}
use Rattle.std.proofs.lemmas.Bool.{cases_lt}
use Rattle.std.proofs.lemmas.List.{get_or_at, get_or_append_left}
use Rattle.std.proofs.lemmas.Option.{slice_get-get_or}
use Rattle.std.proofs.Math.Nat.{mul-le-mul_right}
use Rattle.lf_sim.specs.declared.difference.Difference.{Difference}
use Rattle.lf_sim.specs.declared.out.Stepped.{Stepped}
use Rattle.lf_sim.specs.Differences.{IsTold, differs}

-- two points have two places
pub places-apart : (nodes n t m s : ℕ) → n < nodes → m < nodes → (n ≡ m → t ≡ s → ⊥) → t * nodes + n ≢ s * nodes + m
places-apart nodes n t m s a b other = elim (cases_lt t s) [
  | inl early ↦ λ e. let rows : (t + 1) * nodes ≤ s * nodes = mul-le-mul_right nodes (omega arith) in omega (arith, rows)
  | inr late ↦ elim (cases_lt s t) [
    | inl early ↦ λ e. let rows : (s + 1) * nodes ≤ t * nodes = mul-le-mul_right nodes (omega arith) in omega (arith, rows)
    | inr later ↦
        λ e.
        let same : t ≡ s = omega arith in
        let rows : t * nodes ≡ s * nodes = ap (λ k. k * nodes) same in
        other (omega (arith, rows, e)) same
  ]
]

-- the place of a point among those of a grid
pub place-inside : (nodes n t horizon count : ℕ) → n < nodes → t ≤ horizon → count ≡ (horizon + 1) * nodes → t * nodes + n < count
place-inside nodes n t horizon count a b e =
    let rows : (t + 1) * nodes ≤ (horizon + 1) * nodes = mul-le-mul_right nodes (omega arith) in
    omega (arith, rows)

-- an item doesn't depend on the default
pub any-default : {A : Type 0} (xs : List A) (k : ℕ) (d e : A) → k < length xs → get_or xs k d ≡ get_or xs k e
any-default xs k d e inside =
    let both : Some (get_or xs k d) ≡ Some (get_or xs k e) = sym (slice_get-get_or xs k d inside) ∙ slice_get-get_or xs k e inside in cc

-- what stood in a place, and what came last, where one was put behind the others
module _ {A : Type 0} (cells more : List A) (x : A) (is : more ≡ cells ++ x ∷ []) where
  pub was-there : (k : ℕ) (y : A) → k < length cells → slice_get cells k ≡ Some y → (d : A) → get_or more k d ≡ y
  was-there k y inside stood d =
      let same : Some (get_or cells k d) ≡ Some y = sym (slice_get-get_or cells k d inside) ∙ stood in
      let at : get_or cells k d ≡ y = cc in
      ap (λ xs. get_or xs k d) is ∙ get_or_append_left cells (x ∷ []) d k inside ∙ at

  pub came-last : (d : A) → get_or more (length more - 1) d ≡ x
  came-last d =
      let long : length more ≡ length cells + 1 = ap length is ∙ length-append cells (x ∷ []) in
      ap (λ xs. get_or xs (length more - 1) d) is ∙ get_or_at cells x [] d (length more - 1) (omega (arith, long))

module _ {A : Type 0} (cells more after : List A) (k : ℕ) (x : A) (is : more ≡ cells ++ x ∷ []) (inside : k < length cells)
    (long : length after ≡ length cells) where
  longer : length more ≡ length cells + 1
  longer = ap length is ∙ length-append cells (x ∷ [])

  -- the place has the last cell
  pub put-there : ((d : A) → k + 1 < length more → get_or after k d ≡ get_or more (length more - 1) d) → slice_get after k ≡ Some x
  put-there moved =
      slice_get-get_or after k x (omega (arith, long))
      ∙ ap Some (moved x (omega (arith, longer))
      ∙ ap (λ xs. get_or xs (length more - 1) x) is
      ∙ get_or_at cells x [] x (length more - 1) (omega (arith, longer)))

  -- each other place has what it had
  pub kept-there : ((j : ℕ) (d : A) → j ≢ k → j + 1 < length more → get_or after j d ≡ get_or more j d) → (j : ℕ) → j ≢ k → j < length cells
      → slice_get after j ≡ slice_get cells j
  kept-there kept j other near =
      slice_get-get_or after j x (omega (arith, long))
      ∙ ap Some (kept j x other (omega (arith, longer))
      ∙ ap (λ xs. get_or xs j x) is
      ∙ get_or_append_left cells (x ∷ []) x j near)
      ∙ sym (slice_get-get_or cells j x near)

-- turns of the same state and the same notes are the same
turn-of : {State Note : Type 0} → State → Option Note → Option Note → Option Note → Option Note → Option Note → Option Note → Option Note → Option Note
    → Stepped State Note
turn-of s a b c d e f g h = record { state = s; out = record { to0 = a; to1 = b; to2 = c; to3 = d; to4 = e; to5 = f; to6 = g; to7 = h } }

pub same-turn : {State Note : Type 0} (told : Difference) (one other : Stepped State Note) → IsTold told one other → told.state ≡ false
    → ((m : ℕ) → differs told m ≡ false) → one ≡ other
unfolding turn-of
same-turn told one other is state notes =
    let s = is.state state in
    let a : one.out.to0 ≡ other.out.to0 = is.notes 0 (notes 0) in
    let b : one.out.to1 ≡ other.out.to1 = is.notes 1 (notes 1) in
    let c : one.out.to2 ≡ other.out.to2 = is.notes 2 (notes 2) in
    let d : one.out.to3 ≡ other.out.to3 = is.notes 3 (notes 3) in
    let e : one.out.to4 ≡ other.out.to4 = is.notes 4 (notes 4) in
    let f : one.out.to5 ≡ other.out.to5 = is.notes 5 (notes 5) in
    let g : one.out.to6 ≡ other.out.to6 = is.notes 6 (notes 6) in
    let h : one.out.to7 ≡ other.out.to7 = is.notes 7 (notes 7) in
    let is-same : turn-of one.state one.out.to0 one.out.to1 one.out.to2 one.out.to3 one.out.to4 one.out.to5 one.out.to6 one.out.to7
    ≡ turn-of other.state other.out.to0 other.out.to1 other.out.to2 other.out.to3 other.out.to4 other.out.to5 other.out.to6 other.out.to7 = cc in
    is-same

-- turns at two places, whatever the default
pub told-at : {State Note : Type 0} (told : Difference) (xs : List (Stepped State Note)) (i j : ℕ) (x y d : Stepped State Note) → i < length xs → j < length xs
    → x ≡ get_or xs i x → y ≡ get_or xs j y → IsTold told x y → IsTold told (get_or xs i d) (get_or xs j d)
told-at told xs i j x y d near last is stands h =
    subst (λ a. IsTold told a (get_or xs j d)) (is ∙ any-default xs i x d near) (subst (λ b. IsTold told x b) (stands ∙ any-default xs j y d last) h)
