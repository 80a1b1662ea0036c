-- Each cell has a number of its own.
use Rattle.std.proofs.Common.{◌≡◌, ℕ, zero, suc, ◌+◌, ◌-◌, ◌<◌, ◌≤◌, Bool, true, false, nat_eq, List, [], ◌∷◌, length, refl, sym, ap, ◌∙◌, arith, inl, inr}
use Rattle.std.specs.Prelude.{Option, None, Some, slice_get}
use Rattle.std.proofs.lemmas.Bool.{cases_lt, eqb-true}
use Rattle.std.proofs.lemmas.Option.{none-some, slice_get_within}
use Rattle.lf_rules.specs.declared.definition.Variable.{Variable}
use Rattle.lf_rules.specs.declared.definition.Definition.{Definition}
use Rattle.lf_rules.specs.Tables.{count_of, others_in, others_of, cells_in, cell_of}

abbrev variable_or : Variable → Option Variable → Variable
variable_or y None = y
variable_or y (Some x) = x

-- the others of a variable stand before those of the ones after it
others_in-after : (xs : List Variable) (i j : ℕ) (x : Variable) → slice_get xs i ≡ Some x → i < j
    → others_in i xs + (count_of x.cells - 1) ≤ others_in j xs
others_in-after [] i j x there before = absurd (none-some x there)
others_in-after (y ∷ ys) zero zero x there before = absurd (omega arith)
others_in-after (y ∷ ys) zero (suc j) x there before =
    let same : count_of y.cells ≡ count_of x.cells = ap (λ found. count_of (variable_or x found).cells) there in
    omega (arith, same)
others_in-after (y ∷ ys) (suc i) zero x there before = absurd (omega arith)
others_in-after (y ∷ ys) (suc i) (suc j) x there before =
    let low : i < j = omega arith in
    let after = others_in-after ys i j x there low in
    omega (arith, after)

not-so : (b : Bool) → (b ≡ true → ⊥) → b ≡ false
not-so true never = absurd (never refl)
not-so false never = refl

suc-is-none : (k : ℕ) → nat_eq (suc k) 0 ≡ false
suc-is-none k = not-so (nat_eq (suc k) 0) (λ same. let none : suc k ≡ 0 = eqb-true (suc k) 0 same in omega (arith, none))

module _ (d : Definition) where
  abbrev cell : ℕ → ℕ → ℕ
  cell i k = cell_of i (others_of d i) k

  cell-first : (i : ℕ) → cell i 0 ≡ i
  cell-first i = refl

  cell-other : (i k : ℕ) → cell i (suc k) ≡ length d.variables + others_in i d.variables + k
  cell-other i k = let last : suc k - 1 ≡ k = omega arith in rw (suc-is-none k) (ap (λ n. length d.variables + others_in i d.variables + n) last)

  apart-others : (i j : ℕ) (x y : Variable) (k l : ℕ) → slice_get d.variables i ≡ Some x → slice_get d.variables j ≡ Some y
      → suc k < count_of x.cells → suc l < count_of y.cells → others_in i d.variables + k ≡ others_in j d.variables + l → (i ≡ j) × (suc k ≡ suc l)
  apart-others i j x y k l here there low few e = elim (cases_lt i j) [
    | inl before ↦ let after = others_in-after d.variables i j x here before in absurd (omega (arith, after, low, e))
    | inr from ↦ elim (cases_lt j i) [
      | inl before ↦ let after = others_in-after d.variables j i y there before in absurd (omega (arith, after, few, e))
      | inr to ↦
          let same : i ≡ j = omega (arith, from, to) in
          let sums : others_in i d.variables ≡ others_in j d.variables = ap (λ n. others_in n d.variables) same in
          (same, omega (arith, sums, e))
    ]
  ]

  pub cells-apart : (i j : ℕ) (x y : Variable) (k l : ℕ) → slice_get d.variables i ≡ Some x → slice_get d.variables j ≡ Some y
      → k < count_of x.cells → l < count_of y.cells → cell i k ≡ cell j l → (i ≡ j) × (k ≡ l)
  cells-apart i j x y zero zero here there low few e = (e, refl)
  cells-apart i j x y zero (suc l) here there low few e =
      let first = slice_get_within d.variables i x here in
      absurd (omega (arith, first, e, cell-first i, cell-other j l))
  cells-apart i j x y (suc k) zero here there low few e =
      let first = slice_get_within d.variables j y there in
      absurd (omega (arith, first, e, cell-first j, cell-other i k))
  cells-apart i j x y (suc k) (suc l) here there low few e =
      let sums : others_in i d.variables + k ≡ others_in j d.variables + l = omega (arith, e, cell-other i k, cell-other j l) in
      apart-others i j x y k l here there low few sums

  pub cell-within : (i : ℕ) (x : Variable) (k : ℕ) → slice_get d.variables i ≡ Some x → k < count_of x.cells → cell i k < cells_in d
  cell-within i x zero here low =
      let first = slice_get_within d.variables i x here in
      omega (arith, first, cell-first i)
  cell-within i x (suc k) here low =
      let after = others_in-after d.variables i (length d.variables) x here (slice_get_within d.variables i x here) in
      omega (arith, after, low, cell-other i k)
