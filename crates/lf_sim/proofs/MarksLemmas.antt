-- Marks, and which points the faults of two sets leave unmarked.
use Rattle.std.proofs.Common.{◌≡◌, ℕ, zero, suc, ◌+◌, ◌*◌, ◌<◌, ◌≤◌, Bool, true, false, List, [], ◌∷◌}
use Rattle.std.proofs.Common.{length, take, replicate, get_or, sym, ap, subst, ◌∙◌, arith, inl, inr}
use Rattle.std.specs.Prelude.{◌⊎◌}
use Rattle.std.specs.List.{Contains}
use Rattle.std.proofs.lemmas.Bool.{both_ways, cases_lt, false_from_ne_true}
use Rattle.std.proofs.lemmas.List.{get_or-replicate, take_more}
use Rattle.std.proofs.lemmas.List.Elements.{Contains-append_cases}
use Rattle.std.proofs.Math.ListN.{get_or-eq_default, length-replicate}
use Rattle.std.proofs.Math.Seq.{take-length}
use Rattle.lf_faults.specs.declared.fault.Parts.{Parts}
use Rattle.lf_faults.specs.declared.fault.Parts.TheVariants.{Omit, Crash, Pause}
use Rattle.lf_sim.specs.declared.record.Run.{Run}
use Rattle.lf_sim.specs.Runs.{World}
use Rattle.lf_sim.specs.Marks.{is_marked, AreBetween, AreTold}
use Rattle.lf_sim.specs.Changes.{Touches, Ignores, IsSpared, IsMarked, AreMarked}

-- what isn't marked now wasn't before
pub unmarked-before : (before after : List Bool) (n t : ℕ) → (is_marked before n t ≡ true → is_marked after n t ≡ true) → is_marked after n t ≡ false
    → is_marked before n t ≡ false
unmarked-before before after n t kept free = false_from_ne_true (is_marked before n t) (λ h. both_ways (is_marked after n t) free (kept h))

-- at first there is none
blank : (k i : ℕ) → get_or (replicate k false) i false ≡ false
blank k i = elim (cases_lt i k) [
  | inl near ↦ get_or-replicate k i false false near
  | inr far ↦ get_or-eq_default (replicate k false) false (omega (arith, far, length-replicate k false))
]

pub none-told : (points steps : ℕ) → AreTold (replicate points false) (replicate steps false)
none-told points steps n t node marked = absurd (both_ways (is_marked (replicate points false) n t) (blank points (t * 8 + n)) marked)

pub none-between : (points first_node last_node first_step last_step : ℕ)
    → AreBetween (replicate points false) first_node last_node first_step last_step
none-between points first_node last_node first_step last_step n t node marked =
    absurd (both_ways (is_marked (replicate points false) n t) (blank points (t * 8 + n)) marked)

one-of : {A : Type 0} (x y : A) (k : ℕ) → k < 1 → get_or (x ∷ []) k y ≡ y → x ≡ y
one-of x y zero h e = e
one-of x y (suc k) h e = absurd (omega arith)

only-one : {A : Type 0} (x y : A) → Contains (x ∷ []) y → x ≡ y
only-one x y c = one-of x y c.0 c.1 c.2

module _ {M State Note Fact : Type 0} (w : World State Note Fact) (to : List Parts) (run : Run M State Note Fact) (items others : List Parts) where
  -- the faults so far, and one more
  pub marked-more : (i : ℕ) (x : Parts) (before after : List Bool) → i < length items → x ≡ get_or items i x
      → AreMarked w to run (take i items) others before → ((n t : ℕ) → is_marked before n t ≡ true → is_marked after n t ≡ true)
      → Contains others x ⊎ IsMarked w to run x after → AreMarked w to run (take (i + 1) items) others after
  marked-more i x before after inside is sofar kept one f c m u node first last says free =
      elim (Contains-append_cases (take i items) (get_or items i x ∷ []) f (subst (λ xs. Contains xs f) (take_more items i x inside) c)) [
        | inl early ↦ sofar f early m u node first last says (unmarked-before before after m u (kept m u) free)
        | inr late ↦
            let same : x ≡ f = is ∙ only-one (get_or items i x) f late in
            elim one [
              | inl there ↦ inl (subst (Contains others) same there)
              | inr marked ↦ inr (subst (IsSpared w to run m u) same (marked m u node first last (subst (Touches w m u) (sym same) says) free))
            ]
      ]

  pub marked-all : (i : ℕ) (points : List Bool) → length items ≤ i → i ≤ length items → AreMarked w to run (take i items) others points
      → AreMarked w to run items others points
  marked-all i points a b marked =
      let whole : take i items ≡ items = ap (λ k. take k items) (omega (arith, a, b)) ∙ take-length items in
      subst (λ xs. AreMarked w to run xs others points) whole marked

-- one fault's points
module _ {M State Note Fact : Type 0} (w : World State Note Fact) (to : List Parts) (run : Run M State Note Fact) (points : List Bool) where
  pub omission-marked : (n k t : ℕ)
      → (n < w.rules.nodes → k < w.rules.nodes → t ≤ w.horizon → w.arrival n k t ≤ w.horizon → is_marked points k (w.arrival n k t) ≡ false
      → Ignores w to k (w.arrival n k t) run) → IsMarked w to run (Omit n k t) points
  omission-marked n k t marked m u inside first last (node, apart, is, early, comes) free =
      let there : is_marked points k (w.arrival n k t) ≡ false =
      subst (λ i. is_marked points k i ≡ false) (sym comes) (subst (λ i. is_marked points i u ≡ false) (sym is) free) in
      subst (λ i. Ignores w to m i run) comes
      (subst (λ i. Ignores w to i (w.arrival n k t) run) is
      (marked node (omega (arith, is, inside)) (omega (arith, early, last)) (omega (arith, comes, last)) there))

  pub crash-marked : (k t : ℕ) → ((s : ℕ) → t ≤ s → s ≤ w.horizon → is_marked points k s ≡ true) → IsMarked w to run (Crash k t) points
  crash-marked k t marked m u inside first last (is, early) free =
      both_ways (is_marked points m u) free (subst (λ i. is_marked points i u ≡ true) is (marked u early last))

  pub pause-marked : (k t : ℕ) → ((s : ℕ) → t ≤ s → s ≤ w.horizon → s ≤ t + w.pause_length → is_marked points k s ≡ true)
      → IsMarked w to run (Pause k t) points
  pause-marked k t marked m u inside first last (is, early, within) free =
      both_ways (is_marked points m u) free (subst (λ i. is_marked points i u ≡ true) is (marked u early last within))

-- what holds of the numbers 0 to 7
pub all-eight : (P : ℕ → Type 0) → P 0 → P 1 → P 2 → P 3 → P 4 → P 5 → P 6 → P 7 → (m : ℕ) → m < 8 → P m
all-eight P a b c d e f g h zero near = a
all-eight P a b c d e f g h (suc zero) near = b
all-eight P a b c d e f g h (suc (suc zero)) near = c
all-eight P a b c d e f g h (suc (suc (suc zero))) near = d
all-eight P a b c d e f g h (suc (suc (suc (suc zero)))) near = e
all-eight P a b c d e f g h (suc (suc (suc (suc (suc zero))))) near = f
all-eight P a b c d e f g h (suc (suc (suc (suc (suc (suc zero)))))) near = g
all-eight P a b c d e f g h (suc (suc (suc (suc (suc (suc (suc zero))))))) near = h
all-eight P a b c d e f g h (suc (suc (suc (suc (suc (suc (suc (suc m)))))))) near = absurd (omega (arith, near))
