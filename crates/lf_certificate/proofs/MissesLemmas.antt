-- The sets at the last depth that miss, one level at a time.
use Rattle.std.proofs.Common.{◌≡◌, ℕ, ◌+◌, false, List, [], ◌∷◌, length, refl, ap, ◌∙◌, arith, inl, inr}
use Rattle.std.specs.Prelude.{◌⊎◌, Option, None, Some}
use Rattle.std.proofs.lemmas.Bool.{both_ways}
use Rattle.lf_faults.specs.declared.fault.Parts.{Parts}
use Rattle.lf_faults.specs.declared.spec.Bounds.{Bounds}
use Rattle.lf_faults.specs.Faults.{set_is_before}
use Rattle.lf_faults.proofs.Laws.{cases_sets}
use Rattle.lf_sim.specs.Runs.{World}
use Rattle.lf_outcome.specs.declared.formula.Formula.{Formula}
use Rattle.lf_outcome.specs.Truth.{reaches}
use Rattle.lf_tree.specs.declared.tree.Tree.{Tree}
use Rattle.lf_certificate.specs.Places.{Place, kid_at, place_from}
use Rattle.lf_certificate.specs.Accepted.{MissesFrom, IsFirstIn}
use Rattle.lf_certificate.proofs.PlacesLemmas.{from-kid}
use Rattle.lf_certificate.proofs.AllowedLemmas.{some-one, through}

module _ {State Note Fact : Type 0} (w : World State Note Fact) (b : Bounds) (formula : Formula Fact) (last depth : ℕ) (p : Place) where
  pub misses_here : depth ≡ last → reaches w p.faults formula ≡ false → MissesFrom w formula last depth p p.faults
  misses_here here misses = record { path = []; place = p; leads = refl; here = omega (arith, here); same = refl; misses = misses }

  pub misses_beneath : (kid : Place) (i : ℕ) (faults : List Parts) → kid_at p i ≡ Some kid → MissesFrom w formula last (depth + 1) kid faults
      → MissesFrom w formula last depth p faults
  misses_beneath kid i faults is m = record {
    path = i ∷ m.path;
    place = m.place;
    leads = from-kid p kid i m.path is ∙ m.leads;
    here = omega (arith, m.here);
    same = m.same;
    misses = m.misses;
  }

  by_path : (faults : List Parts) (path : List ℕ) (q : Place) → place_from p path ≡ Some q → depth + length path ≡ last → q.faults ≡ faults
      → reaches w faults formula ≡ false
      → ((depth ≡ last) × (p.faults ≡ faults) × (reaches w faults formula ≡ false))
      ⊎ ((i : ℕ) × (kid : Place) × (kid_at p i ≡ Some kid) × MissesFrom w formula last (depth + 1) kid faults)
  by_path faults [] q leads here same misses =
      let last_here : depth ≡ last = omega (arith, here) in
      inl (last_here, ap (λ r. r.faults) (some-one p q leads) ∙ same, misses)
  by_path faults (i ∷ path) q leads here same misses =
      let t = through p i path q leads in
      let far : (depth + 1) + length path ≡ last = omega (arith, here) in
      inr (i, t.kid, t.is, record { path = path; place = q; leads = t.leads; here = far; same = same; misses = misses })

  pub cases_misses : (faults : List Parts) → MissesFrom w formula last depth p faults
      → ((depth ≡ last) × (p.faults ≡ faults) × (reaches w faults formula ≡ false))
      ⊎ ((i : ℕ) × (kid : Place) × (kid_at p i ≡ Some kid) × MissesFrom w formula last (depth + 1) kid faults)
  cases_misses faults m = by_path faults m.path m.place m.leads m.here m.same m.misses

module _ {State Note Fact : Type 0} (w : World State Note Fact) (b : Bounds) (formula : Formula Fact) (tree : Tree) where
  -- the first is one
  pub first_in_one : (x y : Option (List Parts)) → IsFirstIn w b formula tree x → IsFirstIn w b formula tree y → x ≡ y
  first_in_one None None h k = refl
  first_in_one None (Some y) h k = absurd (h y k.0)
  first_in_one (Some x) None h k = absurd (k x h.0)
  first_in_one (Some x) (Some y) h k = elim (cases_sets x y) [
    | inl before ↦ absurd (both_ways (set_is_before x y) (k.1 x h.0) before)
    | inr rest ↦ elim rest [
      | inl same ↦ ap Some same
      | inr after ↦ absurd (both_ways (set_is_before y x) (h.1 y k.0) after)
    ]
  ]
