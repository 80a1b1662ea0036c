-- A formula is as deep unfolded as it is written, and has as many atoms.
use Rattle.std.proofs.Common.{◌≡◌, ℕ, ◌<◌, ◌≤◌, Bool, true, false, ◌&&◌, cond, min, Ok, Err, refl, sym, ap, arith}
use Rattle.std.specs.Prelude.{nat_le}
use Rattle.std.proofs.lemmas.Bool.{and_from, and_parts, le-leb, leb-true}
use Rattle.lf_protocols.specs.declared.fact.Fact.{Fact}
use Rattle.lf_outcome.specs.declared.formula.Formula.{Formula}
use Rattle.lf_outcome.specs.Limits.{deepest}
use Rattle.lf_outcome.specs.Measures.{depth_of, atoms_of}
use Rattle.lf_outcome.specs.Unfolding.{unfolded}
use Rattle.lf_outcome.proofs.Laws.{depth-unfolded, atoms-unfolded}
use Rattle.lf_scenario.specs.Limits.{most_listed}
use Rattle.lf_scenario.specs.Outcomes.{limited}
use Rattle.lf_scenario.specs.Values.{Reading}
use Rattle.lf_scenario.specs.declared.error.ScenarioError.TheVariants as refusals

module _ (f : Formula Fact) where
  abbrev fits : Bool
  fits = nat_le (depth_of f) deepest && nat_le (atoms_of f) most_listed

  abbrev by_test : Bool → Reading (Formula Fact)
  by_test t = cond t (Ok f) (Err refusals.Formula)

  refused : (t : Bool) → t ≡ fits → (depth_of f ≤ deepest → atoms_of f ≤ most_listed → ⊥) → Err refusals.Formula ≡ by_test t
  refused true is neither =
      let both = and_parts (nat_le (depth_of f) deepest) (nat_le (atoms_of f) most_listed) (sym is) in
      absurd (neither (leb-true (depth_of f) deepest both.0) (leb-true (atoms_of f) most_listed both.1))
  refused false is neither = refl

  pub limited-kept : (d a : ℕ) → d ≡ min (depth_of (unfolded f)) 4294967295 → a ≡ min (atoms_of (unfolded f)) 4294967295 → d ≤ deepest → a ≤ most_listed
      → Ok f ≡ limited f
  limited-kept d a deep many low few =
      ap by_test (sym (and_from (nat_le (depth_of f) deepest) (nat_le (atoms_of f) most_listed)
      (le-leb (depth_of f) deepest (omega (arith, deep, low, depth-unfolded f 0)))
      (le-leb (atoms_of f) most_listed (omega (arith, many, few, atoms-unfolded f 0)))))

  pub limited-deep : (d : ℕ) → d ≡ min (depth_of (unfolded f)) 4294967295 → deepest < d → Err refusals.Formula ≡ limited f
  limited-deep d deep past = refused fits refl (λ low few. omega (arith, deep, past, low, depth-unfolded f 0))

  pub limited-many : (a : ℕ) → a ≡ min (atoms_of (unfolded f)) 4294967295 → most_listed < a → Err refusals.Formula ≡ limited f
  limited-many a many past = refused fits refl (λ low few. omega (arith, many, past, few, atoms-unfolded f 0))
