-- Which formulas a scenario may have.
use Rattle.std.specs.Prelude.{◌≡◌, ℕ, ◌≤◌, Bool, true, false, ◌&&◌, ◌==◌, nat_le, nat_lt}
use Rattle.std.specs.List.{list_all, list_any}
use Rattle.std.specs.Str.{bytes_eq}
use Rattle.lf_faults.specs.declared.spec.Bounds.{Bounds}
use Rattle.lf_protocols.specs.declared.fact.Fact.{Fact}
use Rattle.lf_protocols.specs.declared.protocol.Kind.{Kind}
use Rattle.lf_protocols.specs.Protocols.{topics_of}
use Rattle.lf_protocols.specs.Words.{fact_name, facts_of}
use Rattle.lf_outcome.specs.declared.formula.Formula.{Formula, fold-Formula}
use Rattle.lf_outcome.specs.declared.formula.Formula.TheOpen.{Formula-F}
use Rattle.lf_outcome.specs.Measures.{depth_of, atoms_of}
use Rattle.lf_outcome.specs.Limits.{deepest, most_atoms}
use Rattle.lf_outcome.specs.Unfolding.{unfolded}

-- a node at a step of the run
abbrev pub is_point : ℕ → ℕ → ℕ → ℕ → Bool
is_point nodes horizon n t = nat_lt n nodes && (nat_le 1 t && nat_le t horizon)

-- a fact that the protocol's states show: each fact has a word of its own
abbrev pub is_fact_of : Kind → Fact → Bool
is_fact_of k fact = list_any (λ f. bytes_eq (fact_name k fact) (fact_name k f)) (facts_of k)

module _ (k : Kind) (nodes horizon : ℕ) where
  -- one level, with whether each part is in range in its place
  abbrev pub range_step : Formula-F Fact Bool → Bool
  range_step (Formula-F.All parts) = list_all (λ b. b) parts
  range_step (Formula-F.Any parts) = list_all (λ b. b) parts
  range_step (Formula-F.Down n t) = is_point nodes horizon n t
  range_step (Formula-F.Shows n t fact) = is_point nodes horizon n t && is_fact_of k fact
  range_step (Formula-F.One many last topic) = (many == nodes) && ((last == horizon) && nat_lt topic (topics_of k))
  range_step (Formula-F.Over every first last parts) = false

  -- each atom speaks of a point of the run, or of all of them, and each fact and topic is one of the protocol's; of a formula without Over
  abbrev pub is_in_range : Formula Fact → Bool
  is_in_range = fold-Formula Fact Bool range_step

-- the formula of a scenario: unfolded it is in range, not too deep, and without too many atoms
pub record IsFormulaOf (k : Kind) (b : Bounds) (formula : Formula Fact) : Type 0 where
  pub range : is_in_range k b.nodes b.horizon (unfolded formula) ≡ true
  pub depth : depth_of (unfolded formula) ≤ deepest
  pub atoms : atoms_of (unfolded formula) ≤ most_atoms
