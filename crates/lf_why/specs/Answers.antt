-- Why an answer is one.
use Rattle.std.specs.Prelude.{◌≡◌, ℕ, List, MatchOption}
use Rattle.lf_faults.specs.declared.spec.Bounds.{Bounds}
use Rattle.lf_outcome.specs.declared.formula.Formula.{Formula}
use Rattle.lf_sim.specs.Runs.{World}
use Rattle.lf_trace.specs.Words.{Words}
use Rattle.lf_tree.specs.declared.tree.Tree.{Tree}
use Rattle.lf_why.specs.Rests.{TellsNone}
use Rattle.lf_why.specs.Sets.{reasons}

-- the lines tell of a set what each of its faults is needed for, and of none what stands behind it
abbrev pub IsWhy : {S N F : Type 0} → Words S N → World S N F → Bounds → Formula F → Tree → List ℕ → Type 0
IsWhy words w b formula tree lines =
    MatchOption tree.answer (TellsNone w b formula tree lines) (λ set. lines ≡ reasons words w formula set)
