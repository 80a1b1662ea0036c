-- What stands behind `none`.
use Rattle.std.specs.Prelude.{◌≡◌, ℕ, zero, suc, Bool, List, [], ◌++◌, codes, ◌==◌, if◌then◌else◌}
use Rattle.std.specs.Fmt.{decimal}
use Rattle.std.specs.List.{list_all}
use Rattle.lf_certificate.specs.Grown.{IsReachFor}
use Rattle.lf_faults.specs.declared.spec.Bounds.{Bounds}
use Rattle.lf_outcome.specs.declared.formula.Formula.{Formula}
use Rattle.lf_outcome.specs.Reaches.{reach_at}
use Rattle.lf_outcome.specs.Truth.{reaches}
use Rattle.lf_sim.specs.Runs.{World, each_below}
use Rattle.lf_trace.specs.Lines.{line}
use Rattle.lf_tree.specs.declared.tree.Tree.{Tree}
use Rattle.lf_why.specs.Idle.{idle_line, idle_world}
use Rattle.lf_why.specs.Levels.{level_lines}

-- up to which step of a node the promise rests
abbrev pub rest_line : ℕ → ℕ → List ℕ
rest_line n zero = codes "rests on no step of node " ++ line (decimal n)
rest_line n (suc t) = codes "rests on node " ++ (decimal n ++ (codes " up to step " ++ line (decimal (suc t))))

-- no node counts at any step
abbrev pub is_bare : List ℕ → Bool
is_bare reach = list_all (λ t. t == 0) reach

-- of each of so many nodes, or that it rests on nothing
abbrev pub rest_lines : ℕ → List ℕ → List ℕ
rest_lines nodes reach =
    if is_bare reach then codes "rests on nothing\n" else each_below (λ n. rest_line n (reach_at reach n)) nodes

module _ {State Note Fact : Type 0} (w : World State Note Fact) (b : Bounds) (formula : Formula Fact) where
  -- how many sets were run at each level up to the budget; on what the promise rests in the run without faults, by its sharp reach; and whether
  -- nodes that do nothing keep it
  abbrev pub none_lines : Tree → List ℕ → List ℕ
  none_lines tree reach =
      level_lines tree.root b.budget ++ (rest_lines b.nodes reach ++ idle_line (reaches (idle_world w) [] formula))

  abbrev pub TellsNone : Tree → List ℕ → Type 0
  TellsNone tree lines = (reach : List ℕ) × IsReachFor w b formula [] reach × (lines ≡ none_lines tree reach)
