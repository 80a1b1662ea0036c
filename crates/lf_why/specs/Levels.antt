-- How many sets a search ran, level by level.
use Rattle.std.specs.Prelude.{ℕ, zero, suc, List, ◌++◌, codes, map, min, sum}
use Rattle.std.specs.Fmt.{decimal}
use Rattle.lf_sim.specs.Runs.{each_below}
use Rattle.lf_trace.specs.Lines.{line}
use Rattle.lf_tree.specs.declared.tree.Node.{Node, fold-Node}
use Rattle.lf_tree.specs.declared.tree.Node.TheOpen.{Node-F}

-- one level, with how many sets each kid has so many levels beneath it in its place
abbrev pub sets_step : Node-F (ℕ → ℕ) → ℕ → ℕ
sets_step n zero = 1
sets_step Node-F.Misses (suc level) = 0
sets_step Node-F.Reaches (suc level) = 0
sets_step (Node-F.Branch reach edges kids) (suc level) = sum (map (λ sets. sets level) kids)

-- how many sets stand so many levels beneath a node, itself at level 0
abbrev pub sets_at : Node → ℕ → ℕ
sets_at = fold-Node (ℕ → ℕ) sets_step

-- `runs at level LEVEL: COUNT`
abbrev pub count_line : ℕ → ℕ → List ℕ
count_line level count = codes "runs at level " ++ (decimal level ++ (codes ": " ++ line (decimal count)))

-- with the count of sets, or 2^64 - 1 where they are more
abbrev pub level_line : Node → ℕ → List ℕ
level_line root level = count_line level (min (sets_at root level) 18446744073709551615)

-- of the levels from 0 to the last
abbrev pub level_lines : Node → ℕ → List ℕ
level_lines root last = each_below (level_line root) (suc last)
