-- What changes in a run from step to step.
use Rattle.std.specs.Prelude.{ℕ, zero, suc, ◌+◌, List, [], ◌++◌, length, codes, bytes_eq, ◌==◌, if◌then◌else◌}
use Rattle.std.specs.Fmt.{decimal}
use Rattle.lf_faults.specs.declared.fault.Parts.{Parts}
use Rattle.lf_outcome.specs.declared.formula.Formula.{Formula}
use Rattle.lf_sim.specs.Runs.{World, each_below, view}
use Rattle.lf_trace.specs.Lines.{line}
use Rattle.lf_trace.specs.Traces.{end_word, node_line, note_lines, standing}
use Rattle.lf_trace.specs.Words.{Words}

-- lines under the number of their step, where there are any
abbrev pub titled : ℕ → List ℕ → List ℕ
titled t lines = if length lines == 0 then [] else codes "step " ++ (line (decimal t) ++ lines)

module _ {S N F : Type 0} (words : Words S N) (w : World S N F) (faults : List Parts) where
  -- a node's words after a step; before the first they are those of its start
  abbrev pub standing_after : ℕ → ℕ → List ℕ
  standing_after zero n = words.state (view w faults n zero)
  standing_after (suc t) n = standing words w faults (suc t) n

  -- the line of a node at the step after `past`, where its words differ from those before it
  abbrev pub changed_line : ℕ → ℕ → List ℕ
  changed_line past n =
      if bytes_eq (standing_after past n) (standing_after (past + 1) n) then [] else node_line words w faults (past + 1) n

  abbrev pub changed_nodes : ℕ → List ℕ
  changed_nodes past = each_below (changed_line past) w.rules.nodes

  -- those of all nodes, in order, and then those of the notes
  abbrev pub changed_lines : ℕ → List ℕ
  changed_lines past = changed_nodes past ++ note_lines words w faults (past + 1)

  abbrev pub step_changes : ℕ → List ℕ
  step_changes past = titled (past + 1) (changed_lines past)

  -- the steps 1 to the last, and then whether the faults reach the outcome
  abbrev pub changes_by : Formula F → List ℕ
  changes_by formula = each_below step_changes w.horizon ++ line (end_word w faults formula)
