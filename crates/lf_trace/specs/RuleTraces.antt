-- A run told line by line, with the rules that nodes took.
use Rattle.std.specs.Prelude.{ℕ, ◌+◌, List, [], ◌∷◌, ◌++◌, codes}
use Rattle.std.specs.Fmt.{decimal}
use Rattle.lf_faults.specs.declared.fault.Parts.{Parts}
use Rattle.lf_protocols.specs.declared.fact.Fact.{Fact}
use Rattle.lf_protocols.specs.declared.protocol.Kind.{Kind}
use Rattle.lf_protocols.specs.declared.note.Note.{Note}
use Rattle.lf_protocols.specs.declared.state.State.{State}
use Rattle.lf_sim.specs.Runs.{World, each_below}
use Rattle.lf_outcome.specs.declared.formula.Formula.{Formula}
use Rattle.lf_trace.specs.Lines.{line}
use Rattle.lf_trace.specs.Traces.{step_lines, end_word}
use Rattle.lf_taken.specs.Points.{taken_after}

-- `, K` for each number
abbrev pub more_numbers : List ℕ → List ℕ
more_numbers [] = []
more_numbers (x ∷ xs) = codes ", " ++ (decimal x ++ more_numbers xs)

-- `N rules K, K, ..`, and no line where there is no number
abbrev pub numbers_line : ℕ → List ℕ → List ℕ
numbers_line n [] = []
numbers_line n (x ∷ xs) = decimal n ++ (codes " rules " ++ (decimal x ++ line (more_numbers xs)))

module _ (k : Kind) (w : World State Note Fact) (faults : List Parts) where
  -- the line of the rules that a node took at the step after t, if it took any
  abbrev pub rule_line : ℕ → ℕ → List ℕ
  rule_line t n = numbers_line n (taken_after k w faults n t)

  -- those of all nodes, in order
  abbrev pub rule_lines : ℕ → List ℕ
  rule_lines t = each_below (rule_line t) w.rules.nodes

  -- the lines of the step after t, and then those of the rules that nodes took at it
  abbrev pub ruled_step : ℕ → List ℕ
  ruled_step t = step_lines k w faults (t + 1) ++ rule_lines t

  -- the steps 1 to the last, and then whether the faults reach the outcome
  abbrev pub rule_trace : Formula Fact → List ℕ
  rule_trace formula = each_below ruled_step w.horizon ++ line (end_word w faults formula)
