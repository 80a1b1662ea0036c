-- How a run differs from another of the same world.
use Rattle.std.specs.Prelude.{ℕ, suc, List, [], ◌++◌, length, codes, bytes_eq, ◌==◌, if◌then◌else◌}
use Rattle.lf_faults.specs.declared.fault.Parts.{Parts}
use Rattle.lf_outcome.specs.declared.formula.Formula.{Formula}
use Rattle.lf_sim.specs.Runs.{World, each_below}
use Rattle.lf_trace.specs.Lines.{line}
use Rattle.lf_trace.specs.Traces.{end_word, node_line, slot_line}
use Rattle.lf_trace.specs.Words.{Words}
use Rattle.lf_trace.specs.Changes.{titled}

-- a line behind its mark, where there is one
abbrev pub marked : List ℕ → List ℕ → List ℕ
marked mark words = if length words == 0 then [] else mark ++ words

-- two lines, where they differ: the other's, and the run's own
abbrev pub pair : List ℕ → List ℕ → List ℕ
pair other own = if bytes_eq other own then [] else marked (codes "- ") other ++ marked (codes "+ ") own

-- how both end, by their words
abbrev pub ends : List ℕ → List ℕ → List ℕ
ends other own = if bytes_eq other own then codes "= " ++ line own else (codes "- " ++ line other) ++ (codes "+ " ++ line own)

module _ {S N F : Type 0} (words : Words S N) (w : World S N F) (other faults : List Parts) where
  abbrev pub node_pair : ℕ → ℕ → List ℕ
  node_pair t n = pair (node_line words w other t n) (node_line words w faults t n)

  abbrev pub node_pairs : ℕ → List ℕ
  node_pairs t = each_below (node_pair t) w.rules.nodes

  abbrev pub slot_pair : ℕ → ℕ → ℕ → List ℕ
  slot_pair t n m = pair (slot_line words w other t n m) (slot_line words w faults t n m)

  abbrev pub sender_pairs : ℕ → ℕ → List ℕ
  sender_pairs t n = each_below (slot_pair t n) w.rules.nodes

  abbrev pub slot_pairs : ℕ → List ℕ
  slot_pairs t = each_below (sender_pairs t) w.rules.nodes

  -- the nodes, in order, and then the notes, by sender and then by receiver
  abbrev pub step_beside : ℕ → List ℕ
  step_beside t = titled t (node_pairs t ++ slot_pairs t)

  -- the steps 1 to the last, and then how both end
  abbrev pub beside_by : Formula F → List ℕ
  beside_by formula = each_below (λ past. step_beside (suc past)) w.horizon ++ ends (end_word w other formula) (end_word w faults formula)
