-- What the sets of a search are worked with: a path of kids leads from the empty set to each, and the edges on its way tell which
-- faults the set has and which no set beneath it is to hold.
use Rattle.std.specs.Prelude.{ℕ, List, [], ◌∷◌, ◌++◌, take, slice_get, Option, None, Some}
use Rattle.std.specs.Option.{option_map, option_and_then}
use Rattle.lf_faults.specs.declared.fault.Parts.{Parts}
use Rattle.lf_faults.specs.Faults.{inserted}
use Rattle.lf_marks.specs.Steps.{Mark, Marking}
use Rattle.lf_marks.specs.Steps as mark

-- a set of faults, and what is excluded beneath it
pub record Task : Type 0 where
  pub faults : List Parts
  pub excluded : List Parts

-- the root's: the empty set, with nothing excluded
abbrev pub root_task : Task
root_task = record { faults = []; excluded = [] }

-- the i-th kid's, beneath a set with these edges: the edge more, and the edges before it excluded
abbrev pub kid_task : Task → List Parts → ℕ → Option Task
kid_task t edges i = option_map (λ edge. record { faults = inserted edge t.faults; excluded = t.excluded ++ take i edges }) (slice_get edges i)

-- the edges of a mark
abbrev pub edges_of_mark : Mark → List Parts
edges_of_mark mark.Waiting = []
edges_of_mark mark.Open = []
edges_of_mark (mark.Claimed t) = []
edges_of_mark mark.Misses = []
edges_of_mark mark.Reaches = []
edges_of_mark (mark.Branch reach edges) = edges

abbrev pub edges_in : Option Mark → List Parts
edges_in None = []
edges_in (Some m) = edges_of_mark m

-- the marks beneath the i-th kid of the root
abbrev pub beneath : Marking → ℕ → Marking
beneath at i path = at (i ∷ path)

-- what a path leads to from a task
abbrev pub task_from : Marking → Task → List ℕ → Option Task
task_from at t [] = Some t
task_from at t (i ∷ path) = option_and_then (λ kid. task_from (beneath at i) kid path) (kid_task t (edges_in (at [])) i)

-- what the set at a path is worked with
abbrev pub task_at : Marking → List ℕ → Option Task
task_at at = task_from at root_task
