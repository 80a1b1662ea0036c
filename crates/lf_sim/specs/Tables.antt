-- What was done, as a list of cells: step by step, and in each step node by node.
use Rattle.std.specs.Prelude.{◌≡◌, ℕ, ◌+◌, ◌*◌, ◌<◌, List, [], ◌∷◌, slice_get, Some}
use Rattle.lf_faults.specs.declared.fault.Parts.{Parts}
use Rattle.lf_sim.specs.declared.out.Stepped.{Stepped}
use Rattle.lf_sim.specs.Runs.{World, each_below, did}

module _ {State Note Fact : Type 0} (w : World State Note Fact) (faults : List Parts) where
  -- what the first nodes did at t
  abbrev pub row_of : ℕ → ℕ → List (Stepped State Note)
  row_of t = each_below (λ n. did w faults n t ∷ [])

  -- what all nodes did at each step before b
  abbrev pub table : ℕ → List (Stepped State Note)
  table = each_below (λ t. row_of t w.rules.nodes)

  -- the cells have what each node did at each step before b
  abbrev pub HasPast : List (Stepped State Note) → ℕ → Type 0
  HasPast cells b = (n t : ℕ) → n < w.rules.nodes → t < b → slice_get cells (t * w.rules.nodes + n) ≡ Some (did w faults n t)
