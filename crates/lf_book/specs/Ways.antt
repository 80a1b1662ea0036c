-- What leads down to a set, step by step along its path.
use Rattle.std.specs.Prelude.{◌≡◌, ℕ, ◌+◌, List, ◌++◌, take, Some}
use Rattle.lf_faults.specs.declared.fault.Parts.{Parts}
use Rattle.lf_marks.specs.Steps.{Marking}
use Rattle.lf_certificate.specs.Tasks.{task_at}

-- the path leads to these faults
abbrev pub LeadsTo : Marking → List ℕ → List Parts → Type 0
LeadsTo at path faults = (excluded : List Parts) × (task_at at path ≡ Some (record { faults = faults; excluded = excluded }))

-- so far down a path that leads to these faults, the next step leads to others, and excludes more
abbrev pub LeadsOn : Marking → List ℕ → ℕ → List Parts → List Parts → List Parts → Type 0
LeadsOn at path depth faults more larger =
    (excluded : List Parts) → task_at at (take depth path) ≡ Some (record { faults = faults; excluded = excluded })
    → task_at at (take (depth + 1) path) ≡ Some (record { faults = larger; excluded = excluded ++ more })
