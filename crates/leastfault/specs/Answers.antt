-- The answer to a scenario: the first allowed set of faults that misses its outcome; and all least sets.
use Rattle.std.specs.Prelude.{Bool, not, List, Option}
use Rattle.lf_faults.specs.declared.fault.Parts.{Parts}
use Rattle.lf_faults.specs.Allowed.{IsFirst}
use Rattle.lf_sim.specs.Settings.{world_of}
use Rattle.lf_outcome.specs.Truth.{reaches}
use Rattle.lf_plain.specs.Fewest.{IsFewest}
use Rattle.lf_outcome.specs.declared.scenario.Scenario.{Scenario}
use Rattle.lf_certificate.specs.Levels.{AreAllLeast}

-- the run of the faults reaches the scenario's outcome, and elsewhere it misses
abbrev pub reaches_in : Scenario → List Parts → Bool
reaches_in s faults = reaches (world_of s.setting) faults s.formula

-- the first, in the order of sets, of the allowed sets that miss, or none where no allowed set misses
abbrev pub IsAnswer : Scenario → Option (List Parts) → Type 0
IsAnswer s answer = IsFirst s.setting.spec (λ faults. not (reaches_in s faults)) answer

-- the set answered is allowed, its run misses, and every allowed set with fewer faults reaches; where none is answered,
-- every allowed set reaches
abbrev pub IsLeast : Scenario → Option (List Parts) → Type 0
IsLeast s answer = IsFewest s.setting.spec (reaches_in s) answer

-- all allowed sets that miss while none with fewer faults does, in the order of sets, each once
abbrev pub AreLeastSets : Scenario → List (List Parts) → Type 0
AreLeastSets s = AreAllLeast (world_of s.setting) s.setting.spec s.formula
