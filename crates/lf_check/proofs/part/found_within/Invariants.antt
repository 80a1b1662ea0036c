use Rattle.std.proofs.Common.{◌≤◌}
use Rattle.std.specs.Prelude.{IfSome}
use Rattle.lf_sim.specs.Settings.{IsRun, world_of}
use Rattle.lf_check.specs.declared.found.Found.TheVariants as found
use Rattle.lf_check.specs.Rows.{IsExcluded, IsFound}
use Rattle.lf_check.proofs.part.found_within.Given as goal

-- what is found in the nodes so far
abbrev pub invariant-loop-at : goal.invariant-loop-at
invariant-loop-at g l =
    (l.from ≤ l.at) × (l.at ≤ l.to)
    × IsFound (world_of l.judged.setting.now) l.judged.setting.now.spec l.judged.formula.now l.judged.last l.places.tree.now
    l.places.sets.items l.from l.at (found.Passes l.first)
    × IsExcluded l.places.tree.now l.memory.excluded
    × IfSome l.memory.spent (IsRun (world_of l.judged.setting.now))
