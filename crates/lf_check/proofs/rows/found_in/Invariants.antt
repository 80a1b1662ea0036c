use Rattle.std.proofs.Common.{◌+◌, ◌*◌}
use Rattle.lf_sim.specs.Settings.{world_of}
use Rattle.lf_check.specs.declared.found.Found.TheVariants as found
use Rattle.lf_check.specs.Rows.{IsFound}
use Rattle.lf_check.proofs.rows.found_in.Given as goal

-- what is found in the parts so far
abbrev pub invariant-loop-i : goal.invariant-loop-i
invariant-loop-i g l =
    IsFound (world_of l.judged.setting.now) l.judged.setting.now.spec l.judged.formula.now l.judged.last l.places.tree.now
    l.places.sets.items 0 ((l.i + 1) * 256) (found.Passes l.first)
