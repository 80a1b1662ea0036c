use Rattle.std.proofs.Common.{◌+◌, ◌-◌, ◌*◌}
use Rattle.std.specs.Prelude.{IfSome}
use Rattle.lf_sim.specs.Settings.{IsRun, world_of}
use Rattle.lf_check.specs.Walks.{kid_of, stand_of}
use Rattle.lf_check.proofs.WalkLemmas.{SoFar}
use Rattle.lf_check.proofs.walk.+visit.Given as goal

-- no branch below the last depth has its kids visited
abbrev pub decreases-visit : goal.decreases-visit
decreases-visit g l = 2 * (l.judged.now.last - l.depth) + 1

abbrev pub decreases-visit_kids : goal.decreases-visit_kids
decreases-visit_kids g l = 2 * (l.judged.now.last - l.depth)

abbrev pub invariant-visit_kids-kids : goal.invariant-visit_kids-kids
invariant-visit_kids-kids g l =
    SoFar (world_of l.judged.setting.now) l.judged.setting.now.spec l.judged.formula.now l.judged.last l.depth
    (kid_of l.edges l.kids l.set l.fn.walk.excluded.items) l.edges l.i (stand_of l.fn.walk) (stand_of l.walk)
    × IfSome l.walk.spent (IsRun (world_of l.judged.setting.now))
