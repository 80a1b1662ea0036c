use Rattle.std.proofs.Common.{subst, arith}
use Rattle.lf_faults.specs.Faults.{IsAscending}
use Rattle.lf_faults.proofs.PlacesLemmas.{at_most_six, first_fills, first_ascending}
use Rattle.lf_faults.proofs.set.FaultSet.prefix.Goals as goal

pub overflow_cast-result : goal.overflow_cast-result
overflow_cast-result c = omega (arith, c.requires, at_most_six c.self.inside.count c.self.inside.faults c.args.self.now c.self.invariant.0 c.self.view_is)

pub invariant_of-result : goal.invariant_of-result
invariant_of-result c =
    let ascending = subst IsAscending c.self.view_is c.self.invariant.1 in (
      first_fills c.self.inside.count c.self.inside.faults c.args.self.now c.self.invariant.0 c.self.view_is ascending c.args.count c.requires
          c.kept-faults.result c.kept-faults.ensures,
      first_ascending c.self.inside.count c.self.inside.faults c.args.self.now c.self.invariant.0 c.self.view_is ascending c.args.count c.requires
          c.kept-faults.result c.kept-faults.ensures,
    )
