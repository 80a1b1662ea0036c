use Rattle.std.proofs.Common.{arith}
use Rattle.lf_scenario.proofs.LimitedLemmas.{limited-deep, limited-kept, limited-many}
use Rattle.lf_scenario.proofs.outcomes.limited.Goals as goal
use Rattle.lf_scenario.proofs.outcomes.limited.Goals.{else-depth-le-DEEPEST-via-else-depth-le-DEEPEST}
use Rattle.lf_scenario.proofs.outcomes.limited.Goals.{else-depth-le-DEEPEST-via-then-depth-le-DEEPEST+else-atoms-le-MOST_LISTED}

pub returns-then-atoms-le-MOST_LISTED : goal.returns-then-atoms-le-MOST_LISTED
returns-then-atoms-le-MOST_LISTED c =
    limited-kept c.args.formula c.depth.result c.atoms.result c.depth.ensures c.atoms.ensures (omega (arith, c.if-depth-le-DEEPEST.true))
    (omega (arith, c.if-atoms-le-MOST_LISTED.true))

pub returns-else-depth-le-DEEPEST : goal.returns-else-depth-le-DEEPEST
returns-else-depth-le-DEEPEST c =
    elim c.else-depth-le-DEEPEST.branch [
      | else-depth-le-DEEPEST-via-then-depth-le-DEEPEST+else-atoms-le-MOST_LISTED w ↦
          limited-many c.args.formula w.atoms.result w.atoms.ensures (omega (arith, w.if-atoms-le-MOST_LISTED.false))
      | else-depth-le-DEEPEST-via-else-depth-le-DEEPEST w ↦
          limited-deep c.args.formula c.depth.result c.depth.ensures (omega (arith, w.if-depth-le-DEEPEST.false))
    ]
