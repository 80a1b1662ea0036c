use Rattle.std.proofs.Common.{arith}
use Rattle.std.specs.Fmt.{decimal}
use Rattle.lf_tree.proofs.LengthLemmas.{length-all}
use Rattle.lf_tree.proofs.size.reach_length.Goals as goal

pub returns : goal.returns
returns c =
    length-all decimal c.args.reach.now c.items-step-items.result.now c.steps.step-index c.steps.items c.list_length.result
    c.items-step-items.ensures.value (omega arith) c.steps.invariant c.list_length.ensures
