use Rattle.lf_outcome.proofs.NamedLemmas.{each-more}
use Rattle.lf_outcome.proofs.outcome.each.Goals as goal

pub loop-node-preserved : goal.loop-node-preserved
loop-node-preserved g c =
    each-more c.args.step c.loop-node.node c.args.fact c.loop-node.parts.items c.push-in-loop-node-2.new.self.items
    c.push-in-loop-node.new.self.items c.push.new.self.items c.new-either.result.items
    c.new-either.ensures.items c.in_ok-push.ensures.items c.in_ok-push-2.ensures.items
    (rw c.from_vec.ensures at c.in_ok-push-3.ensures.items) c.loop-node.invariant
