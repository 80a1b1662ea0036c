use Rattle.std.proofs.Common.{ℕ, ◌≡◌, get_or, ◌∙◌, arith}
use Rattle.std.specs.Prelude.{min}
use Rattle.std.proofs.Math.ListN.{length-set}
use Rattle.lf_cone.proofs.RequiredLemmas.{table-more}
use Rattle.lf_cone.proofs.required.ends_of.Goals as goal

pub loop-node-preserved : goal.loop-node-preserved
loop-node-preserved c =
    let i = c.loop-node.invariant in
    record {
      count = length-set c.loop-node.ends c.loop-node.node c.min.result ∙ i.count;
      each = table-more (λ n (x : ℕ). x ≡ min (get_or c.args.reach.now n 0) c.args.horizon) c.loop-node.ends 0 c.loop-node.node c.min.result
          (omega (arith, c.loop-node-test.true, i.count)) (omega (arith, c.min.ensures, c.at.ensures.value)) i.each;
    }

pub returns : goal.returns
returns c = λ n h. c.loop-node.invariant.each n (omega (arith, h, c.loop-node-test.false))
