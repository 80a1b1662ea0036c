use Rattle.std.proofs.Common.{arith}
use Rattle.rule_examples.proofs.KeptLemmas.{calm-more}
use Rattle.rule_examples.proofs.single_runs.starts_with_zeros.Goals as goal

pub loop-chain-preserved : goal.loop-chain-preserved
loop-chain-preserved c =
    calm-more c.as_slice-chain-items.result.now c.loop-chain.chain-index c.chain-item.result c.is_of_start.result (omega arith) c.chain-item.is
    c.is_of_start.ensures c.loop-chain.invariant c.if-is_of_start.false
