use Rattle.std.proofs.Common.{◌≤◌, ◌+◌, length, take, arith}
use Rattle.lf_rules.specs.Forms.{rules_in}
use Rattle.lf_stakes.proofs.RulesLemmas.{rules-fit}
use Rattle.lf_stakes.proofs.counting.rules_in.Goals as goal

pub overflow_add-rules : goal.overflow_add-rules
overflow_add-rules c =
    let chains = c.args.chains.now in
    let fit : rules_in (take c.loop-chain.chain-index chains) + length c.chain-item.result.rules ≤ rules_in chains =
    rules-fit chains c.loop-chain.chain-index c.chain-item.result c.loop-chain-test.true c.chain-item.is in
    omega (arith, fit, c.loop-chain.invariant, c.len-rules.ensures, c.requires)
