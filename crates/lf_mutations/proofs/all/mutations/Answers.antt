use Rattle.std.proofs.Common.{◌+◌, ◌++◌, ◌∙◌, drop, ap}
use Rattle.lf_mutations.specs.Mutations.{mutations_from, rules_of}
use Rattle.lf_mutations.proofs.PlacesLemmas.{chain-next}
use Rattle.lf_mutations.proofs.FormedLemmas.{chain-few, chain-short}
use Rattle.lf_mutations.proofs.ListsLemmas.{chain-added}
use Rattle.lf_mutations.proofs.all.mutations.Goals as goal

pub push_rules-requires-clause-few : goal.push_rules-requires-clause-few
push_rules-requires-clause-few c =
    chain-few c.definition-definition.result.now c.as_slice-chain-items.result.now c.loop-chain.chain-index c.chain-item.result c.as_slice.result.now
    c.loop-chain.number c.definition-definition.ensures.well_formed c.as_slice-chain-items.ensures c.loop-chain-test.true c.chain-item.is
    c.as_slice.ensures c.loop-chain.invariant.number

pub push_rules-requires-clause-short : goal.push_rules-requires-clause-short
push_rules-requires-clause-short c =
    chain-short c.definition-definition.result.now c.as_slice-chain-items.result.now c.loop-chain.chain-index c.chain-item.result c.as_slice.result.now
    c.definition-definition.ensures.well_formed c.as_slice-chain-items.ensures c.loop-chain-test.true c.chain-item.is c.as_slice.ensures

pub loop-chain-preserved : goal.loop-chain-preserved
loop-chain-preserved c =
    let xs = c.as_slice-chain-items.result.now in
    let i = c.loop-chain.chain-index in
    let x = c.chain-item.result in
    let rules = c.as_slice.result.now in
    let n = c.loop-chain.number in
    let added = chain-added c.args.deep n c.loop-chain.all.items c.push_rules.new.all.items xs i x rules c.loop-chain-test.true c.chain-item.is
    c.as_slice.ensures c.in_ok-number.ensures.all in
    record {
      number = chain-next xs i x rules n c.in_ok-number.number c.loop-chain-test.true c.chain-item.is c.as_slice.ensures c.loop-chain.invariant.number
          c.in_ok-number.ensures.next;
      all = ap (λ k. c.push_rules.new.all.items ++ mutations_from c.args.deep k (rules_of (drop (i + 1) xs))) c.in_ok-number.ensures.next
          ∙ added ∙ c.loop-chain.invariant.all;
    }
