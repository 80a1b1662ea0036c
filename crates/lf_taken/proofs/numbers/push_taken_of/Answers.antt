use Rattle.std.proofs.Common.{◌≤◌, ◌+◌, length, take, ap, arith}
use Rattle.lf_rules.specs.Forms.{rules_in}
use Rattle.lf_taken.proofs.NumbersLemmas.{few-up-to}
use Rattle.lf_taken.proofs.numbers.push_taken_of.Goals as goal

pub rules_in-first-requires : goal.rules_in-first-requires
rules_in-first-requires c =
    let all = c.args.definition.now.chains in
    let x = c.args.chain.now in
    let few : rules_in (take c.args.number c.as_slice.result.now) + length x.rules ≤ 128 =
    few-up-to all c.as_slice.result.now c.args.number x c.as_slice.ensures c.requires.few c.requires.chain in
    omega (arith, few)

pub overflow_add-first : goal.overflow_add-first
overflow_add-first c =
    let all = c.args.definition.now.chains in
    let x = c.args.chain.now in
    let few : rules_in (take c.args.number c.as_slice.result.now) + length x.rules ≤ 128 =
    few-up-to all c.as_slice.result.now c.args.number x c.as_slice.ensures c.requires.few c.requires.chain in
    omega (arith, few, c.rules_in-first.ensures)

pub number_true-requires : goal.number_true-requires
number_true-requires c =
    let all = c.args.definition.now.chains in
    let x = c.args.chain.now in
    let few : rules_in (take c.args.number c.as_slice.result.now) + length x.rules ≤ 128 =
    few-up-to all c.as_slice.result.now c.args.number x c.as_slice.ensures c.requires.few c.requires.chain in
    omega (arith, few, c.rules_in-first.ensures, ap length c.as_slice-2.ensures)
