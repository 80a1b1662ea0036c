use Rattle.lf_mutations.proofs.ListsLemmas.{rule-added}
use Rattle.lf_mutations.proofs.all.push_rule.Goals as goal

pub returns-in_ok-push_unsent : goal.returns-in_ok-push_unsent
returns-in_ok-push_unsent c =
    rule-added c.args.deep c.args.number c.args.rule.now c.as_slice.result.now c.as_slice-then-deep.result.now c.args.all.now.items
    c.push.new.self.items c.push-2.new.self.items c.push_unset.new.all.items c.push_unsent.new.all.items c.if-deep.true c.as_slice.ensures
    c.as_slice-then-deep.ensures c.in_ok-push.ensures.items c.in_ok-push-2.ensures.items c.in_ok-push_unset.ensures c.in_ok-push_unsent.ensures
