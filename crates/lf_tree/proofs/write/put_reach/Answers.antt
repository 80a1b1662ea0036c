use Rattle.std.proofs.Common.{rules, arith, map, ◌++◌}
use Rattle.std.specs.Fmt.{decimal}
use Rattle.lf_tree.specs.Texts.{in_brackets}
use Rattle.lf_tree.proofs.ListLemmas.{list-first, list-last, list-more}
use Rattle.lf_tree.proofs.write.put_reach.Goals as goal

pub steps-preserved : goal.steps-preserved
steps-preserved c =
    list-more decimal c.items-step-items.result.now c.steps.i c.from.result 0 c.steps.text.items c.put_comma.new.text.items
    c.put_number.new.text.items (c.args.text.now.items ++ in_brackets (map decimal c.args.reach.now)) (omega arith) c.from.ensures
    c.steps.invariant c.in_ok-put_comma.ensures c.in_ok-put_number.ensures

pub steps-init : goal.steps-init
steps-init c =
    list-first decimal c.args.reach.now c.items-step-items.result.now c.args.text.now.items c.push.new.self.items (search rules) c.in_ok-push.ensures.items

pub returns : goal.returns
returns c =
    list-last decimal c.items-step-items.result.now c.steps.i c.steps.text.items c.push-2.new.self.items
    (c.args.text.now.items ++ in_brackets (map decimal c.args.reach.now)) (omega arith) c.steps.invariant c.in_ok-push-2.ensures.items
