use Rattle.std.proofs.Common.{◌≡◌, sym, ap, ◌∙◌, arith}
use Rattle.std.specs.Prelude.{slice_get}
use Rattle.std.specs.List.{fold, range_with_len}
use Rattle.lf_rule_machine.specs.Moments.{seen}
use Rattle.lf_rule_machine.specs.Events.{set_member}
use Rattle.lf_rule_machine.proofs.FoldsLemmas.{fold-range-more}
use Rattle.lf_rule_machine.proofs.assigning.set_each.Goals as goal

pub loop-node-preserved : goal.loop-node-preserved
loop-node-preserved c =
    let d = c.args.definition.now in
    let f = set_member d (seen c.args.at.now) c.args.set c.args.table (slice_get d.variables c.args.table.of) c.args.value.now in
    c.set_member.ensures ∙ ap (λ x. f x c.loop-node.node) c.loop-node.invariant ∙ sym (fold-range-more f c.args.state.now c.loop-node.node)

pub returns : goal.returns
returns c =
    let d = c.args.definition.now in
    let f = set_member d (seen c.args.at.now) c.args.set c.args.table (slice_get d.variables c.args.table.of) c.args.value.now in
    let last : c.loop-node.node ≡ c.args.at.now.nodes = omega arith in
    c.loop-node.invariant ∙ ap (λ n. fold f c.args.state.now (range_with_len 0 n)) last
