use Rattle.std.proofs.Common.{◌≡◌, sym, ap, ◌∙◌, arith}
use Rattle.std.specs.List.{fold, range_with_len}
use Rattle.lf_rule_machine.specs.Moments.{seen}
use Rattle.lf_rule_machine.specs.Events.{send_one}
use Rattle.lf_rule_machine.proofs.FoldsLemmas.{fold-range-more}
use Rattle.lf_rule_machine.proofs.sending.send_each.Goals as goal

pub loop-to-preserved : goal.loop-to-preserved
loop-to-preserved c =
    let f = send_one c.args.definition.now (seen c.args.at.now) c.args.set c.args.message.now in
    c.send_one.ensures ∙ ap (λ x. f x c.loop-to.to) c.loop-to.invariant ∙ sym (fold-range-more f c.args.turn.now c.loop-to.to)

pub returns : goal.returns
returns c =
    let f = send_one c.args.definition.now (seen c.args.at.now) c.args.set c.args.message.now in
    let last : c.loop-to.to ≡ c.args.at.now.nodes = omega arith in
    c.loop-to.invariant ∙ ap (λ n. fold f c.args.turn.now (range_with_len 0 n)) last
