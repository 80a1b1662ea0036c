use Rattle.std.proofs.Common.{◌≡◌, sym, ap, ◌∙◌, arith}
use Rattle.std.specs.List.{fold, range_with_len}
use Rattle.lf_rule_machine.specs.Moments.{seen}
use Rattle.lf_rule_machine.specs.Events.{put}
use Rattle.lf_rule_machine.proofs.FoldsLemmas.{fold-range-more}
use Rattle.lf_rule_machine.proofs.sending.put_all.Goals as goal

pub loop-to-preserved : goal.loop-to-preserved
loop-to-preserved c =
    let f = put (seen c.args.at.now) c.args.set c.args.note in
    c.put.ensures ∙ ap (λ x. f x c.loop-to.to) c.loop-to.invariant ∙ sym (fold-range-more f c.args.turn.now c.loop-to.to)

pub returns : goal.returns
returns c =
    let last : c.loop-to.to ≡ c.args.at.now.nodes = omega arith in
    c.loop-to.invariant ∙ ap (λ n. fold (put (seen c.args.at.now) c.args.set c.args.note) c.args.turn.now (range_with_len 0 n)) last
