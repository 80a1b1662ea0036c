use Rattle.std.proofs.Common.{◌+◌, drop, sym, ap, ◌∙◌, arith}
use Rattle.lf_rule_machine.specs.Moments.{seen}
use Rattle.lf_rule_machine.specs.Events.{Draft, fill}
use Rattle.lf_rule_machine.proofs.FoldsLemmas.{fill-next, fill-end}
use Rattle.lf_rule_machine.proofs.sending.fill.Goals as goal

pub loop-k-preserved : goal.loop-k-preserved
loop-k-preserved c =
    let d = c.args.definition.now in
    let at = seen c.args.at.now in
    let values = c.args.values.now in
    let draft : Draft = record { state = c.loop-k.state; fields = c.loop-k.fields } in
    ap (λ x. fill d at c.args.kinds.now x (c.loop-k.k + 1) (drop (c.loop-k.k + 1) values)) c.fill_one.ensures
    ∙ sym (fill-next d at c.args.kinds.now draft c.loop-k.k values c.index-values-k.result c.loop-k-test.true c.index-values-k.is)
    ∙ c.loop-k.invariant

pub returns : goal.returns
returns c =
    let draft : Draft = record { state = c.loop-k.state; fields = c.loop-k.fields } in
    sym (fill-end c.args.definition.now (seen c.args.at.now) c.args.kinds.now draft c.loop-k.k c.args.values.now (omega arith)) ∙ c.loop-k.invariant
