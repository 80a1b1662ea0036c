use Rattle.std.proofs.Common.{◌≡◌, ◌+◌, ◌<◌, sym, ◌∙◌, rules, arith}
use Rattle.lf_sim.specs.Settings.{set_of, world_of}
use Rattle.lf_stakes.specs.Entered.{is_entered_by}
use Rattle.lf_stakes.proofs.EnteredLemmas.{entered-by, none-entered}
use Rattle.lf_stakes.proofs.RangesLemmas.{none-more}
use Rattle.lf_stakes.proofs.entered.is_entered_in.Goals as goal

pub loop-node-preserved : goal.loop-node-preserved
loop-node-preserved c =
    let by = is_entered_by (world_of c.args.setting.now) (set_of c.args.run.now) c.args.topic in
    none-more by 0 c.loop-node.node c.loop-node.node (omega arith) c.loop-node.invariant (sym c.is_entered_by.ensures ∙ c.if-is_entered_by.false)

pub returns-then-is_entered_by : goal.returns-then-is_entered_by
returns-then-is_entered_by c =
    let w = world_of c.args.setting.now in
    let low : c.loop-node.node < w.rules.nodes = search (rules, arith) in
    sym (entered-by w (set_of c.args.run.now) c.args.topic c.loop-node.node low (sym c.is_entered_by.ensures ∙ c.if-is_entered_by.true))

pub returns : goal.returns
returns c =
    let w = world_of c.args.setting.now in
    let all : c.loop-node.node ≡ w.rules.nodes = search (rules, arith) in
    sym (none-entered w (set_of c.args.run.now) c.args.topic c.loop-node.node all c.loop-node.invariant)
