use Rattle.std.proofs.Common.{arith, sym, ap, ◌∙◌}
use Rattle.lf_sim.specs.Settings.{world_of}
use Rattle.lf_why.specs.Idle.{begun, begun_agree, both_agree}
use Rattle.lf_why.proofs.Below.{every, fails, more}
use Rattle.lf_why.proofs.idle.start_agrees.Goals as goal

pub others-preserved : goal.others-preserved
others-preserved g c =
    let w = world_of c.args.setting.now in
    more (begun_agree w c.args.topic c.args.node) c.others.other c.both_agree.result c.others.invariant
    (c.both_agree.ensures ∙ ap (λ o. both_agree o c.begun-in-others.result) c.begun.ensures
    ∙ ap (both_agree (begun w c.args.topic c.args.node)) c.begun-in-others.ensures) c.if-not-both_agree.false

pub returns-then-not-both_agree : goal.returns-then-not-both_agree
returns-then-not-both_agree g c =
    let w = world_of c.args.setting.now in
    fails (begun_agree w c.args.topic c.args.node) c.args.nodes c.others.other c.both_agree.result c.others-test.true
    (c.both_agree.ensures ∙ ap (λ o. both_agree o c.begun-in-others.result) c.begun.ensures
    ∙ ap (both_agree (begun w c.args.topic c.args.node)) c.begun-in-others.ensures) c.if-not-both_agree.true

pub returns : goal.returns
returns g c =
    sym (every (begun_agree (world_of c.args.setting.now) c.args.topic c.args.node) c.args.nodes (λ k below. c.others.invariant k (omega (arith, below))))
