use Rattle.std.proofs.Common.{arith, sym}
use Rattle.std.specs.List.{list_all, range_with_len}
use Rattle.lf_sim.specs.Settings.{world_of}
use Rattle.lf_why.specs.Idle.{begun_agree}
use Rattle.lf_why.proofs.Below.{every, fails, more}
use Rattle.lf_why.proofs.idle.starts_agree.Goals as goal

pub nodes-preserved : goal.nodes-preserved
nodes-preserved g c =
    more (λ n. list_all (begun_agree (world_of c.args.setting.now) c.args.topic n) (range_with_len 0 c.args.nodes)) c.nodes.node c.start_agrees.result
    c.nodes.invariant c.start_agrees.ensures c.if-not-start_agrees.false

pub returns-then-not-start_agrees : goal.returns-then-not-start_agrees
returns-then-not-start_agrees g c =
    fails (λ n. list_all (begun_agree (world_of c.args.setting.now) c.args.topic n) (range_with_len 0 c.args.nodes)) c.args.nodes c.nodes.node
    c.start_agrees.result c.nodes-test.true c.start_agrees.ensures c.if-not-start_agrees.true

pub returns : goal.returns
returns g c =
    sym (every (λ n. list_all (begun_agree (world_of c.args.setting.now) c.args.topic n) (range_with_len 0 c.args.nodes)) c.args.nodes
    (λ k below. c.nodes.invariant k (omega (arith, below))))
