use Rattle.lf_sim.specs.Settings.{set_of, world_of}
use Rattle.lf_check.proofs.NodeLemmas.{found-at, ok_then}
use Rattle.lf_check.proofs.walk.fault_of.Goals as goal

pub returns-clause-fault : goal.returns-clause-fault
returns-clause-fault g c =
    let j = c.args.judged.now in
    let s = j.setting.now in
    ok_then c.node_fault-fault.result _ _ c.node_fault-fault.ensures (λ found h.
    found-at (world_of s) s.spec j.formula.now j.last c.args.depth c.args.node.now (set_of c.in_ok-run.run') c.args.set.now
    c.as_slice.result.now c.args.walk.now.excluded.items found c.in_ok-run.ensures.set c.as_slice.ensures.value h)
