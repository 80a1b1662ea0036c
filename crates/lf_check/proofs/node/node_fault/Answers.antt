use Rattle.lf_sim.specs.Settings.{set_of, world_of}
use Rattle.lf_check.specs.Nodes.{place_of}
use Rattle.lf_check.proofs.NodeLemmas.{branch-found}
use Rattle.lf_check.proofs.node.node_fault.Goals as goal

pub returns-in-Branch : goal.returns-in-Branch
returns-in-Branch g c =
    let j = c.args.judged.now in
    let s = j.setting.now in
    let site = c.args.site.now in
    let branch = c.in-Branch in
    branch-found (world_of s) s.spec j.formula.now j.last site.depth
    (place_of c.args.node.now (set_of site.run.now) site.excluded.now) c.branch_fault.result branch.reach branch.edges c.as_slice.result.now
    branch.kids c.as_slice-in-Branch.result.now branch.is c.as_slice.ensures c.as_slice-in-Branch.ensures c.branch_fault.ensures
