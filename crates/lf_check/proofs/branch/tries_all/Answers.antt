use Rattle.lf_sim.specs.Settings.{set_of, world_of}
use Rattle.lf_check.proofs.BranchLemmas.{joined, tries_all-iff}
use Rattle.lf_check.proofs.branch.tries_all.Goals as goal

pub returns : goal.returns
returns g c =
    let s = c.args.setting.now in
    let site = c.args.site.now in
    let excluded = site.excluded.now in
    let edges = c.args.branch.edges.now in
    let found = c.put_edges.new.found in
    tries_all-iff (world_of s) (set_of site.run.now) s.spec c.args.branch.reach.now excluded edges c.as_slice.result.now found.items found.len
    c.is_empty.result (joined excluded edges c.new-passed.result.items c.extend_from_slice.new.self.items c.extend_from_slice-2.new.self.items
    c.as_slice.result.now c.new-passed.ensures.items c.in_ok-extend_from_slice.ensures.items c.in_ok-extend_from_slice-2.ensures.items
    c.as_slice.ensures.value) c.in_ok-put_edges.ensures found.ok.0 c.is_empty.ensures
