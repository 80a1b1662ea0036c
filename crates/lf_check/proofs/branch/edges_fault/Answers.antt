use Rattle.std.proofs.Common.{sym, ◌∙◌}
use Rattle.std.proofs.lemmas.Bool.{both_ways}
use Rattle.lf_sim.specs.Settings.{set_of, world_of}
use Rattle.lf_check.proofs.BranchLemmas.{edges-right, edges-differ, edge-missing}
use Rattle.lf_check.proofs.branch.edges_fault.Goals as goal

pub returns-then-are_same : goal.returns-then-are_same
returns-then-are_same g c =
    let s = c.args.setting.now in
    let site = c.args.site.now in
    let branch = c.args.branch in
    edges-right (world_of s) s.spec (set_of site.run.now) site.excluded.now branch.reach.now branch.edges.now
    c.put_edges.new.found.items c.in_ok-put_edges.ensures (c.are_same.ensures.0 c.if-are_same.true ∙ c.as_slice.ensures.value)

pub returns-then-all : goal.returns-then-all
returns-then-all g c =
    let s = c.args.setting.now in
    let site = c.args.site.now in
    let branch = c.args.branch in
    edges-differ (world_of s) s.spec (set_of site.run.now) site.excluded.now branch.reach.now branch.edges.now
    c.put_edges.new.found.items c.in_ok-put_edges.ensures
    (λ e. both_ways c.are_same.result c.if-are_same.false (c.are_same.ensures.1 (e ∙ sym c.as_slice.ensures.value)))
    (c.in_ok-all.ensures.0 c.if-all.true)

pub returns : goal.returns
returns g c =
    let s = c.args.setting.now in
    let site = c.args.site.now in
    let branch = c.args.branch in
    edge-missing (world_of s) s.spec (set_of site.run.now) site.excluded.now branch.reach.now branch.edges.now
    c.put_edges.new.found.items c.in_ok-put_edges.ensures (λ all. both_ways c.in_ok-all.all c.if-all.false (c.in_ok-all.ensures.1 all))
