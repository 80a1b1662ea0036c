use Rattle.std.proofs.Common.{sym, ◌∙◌}
use Rattle.std.proofs.lemmas.Bool.{both_ways}
use Rattle.lf_sim.specs.Settings.{set_of, world_of}
use Rattle.lf_check.proofs.BranchLemmas.{branch-deep, branch-misses, branch-reach, branch-edges, branch-kids, branch-right}
use Rattle.lf_check.proofs.BranchLemmas.{right-reach, right-edges, wrong-edges}
use Rattle.lf_check.proofs.branch.branch_fault.Goals as goal

pub returns-then-site-judged : goal.returns-then-site-judged
returns-then-site-judged g c =
    let j = c.args.judged.now in
    let s = j.setting.now in
    let site = c.args.site.now in
    let branch = c.args.branch in
    branch-deep (world_of s) s.spec j.formula.now j.last site.depth (set_of site.run.now) site.excluded.now branch.reach.now
    branch.edges.now branch.kids.now c.if-site-judged.true

pub returns-then-not-holds : goal.returns-then-not-holds
returns-then-not-holds g c =
    let j = c.args.judged.now in
    let s = j.setting.now in
    let site = c.args.site.now in
    let branch = c.args.branch in
    branch-misses (world_of s) s.spec j.formula.now j.last site.depth (set_of site.run.now) site.excluded.now branch.reach.now
    branch.edges.now branch.kids.now c.if-site-judged.false (sym c.holds.ensures ∙ c.if-not-holds.true)

pub returns-in-Some : goal.returns-in-Some
returns-in-Some g c =
    let j = c.args.judged.now in
    let s = j.setting.now in
    let site = c.args.site.now in
    let branch = c.args.branch in
    branch-reach (world_of s) s.spec j.formula.now j.last site.depth (set_of site.run.now) site.excluded.now branch.reach.now
    branch.edges.now branch.kids.now c.if-site-judged.false (sym c.holds.ensures ∙ c.if-not-holds.false) c.in-Some.reason c.in-Some.ensures

pub returns-in-Some-2 : goal.returns-in-Some-2
returns-in-Some-2 g c =
    let j = c.args.judged.now in
    let s = j.setting.now in
    let site = c.args.site.now in
    let branch = c.args.branch in
    branch-edges (world_of s) s.spec j.formula.now j.last site.depth (set_of site.run.now) site.excluded.now branch.reach.now
    branch.edges.now branch.kids.now c.if-site-judged.false (sym c.holds.ensures ∙ c.if-not-holds.false)
    (right-reach (world_of s) s.spec j.formula.now (set_of site.run.now) branch.reach.now c.reach_fault.result c.in_default.is
    c.reach_fault.ensures) c.in-Some-2.reason
    (wrong-edges (world_of s) s.spec (set_of site.run.now) site.excluded.now branch.reach.now branch.edges.now
    c.in_ok-reason.field-0 c.in-Some-2.reason c.in-Some-2.is c.in_ok-reason.ensures)

pub returns-then-not-has_each_kid : goal.returns-then-not-has_each_kid
returns-then-not-has_each_kid g c =
    let j = c.args.judged.now in
    let s = j.setting.now in
    let site = c.args.site.now in
    let branch = c.args.branch in
    branch-kids (world_of s) s.spec j.formula.now j.last site.depth (set_of site.run.now) site.excluded.now branch.reach.now
    branch.edges.now branch.kids.now c.if-site-judged.false (sym c.holds.ensures ∙ c.if-not-holds.false)
    (right-reach (world_of s) s.spec j.formula.now (set_of site.run.now) branch.reach.now c.reach_fault.result c.in_default.is
    c.reach_fault.ensures)
    (right-edges (world_of s) s.spec (set_of site.run.now) site.excluded.now branch.reach.now branch.edges.now
    c.in_ok-reason.field-0 c.in_default-2.is c.in_ok-reason.ensures)
    (λ e. both_ways c.has_each_kid.result c.if-not-has_each_kid.true (c.has_each_kid.ensures.1 e))

pub returns : goal.returns
returns g c =
    let j = c.args.judged.now in
    let s = j.setting.now in
    let site = c.args.site.now in
    let branch = c.args.branch in
    branch-right (world_of s) s.spec j.formula.now j.last site.depth (set_of site.run.now) site.excluded.now branch.reach.now
    branch.edges.now branch.kids.now c.if-site-judged.false
    (right-reach (world_of s) s.spec j.formula.now (set_of site.run.now) branch.reach.now c.reach_fault.result c.in_default.is
    c.reach_fault.ensures)
    (right-edges (world_of s) s.spec (set_of site.run.now) site.excluded.now branch.reach.now branch.edges.now
    c.in_ok-reason.field-0 c.in_default-2.is c.in_ok-reason.ensures) (c.has_each_kid.ensures.0 c.if-not-has_each_kid.false)
