use Rattle.lf_sim.specs.Settings.{set_of, world_of}
use Rattle.lf_check.proofs.NodeLemmas.{leaf-deep, leaf-found}
use Rattle.lf_check.proofs.leaf.leaf_fault.Goals as goal

pub returns-then-site-judged : goal.returns-then-site-judged
returns-then-site-judged g c =
    let j = c.args.judged.now in
    let s = j.setting.now in
    let site = c.args.site.now in
    leaf-deep (world_of s) s.spec j.formula.now j.last site.depth (set_of site.run.now) c.args.says c.if-site-judged.true

pub returns : goal.returns
returns g c =
    let j = c.args.judged.now in
    let s = j.setting.now in
    let site = c.args.site.now in
    leaf-found (world_of s) s.spec j.formula.now j.last site.depth (set_of site.run.now) c.args.says c.holds.result
    c.said_wrongly.result c.if-site-judged.false c.holds.ensures c.said_wrongly.ensures
