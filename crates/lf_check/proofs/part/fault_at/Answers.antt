use Rattle.std.proofs.Common.{length, refl, ◌∙◌, arith}
use Rattle.std.specs.Prelude.{Some}
use Rattle.std.proofs.lemmas.Option.{slice_get_read}
use Rattle.lf_sim.specs.Settings.{set_of, world_of}
use Rattle.lf_tree.specs.Rows.{seen}
use Rattle.lf_check.proofs.FoundLemmas.{fault_read}
use Rattle.lf_check.proofs.NodeLemmas.{ok_then, on-ok}
use Rattle.lf_check.proofs.RowLemmas.{node_at, read_row}
use Rattle.lf_check.proofs.part.fault_at.Goals as goal

pub returns-clause-fault : goal.returns-clause-fault
returns-clause-fault g c =
    let j = c.args.judged.now in
    let s = j.setting.now in
    let places = c.args.places.now in
    let tree = places.tree.now in
    let rows = places.rows.items in
    let at = c.args.at in
    let row = c.index.result.now in
    let here = slice_get_read rows (length rows) at row refl (omega (arith, c.requires.at)) c.index.ensures in
    ok_then c.node_fault-found.result _ _ c.node_fault-found.ensures (λ found h way p stands.
    fault_read (world_of s) s.spec j.formula.now j.last tree at c.len.result row.node.now c.args.set.now (set_of c.in_ok-run.run')
    c.faults.result.now found way p stands
    (node_at tree at (seen row) way p (read_row tree rows at row c.requires.places.rows here) stands)
    (c.requires.places.sets at (Some c.args.set.now) c.requires.set) c.in_ok-run.ensures.set c.len.ensures.value
    (c.faults.ensures ∙ c.in_ok-go_to.ensures.here way p stands)
    h)

pub returns-clause-excluded : goal.returns-clause-excluded
returns-clause-excluded g c = on-ok c.node_fault-found.result c.in_ok-go_to.ensures.after
