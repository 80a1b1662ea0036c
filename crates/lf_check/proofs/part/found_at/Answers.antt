use Rattle.std.proofs.Common.{◌<◌, length, refl, ap, ◌∙◌, arith}
use Rattle.std.specs.Prelude.{Some}
use Rattle.std.proofs.lemmas.Option.{slice_get_read}
use Rattle.lf_sim.specs.Settings.{world_of}
use Rattle.lf_tree.specs.Rows.{seen}
use Rattle.lf_check.proofs.FoundLemmas.{found-unset, here-fails, here-Misses, here-Reaches, here-Branch}
use Rattle.lf_check.proofs.RowLemmas.{node_at, none_is, read_row}
use Rattle.lf_check.proofs.part.found_at.Goals as goal
use Rattle.lf_check.proofs.part.found_at.Goals.{in-Misses, in-Reaches, in-Branch}

pub returns-in_default-clause-found : goal.returns-in_default-clause-found
returns-in_default-clause-found g c =
    let j = c.args.judged.now in
    let s = j.setting.now in
    let places = c.args.places.now in
    let sets = places.sets.items in
    let at = c.args.at in
    let within : at < length sets = omega (arith, c.requires.at, c.requires.places.count) in
    let is = slice_get_read sets (length sets) at c.index.result.now refl within c.index.ensures
    ∙ ap Some (none_is c.index.result.now c.in_default.not-Some) in
    found-unset (world_of s) s.spec j.formula.now j.last places.tree.now sets at is

pub returns-in-Some-2-clause-found : goal.returns-in-Some-2-clause-found
returns-in-Some-2-clause-found g c =
    let j = c.args.judged.now in
    let s = j.setting.now in
    let places = c.args.places.now in
    let sets = places.sets.items in
    let at = c.args.at in
    let set = c.in-Some.set in
    let within : at < length sets = omega (arith, c.requires.at, c.requires.places.count) in
    let is = slice_get_read sets (length sets) at c.index.result.now refl within c.index.ensures ∙ ap Some c.in-Some.is in
    here-fails (world_of s) s.spec j.formula.now j.last places.tree.now sets at set is (c.requires.places.sets at (Some set) is)
    c.in_ok-reason.field-0 c.in_ok-reason.ensures.fault c.in-Some-2.reason c.in-Some-2.is

pub returns-clause-found : goal.returns-clause-found
returns-clause-found g c =
    let j = c.args.judged.now in
    let s = j.setting.now in
    let places = c.args.places.now in
    let tree = places.tree.now in
    let rows = places.rows.items in
    let sets = places.sets.items in
    let at = c.args.at in
    let set = c.in-Some.set in
    let within : at < length sets = omega (arith, c.requires.at, c.requires.places.count) in
    let is = slice_get_read sets (length sets) at c.index.result.now refl within c.index.ensures ∙ ap Some c.in-Some.is in
    let stood = c.requires.places.sets at (Some set) is in
    let row = c.index-2.result.now in
    let here = slice_get_read rows (length rows) at row refl (omega (arith, c.requires.at)) c.index-2.ensures in
    let node_is = node_at tree at (seen row) stood.0 stood.1 (read_row tree rows at row c.requires.places.rows here) stood.2 in
    elim c.match-index-2.branch [
      | in-Misses w ↦
          here-Misses (world_of s) s.spec j.formula.now j.last tree sets at set is stood c.in_ok-reason.field-0 c.in_ok-reason.ensures.fault
          c.in_default-2.is row.node.now node_is c.match-index-2.first w.in-Misses.is w.first-is
      | in-Reaches w ↦
          here-Reaches (world_of s) s.spec j.formula.now j.last tree sets at set is stood c.in_ok-reason.field-0 c.in_ok-reason.ensures.fault
          c.in_default-2.is row.node.now node_is c.match-index-2.first w.in-Reaches.is w.first-is
      | in-Branch w ↦
          here-Branch (world_of s) s.spec j.formula.now j.last tree sets at set is stood c.in_ok-reason.field-0 c.in_ok-reason.ensures.fault
          c.in_default-2.is row.node.now node_is c.match-index-2.first _ _ _ w.in-Branch.is w.first-is
    ]
