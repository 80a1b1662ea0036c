use Rattle.std.proofs.Common.{refl, arith}
use Rattle.std.proofs.lemmas.Option.{slice_get_read}
use Rattle.std.proofs.Common.{length}
use Rattle.lf_check.proofs.ExcludedLemmas.{excludes_more}
use Rattle.lf_check.proofs.excluded.Excluded.go_to_kid.Goals as goal

pub returns-clause-here : goal.returns-clause-here
returns-clause-here c =
    let places = c.args.places.now in
    let rows = places.rows.items in
    let row = c.index.result.now in
    let there = slice_get_read rows (length rows) c.args.branch row refl (omega (arith, c.requires.branch)) c.index.ensures in
    excludes_more places.tree.now rows c.args.branch row c.requires.places.rows there c.in_ok-taken.taken c.args.kid c.in_ok-taken.ensures.up_to
    c.start.new.self.faults.items c.edges_between.result.now c.extend_from_slice.new.self.items c.in_ok-taken.ensures.here
    c.edges_between.ensures c.in_ok-extend_from_slice.ensures.items
