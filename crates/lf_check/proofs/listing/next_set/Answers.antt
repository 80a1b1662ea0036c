use Rattle.std.proofs.Common.{length, refl, subst, ◌∙◌, ap, arith}
use Rattle.std.specs.Prelude.{slice_index_or, None, Some}
use Rattle.std.proofs.lemmas.Option.{slice_get-get_or, slice_get_read}
use Rattle.lf_check.specs.Rows.{IsSetAt}
use Rattle.lf_check.proofs.RowLemmas.{next_crowded, next_first, next_none, next_no_edge, next_set, none_is}
use Rattle.lf_check.proofs.listing.next_set.Goals as goal

pub returns-in_default : goal.returns-in_default
returns-in_default c =
    next_first c.args.tree.now c.args.rows.now (length c.args.sets.now) c.above.result c.requires.rows c.requires.more c.above.ensures.parent
    (none_is c.above.result c.in_default.not-Some) c.empty.result c.empty.ensures

pub returns-in_err-set : goal.returns-in_err-set
returns-in_err-set c =
    let sets = c.args.sets.now in
    let above = c.in-Some.above in
    let read = slice_get_read sets (length sets) above c.index-sets-above.result refl c.in-Some.ensures.before c.index-sets-above.is in
    next_none c.args.tree.now c.args.rows.now (length sets) c.above.result c.requires.rows c.requires.more c.above.ensures.parent above
    c.in-Some.is (subst (IsSetAt c.args.tree.now above) c.in_err-set.was (c.requires.sets above c.index-sets-above.result read))
    c.from_residual.result c.from_residual.ensures

pub returns-then-is_crowded : goal.returns-then-is_crowded
returns-then-is_crowded c =
    let rows = c.args.rows.now in
    let sets = c.args.sets.now in
    let at = length sets in
    let above = c.in-Some.above in
    let row = slice_index_or rows at c.index-rows-above.result in
    let branch = slice_index_or rows above c.index-rows-above.result in
    let here = slice_get-get_or rows at c.index-rows-above.result c.requires.more in
    let there = slice_get-get_or rows above c.index-rows-above.result (omega (arith, c.in-Some.ensures.before, c.requires.more)) in
    let read = slice_get_read sets (length sets) above c.index-sets-above.result refl c.in-Some.ensures.before c.index-sets-above.is in
    next_crowded c.args.tree.now rows at c.above.result c.requires.rows c.requires.more c.above.ensures.parent above c.in-Some.is row branch here
    there c.in_ok-set.set (c.requires.sets above (Some c.in_ok-set.set) (read ∙ ap Some c.in_ok-set.was))
    (c.is_crowded.ensures.0 c.if-is_crowded.true) None refl

pub returns-in_err-edge : goal.returns-in_err-edge
returns-in_err-edge c =
    let rows = c.args.rows.now in
    let at = length c.args.sets.now in
    let above = c.in-Some.above in
    let row = slice_index_or rows at c.index-rows-at.result in
    let branch = slice_index_or rows above c.index-rows-above.result in
    let here = slice_get-get_or rows at c.index-rows-at.result c.requires.more in
    let there = slice_get-get_or rows above c.index-rows-above.result (omega (arith, c.in-Some.ensures.before, c.requires.more)) in
    next_no_edge c.args.tree.now rows at c.above.result c.requires.rows c.requires.more c.above.ensures.parent above c.in-Some.is row branch here
    there c.in_err-edge.ensures c.from_residual-in_err-edge.result c.from_residual-in_err-edge.ensures

pub returns : goal.returns
returns c =
    let rows = c.args.rows.now in
    let sets = c.args.sets.now in
    let at = length sets in
    let above = c.in-Some.above in
    let row = slice_index_or rows at c.index-rows-at.result in
    let branch = slice_index_or rows above c.index-rows-above.result in
    let here = slice_get-get_or rows at c.index-rows-at.result c.requires.more in
    let there = slice_get-get_or rows above c.index-rows-above.result (omega (arith, c.in-Some.ensures.before, c.requires.more)) in
    let read = slice_get_read sets (length sets) above c.index-sets-above.result refl c.in-Some.ensures.before c.index-sets-above.is in
    next_set c.args.tree.now rows at c.above.result c.requires.rows c.requires.more c.above.ensures.parent above c.in-Some.is row branch here
    there c.in_ok-edge.edge c.in_ok-set.set c.insert.result c.in_ok-edge.ensures
    (c.requires.sets above (Some c.in_ok-set.set) (read ∙ ap Some c.in_ok-set.was)) c.insert.ensures.some c.insert.ensures.value
