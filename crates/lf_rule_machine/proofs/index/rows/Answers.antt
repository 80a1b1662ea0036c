use Rattle.std.proofs.Common.{◌++◌, ◌∷◌, [], ap, ◌∙◌, sym, map, arith}
use Rattle.std.specs.List.{range_with_len}
use Rattle.std.proofs.lemmas.List.{map-append}
use Rattle.std.proofs.lemmas.List.FromFn.{map-range_with_len_more}
use Rattle.lf_rule_machine.specs.Indexes.{row_at}
use Rattle.lf_rule_machine.proofs.index.rows.Goals as goal

pub loop-place-preserved : goal.loop-place-preserved
loop-place-preserved c =
    let f = row_at c.args.definition.now c.args.nodes c.args.given.now in
    ap (map (λ row. row.items)) c.in_ok-push.ensures.items
    ∙ map-append (λ row. row.items) c.loop-place.rows.items (c.in_ok-row.row ∷ [])
    ∙ ap (λ rows. rows ++ c.in_ok-row.row.items ∷ []) c.loop-place.invariant
    ∙ ap (λ row. map f (range_with_len 0 c.loop-place.place) ++ row ∷ []) c.in_ok-row.ensures
    ∙ sym (map-range_with_len_more f 0 c.loop-place.place c.loop-place.place (omega arith))
