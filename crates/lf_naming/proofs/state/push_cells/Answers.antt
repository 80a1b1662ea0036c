use Rattle.std.proofs.Common.{◌+◌, ◌++◌, ap, ◌∙◌, map, string_bytes}
use Rattle.std.specs.List.{join_with_byte, range_with_len}
use Rattle.lf_naming.specs.Pieces.{before_piece}
use Rattle.lf_naming.specs.Texts.{cell_text, value_text}
use Rattle.lf_naming.proofs.PiecesLemmas.{numbers_more, piece_told}
use Rattle.lf_naming.proofs.state.push_cells.Goals as goal

pub cells-preserved : goal.cells-preserved
cells-preserved c =
    let d = c.args.definition.now in
    let x = c.args.found.now in
    let f = cell_text d c.args.state.now c.args.variable x in
    let k = c.cells.k in
    piece_told (string_bytes c.args.text.now) (string_bytes c.cells.text) (string_bytes c.push_separator.new.text) (string_bytes c.push_value.new.text)
    (join_with_byte 44 (map f (range_with_len 0 k))) (before_piece 44 k) (f k) (join_with_byte 44 (map f (range_with_len 0 (k + 1))))
    c.cells.invariant (c.in_ok-push_separator.ensures ∙ ap (λ n. string_bytes c.cells.text ++ before_piece 44 n) c.from.ensures)
    (c.in_ok-push_value.ensures ∙ ap (λ v. string_bytes c.push_separator.new.text ++ value_text d x.kind v) c.cell_value-value.ensures)
    (numbers_more 44 f k)
