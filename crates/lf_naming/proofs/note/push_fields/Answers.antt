use Rattle.std.proofs.Common.{◌+◌, ◌++◌, ap, ◌∙◌, get_or, map, take, string_bytes}
use Rattle.std.specs.List.{enumerate_from, join_with_byte}
use Rattle.lf_rules.specs.declared.kind.Kind.TheVariants as kinds
use Rattle.lf_naming.specs.Pieces.{before_piece}
use Rattle.lf_naming.specs.Texts.{field_text, value_text}
use Rattle.lf_naming.proofs.PiecesLemmas.{fields_more, fields_whole, piece_told}
use Rattle.lf_naming.proofs.note.push_fields.Goals as goal

pub fields-preserved : goal.fields-preserved
fields-preserved c =
    let f = field_text c.args.definition.now c.args.note.now in
    let numbered = enumerate_from 0 c.args.kinds.now in
    let place = c.fields.place in
    let kind = get_or c.args.kinds.now place kinds.Flag in
    piece_told (string_bytes c.args.text.now) (string_bytes c.fields.text) (string_bytes c.push_separator.new.text) (string_bytes c.push_value.new.text)
    (join_with_byte 44 (map f (take place numbered))) (before_piece 44 place) (f (place, kind)) (join_with_byte 44 (map f (take (place + 1) numbered)))
    c.fields.invariant c.in_ok-push_separator.ensures
    (c.in_ok-push_value.ensures ∙ ap (λ v. string_bytes c.push_separator.new.text ++ value_text c.args.definition.now kind v) c.field.ensures)
    (fields_more 44 f c.args.kinds.now place kinds.Flag c.fields-test.true)

pub returns : goal.returns
returns c =
    let f = field_text c.args.definition.now c.args.note.now in
    c.fields.invariant ∙ ap (λ fields. string_bytes c.args.text.now ++ join_with_byte 44 (map f fields))
    (fields_whole c.args.kinds.now c.fields.place c.fields-test.false)
