use Rattle.std.proofs.Common.{◌≡◌, ℕ, ◌+◌, ◌<◌, List, ◌++◌, ap, subst, ◌∙◌, get_or, length, map, take, string_bytes}
use Rattle.std.specs.List.{join_with_byte}
use Rattle.lf_naming.specs.Pieces.{before_piece}
use Rattle.lf_naming.specs.Texts.{shown_text}
use Rattle.lf_naming.proofs.PiecesLemmas.{piece_told, pieces_more}
use Rattle.lf_naming.proofs.state.push_state.Goals as goal

pub shown-preserved : goal.shown-preserved
shown-preserved c =
    let d = c.args.definition.now in
    let f = shown_text d c.args.nodes c.args.state.now in
    let place = c.shown.place in
    let whole : c.as_slice-variable-items.result.now ≡ d.trace = c.as_slice-variable-items.ensures in
    piece_told (string_bytes c.args.text.now) (string_bytes c.shown.text) (string_bytes c.push_separator.new.text) (string_bytes c.push_shown.new.text)
    (join_with_byte 32 (map f (take place d.trace))) (before_piece 32 place) (f (get_or d.trace place 0)) (join_with_byte 32 (map f (take (place + 1) d.trace)))
    c.shown.invariant c.in_ok-push_separator.ensures
    (c.in_ok-push_shown.ensures ∙ ap (λ shown. string_bytes c.push_separator.new.text ++ f (get_or shown place 0)) whole)
    (pieces_more 32 f d.trace place 0 (let P : List ℕ → Type 0 = λ shown. place < length shown in subst P whole c.shown-test.true))
