use Rattle.std.proofs.Common.{◌-◌, ◌∷◌, Err, sym, ap, ◌∙◌}
use Rattle.std.proofs.lemmas.List.Sums.{prefix_len-le-length}
use Rattle.lf_grammar.specs.declared.bytes.Class.TheVariants as classes
use Rattle.lf_grammar.specs.Bytes.{has}
use Rattle.lf_grammar.specs.Tokens.{Number, Nothing, pieces, value_behind}
use Rattle.lf_grammar.proofs.PiecesLemmas.{next-number, small, large}
use Rattle.lf_grammar.proofs.tokenizing.next_number.Goals as goal

pub split_at-requires : goal.split_at-requires
split_at-requires c = rw c.leading.ensures (prefix_len-le-length (has classes.Digit) c.args.behind.now)

pub returns-in-Ok-clause-next : goal.returns-in-Ok-clause-next
returns-in-Ok-clause-next c =
    let more = c.split_at.result.0.now in
    let after = c.split_at.result.1.now in
    let next = next-number c.args.first c.leading.result c.args.behind.now more after c.requires.blank c.requires.digit c.leading.ensures
    c.split_at.ensures.front c.split_at.ensures.back in
    (next ∙ ap (λ n. Number n ∷ pieces Nothing after) (sym c.in-Ok.ensures.1), small c.in-Ok.number c.in-Ok.ensures.0)

pub returns-in-Err-clause-next : goal.returns-in-Err-clause-next
returns-in-Err-clause-next c =
    let more = c.split_at.result.0.now in
    let after = c.split_at.result.1.now in
    let next = next-number c.args.first c.leading.result c.args.behind.now more after c.requires.blank c.requires.digit c.leading.ensures
    c.split_at.ensures.front c.split_at.ensures.back in
    let value = value_behind (c.args.first - 48) more in
    (Number value, pieces Nothing after, next, large value c.in-Err.ensures.1 ∙ ap Err (sym c.in-Err.ensures.0))
