use Rattle.std.proofs.Common.{◌∷◌, refl, sym, ap, ◌∙◌}
use Rattle.std.proofs.lemmas.List.Sums.{prefix_len-le-length}
use Rattle.lf_grammar.specs.declared.bytes.Class.TheVariants as classes
use Rattle.lf_grammar.specs.Bytes.{has}
use Rattle.lf_grammar.specs.Tokens.{Word, Nothing, pieces}
use Rattle.lf_grammar.proofs.PiecesLemmas.{next-word, first-low, all-low}
use Rattle.lf_grammar.proofs.tokenizing.next_word.Goals as goal

pub split_at-requires : goal.split_at-requires
split_at-requires c = rw c.leading.ensures (prefix_len-le-length (has classes.OfWord) c.args.behind.now)

pub word-requires-clause-first : goal.word-requires-clause-first
word-requires-clause-first c = first-low c.args.first c.requires.letter

pub word-requires-clause-more : goal.word-requires-clause-more
word-requires-clause-more c = rw c.split_at.ensures.front (all-low c.args.behind.now c.leading.result c.leading.ensures)

pub returns-clause-next : goal.returns-clause-next
returns-clause-next c =
    let more = c.split_at.result.0.now in
    let after = c.split_at.result.1.now in
    let next = next-word c.args.first c.leading.result c.args.behind.now more after c.requires.blank c.requires.digit c.requires.letter
    c.leading.ensures c.split_at.ensures.front c.split_at.ensures.back in
    (next ∙ ap (λ word. Word word ∷ pieces Nothing after) (sym c.in_ok-word.ensures), refl)
