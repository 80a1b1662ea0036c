use Rattle.std.proofs.Common.{◌∷◌, [], arith}
use Rattle.lf_grammar.specs.declared.sign.Sign.TheVariants as signs
use Rattle.lf_texts.specs.Variables.{first_free}
use Rattle.lf_texts.proofs.ListLemmas.{listed_count}
use Rattle.lf_texts.proofs.variables.read_words.Goals as goal

pub returns-clause-words : goal.returns-clause-words
returns-clause-words c =
    let count = listed_count (first_free c.args.names.now) signs.Bar 15 (c.in_ok-first.first ∷ []) c.in_ok-next.next.now _ c.in_ok-words.ensures in
    rw c.from_vec.ensures (omega arith, omega arith)
