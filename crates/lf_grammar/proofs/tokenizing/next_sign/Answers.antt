use Rattle.std.proofs.Common.{◌∷◌, refl, sym, ap, ◌∙◌}
use Rattle.lf_grammar.specs.Tokens.{Nothing, pieces}
use Rattle.lf_grammar.proofs.PiecesLemmas.{next-pair}
use Rattle.lf_grammar.proofs.tokenizing.next_sign.Goals as goal

pub returns-in-Some-pair-clause-next : goal.returns-in-Some-pair-clause-next
returns-in-Some-pair-clause-next c =
    let first = c.args.first in
    let second = c.in-Some.second.now in
    let after = c.in-Some.after.now in (
      ap (λ bytes. pieces Nothing (first ∷ bytes)) c.in-Some.ensures.cases.0
          ∙ next-pair first second after c.in-Some-pair.sign c.requires.blank c.requires.digit c.requires.letter (sym c.pair.ensures ∙ c.in-Some-pair.is),
      refl,
    )
