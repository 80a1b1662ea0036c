use Rattle.std.proofs.Common.{[]}
use Rattle.lf_grammar.specs.declared.sign.Sign.TheVariants as signs
use Rattle.lf_grammar.specs.Places.{context_of}
use Rattle.lf_texts.specs.Sends.{first_send}
use Rattle.lf_texts.proofs.ListLemmas.{listed_count}
use Rattle.lf_texts.proofs.sends.read_sends.Goals as goal

pub returns-clause-few : goal.returns-clause-few
returns-clause-few c = (listed_count (λ before. first_send (context_of c.args.place.now)) signs.Comma 8 [] c.args.tokens.now _ c.in_ok-sends.ensures).1
