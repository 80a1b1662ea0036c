use Rattle.std.proofs.Common.{[]}
use Rattle.lf_grammar.specs.declared.sign.Sign.TheVariants as signs
use Rattle.lf_grammar.specs.Places.{context_of}
use Rattle.lf_texts.specs.Assignments.{first_set}
use Rattle.lf_texts.proofs.ListLemmas.{listed_count}
use Rattle.lf_texts.proofs.assignments.read_sets.Goals as goal

pub returns-clause-few : goal.returns-clause-few
returns-clause-few c = (listed_count (first_set (context_of c.args.place.now)) signs.Comma 16 [] c.args.tokens.now _ c.in_ok-sets.ensures).1
