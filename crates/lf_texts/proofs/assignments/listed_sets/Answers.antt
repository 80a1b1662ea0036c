use Rattle.std.proofs.Common.{rules, ◌≡◌, ◌≢◌, ◌∙◌, [], Err, sym}
use Rattle.lf_grammar.specs.declared.sign.Sign.TheVariants as signs
use Rattle.lf_grammar.specs.Places.{context_of}
use Rattle.lf_texts.specs.Assignments.{first_set}
use Rattle.lf_texts.specs.declared.error.TextError.TheVariants as faults
use Rattle.lf_texts.specs.Lists.{listed}
use Rattle.lf_texts.proofs.ListLemmas.{listed_wrong}
use Rattle.lf_texts.proofs.assignments.listed_sets.Goals as goal

pub returns-in_err-set : goal.returns-in_err-set
returns-in_err-set c =
    let wrong : c.in_err-set.field-0.0 ≢ faults.Memory → listed (first_set (context_of c.args.place.now)) signs.Comma 16 [] c.args.tokens.now ≡ Err
    c.in_err-set.field-0.0 =
    λ h. sym c.loop.invariant ∙ listed_wrong (first_set (context_of c.args.place.now)) signs.Comma 16 c.loop.counter c.loop.sets.items c.loop.rest.now
    c.in_err-set.field-0.0
    c.loop-test.true (search rules) in
    search rules
