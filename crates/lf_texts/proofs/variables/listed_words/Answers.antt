use Rattle.std.proofs.Common.{rules, ◌≡◌, ◌≢◌, ◌∙◌, [], ◌∷◌, Err, sym}
use Rattle.lf_grammar.specs.declared.sign.Sign.TheVariants as signs
use Rattle.lf_texts.specs.Variables.{first_free}
use Rattle.lf_texts.specs.declared.error.TextError.TheVariants as faults
use Rattle.lf_texts.specs.Lists.{listed}
use Rattle.lf_texts.proofs.ListLemmas.{listed_wrong}
use Rattle.lf_texts.proofs.variables.listed_words.Goals as goal

pub returns-in_err-word : goal.returns-in_err-word
returns-in_err-word c =
    let wrong : c.in_err-word.field-0.0 ≢ faults.Memory → listed (first_free c.args.names.now) signs.Bar 15 (c.args.first ∷ []) c.args.tokens.now ≡ Err
    c.in_err-word.field-0.0 =
    λ h. sym c.loop.invariant ∙ listed_wrong (first_free c.args.names.now) signs.Bar 16 c.loop.counter c.loop.words.items c.loop.rest.now
    c.in_err-word.field-0.0
    c.loop-test.true (search rules) in
    search rules
