use Rattle.std.proofs.Common.{rules, ◌≡◌, ◌≢◌, ◌∙◌, [], Err, sym}
use Rattle.lf_grammar.specs.declared.sign.Sign.TheVariants as signs
use Rattle.lf_texts.specs.Forms.{first_field}
use Rattle.lf_texts.specs.declared.error.TextError.TheVariants as faults
use Rattle.lf_texts.specs.Lists.{listed}
use Rattle.lf_texts.proofs.ListLemmas.{listed_wrong}
use Rattle.lf_texts.proofs.forms.read_fields.Goals as goal

pub returns-in_err-field : goal.returns-in_err-field
returns-in_err-field c =
    let wrong : c.in_err-field.field-0.0 ≢ faults.Memory → listed (first_field c.args.variables.now) signs.Comma 7 [] c.args.tokens.now ≡ Err
    c.in_err-field.field-0.0 =
    λ h. sym c.loop.invariant ∙ listed_wrong (first_field c.args.variables.now) signs.Comma 7 c.loop.counter c.loop.fields.items c.loop.rest.now
    c.in_err-field.field-0.0
    c.loop-test.true (search rules) in
    search rules
