use Rattle.std.proofs.Common.{◌≡◌, ◌-◌, []}
use Rattle.lf_grammar.specs.declared.sign.Sign.TheVariants as signs
use Rattle.lf_texts.specs.Forms.{first_field}
use Rattle.lf_texts.specs.Lists.{listed}
use Rattle.lf_texts.proofs.forms.read_fields.Given as goal

-- the fields so far stand before those of the rest
abbrev pub invariant-loop : goal.invariant-loop
invariant-loop l =
    listed (first_field l.variables) signs.Comma (7 - l.counter) l.fields.items l.rest ≡ listed (first_field l.variables) signs.Comma 7 [] l.tokens
