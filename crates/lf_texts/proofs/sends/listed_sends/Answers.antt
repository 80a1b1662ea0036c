use Rattle.std.proofs.Common.{rules, ◌≡◌, ◌≢◌, ◌∙◌, [], ◌∷◌, ◌++◌, Err, sym}
use Rattle.lf_grammar.specs.declared.sign.Sign.TheVariants as signs
use Rattle.lf_grammar.specs.Places.{context_of}
use Rattle.lf_texts.specs.Sends.{first_send}
use Rattle.lf_texts.specs.declared.error.TextError.TheVariants as faults
use Rattle.lf_texts.specs.Lists.{listed}
use Rattle.lf_texts.proofs.ListLemmas.{listed_more, listed_wrong}
use Rattle.lf_texts.proofs.sends.listed_sends.Goals as goal

pub returns-in_err-send : goal.returns-in_err-send
returns-in_err-send c =
    let wrong : c.in_err-send.field-0.0 ≢ faults.Memory → listed (λ before. first_send (context_of c.args.place.now)) signs.Comma 8 [] c.args.tokens.now ≡ Err
    c.in_err-send.field-0.0 =
    λ h. sym c.loop.invariant ∙ listed_wrong (λ before. first_send (context_of c.args.place.now)) signs.Comma 8 c.loop.counter c.loop.sends.items
    c.loop.rest.now c.in_err-send.field-0.0
    c.loop-test.true (search rules) in
    search rules

pub loop-preserved : goal.loop-preserved
loop-preserved c =
    let pushed : c.put.new.items.items ≡ c.loop.sends.items ++ c.in_ok-send.send ∷ [] = search rules in
    rw pushed
    (sym (listed_more (λ before. first_send (context_of c.args.place.now)) signs.Comma 8 c.loop.counter c.loop.sends.items c.loop.rest.now c.in_ok-send.send
    c.in_ok-send.after.now c.in-Some.next.now c.loop-test.true (search rules) (search rules)) ∙ c.loop.invariant)
