use Rattle.std.proofs.Common.{◌≡◌, ◌-◌, []}
use Rattle.lf_grammar.specs.declared.sign.Sign.TheVariants as signs
use Rattle.lf_grammar.specs.Places.{context_of}
use Rattle.lf_texts.specs.Lists.{listed}
use Rattle.lf_texts.specs.Sends.{first_send}
use Rattle.lf_texts.proofs.sends.listed_sends.Given as goal

-- the notes so far stand before those of the rest
abbrev pub invariant-loop : goal.invariant-loop
invariant-loop l =
    listed (λ before. first_send (context_of l.place)) signs.Comma (8 - l.counter) l.sends.items l.rest
    ≡ listed (λ before. first_send (context_of l.place)) signs.Comma 8 [] l.tokens
