use Rattle.std.proofs.Common.{◌≡◌, ◌-◌, []}
use Rattle.lf_grammar.specs.declared.sign.Sign.TheVariants as signs
use Rattle.lf_grammar.specs.Places.{context_of}
use Rattle.lf_texts.specs.Assignments.{first_set}
use Rattle.lf_texts.specs.Lists.{listed}
use Rattle.lf_texts.proofs.assignments.listed_sets.Given as goal

-- the assignments so far stand before those of the rest
abbrev pub invariant-loop : goal.invariant-loop
invariant-loop l =
    listed (first_set (context_of l.place)) signs.Comma (16 - l.counter) l.sets.items l.rest
    ≡ listed (first_set (context_of l.place)) signs.Comma 16 [] l.tokens
