use Rattle.std.proofs.Common.{◌≡◌, ◌-◌, [], ◌∷◌}
use Rattle.lf_grammar.specs.declared.sign.Sign.TheVariants as signs
use Rattle.lf_texts.specs.Lists.{listed}
use Rattle.lf_texts.specs.Variables.{first_free}
use Rattle.lf_texts.proofs.variables.listed_words.Given as goal

-- the words so far stand before those of the rest
abbrev pub invariant-loop : goal.invariant-loop
invariant-loop l =
    listed (first_free l.names) signs.Bar (16 - l.counter) l.words.items l.rest ≡ listed (first_free l.names) signs.Bar 15 (l.fn.first ∷ []) l.tokens
