use Rattle.std.proofs.Common.{◌≡◌, [], drop}
use Rattle.lf_rules.specs.Kinds.{sort_of}
use Rattle.lf_rules.specs.declared.sort.Within.TheVariants as withins
use Rattle.lf_grammar.specs.Places.{context_of}
use Rattle.lf_texts.specs.Lists.{bracketed}
use Rattle.lf_texts.specs.Values.{with_it, first_of_sort}
use Rattle.lf_texts.proofs.sends.read_fields.Given as goal

-- the values so far stand before those of the rest
abbrev pub invariant-loop-kind : goal.invariant-loop-kind
invariant-loop-kind l =
    bracketed (λ kind before. first_of_sort (with_it withins.Receiver (context_of l.place)) (sort_of kind)) (drop l.kind-index l.kinds) l.values.items l.rest
    ≡ bracketed (λ kind before. first_of_sort (with_it withins.Receiver (context_of l.place)) (sort_of kind)) l.kinds [] l.tokens
