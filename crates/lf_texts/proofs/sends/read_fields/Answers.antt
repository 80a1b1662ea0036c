use Rattle.std.proofs.Common.{rules, ◌≡◌, ◌∙◌, [], Err, sym, arith}
use Rattle.lf_rules.specs.Kinds.{sort_of}
use Rattle.lf_rules.specs.declared.kind.Kind.TheVariants as kinds
use Rattle.lf_rules.specs.declared.sort.Within.TheVariants as withins
use Rattle.lf_grammar.specs.Places.{context_of}
use Rattle.lf_texts.specs.Lists.{bracketed}
use Rattle.lf_texts.specs.Values.{with_it, first_of_sort}
use Rattle.lf_texts.proofs.ListLemmas.{bracketed_shut}
use Rattle.lf_texts.proofs.sends.read_fields.Goals as goal

pub returns-in_err-inner : goal.returns-in_err-inner
returns-in_err-inner c =
    let at = with_it withins.Receiver (context_of c.args.place.now) in
    let shut : bracketed (λ kind before. first_of_sort at (sort_of kind)) c.args.kinds.now [] c.args.tokens.now ≡ Err c.in_err-inner.field-0.0 =
    sym c.loop-kind.invariant
    ∙ bracketed_shut (λ kind before. first_of_sort at (sort_of kind)) kinds.Flag c.args.kinds.now c.loop-kind.kind-index c.loop-kind.values.items
    c.loop-kind.rest.now c.in_err-inner.field-0.0 (omega arith) (search rules) in
    search rules
