use Rattle.std.proofs.Common.{ap, sym, ◌∙◌}
use Rattle.std.specs.Str.{bytes_eq}
use Rattle.lf_naming.specs.Facts as named
use Rattle.lf_protocols.specs.declared.fact.Fact.TheVariants as facts
use Rattle.lf_protocols.specs.declared.protocol.Kind.TheVariants as kinds
use Rattle.lf_protocols.specs.Words.{fact_name, fact_named}
use Rattle.lf_protocols.proofs.WordsLemmas.{find-made}
use Rattle.lf_protocols.proofs.words.fact_of.Goals as goal

pub returns-in-Ruled : goal.returns-in-Ruled
returns-in-Ruled c =
    let m = c.in-Ruled.ruled in
    c.ruled_fact.ensures ∙ sym (find-made facts.Ruled (λ f. bytes_eq c.args.word.now (fact_name (kinds.Ruled m) f)) (named.facts_of m.definition))
    ∙ ap (λ kind. fact_named kind c.args.word.now) (sym c.in-Ruled.is)
