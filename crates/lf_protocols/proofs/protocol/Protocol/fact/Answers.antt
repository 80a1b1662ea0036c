use Rattle.std.proofs.Common.{◌≡◌, ap, sym, ◌∙◌, subst}
use Rattle.std.specs.Prelude.{◌≢◌, Option, All, Contains, IfNone, IfSome}
use Rattle.lf_naming.proofs.Laws.{found_named, none_named}
use Rattle.lf_protocols.specs.declared.fact.Fact.{Fact}
use Rattle.lf_protocols.specs.Words.{facts_of, fact_name, fact_named}
use Rattle.lf_protocols.proofs.protocol.Protocol.fact.Goals as goal

pub returns-clause-some : goal.returns-clause-some
returns-clause-some c =
    let k = c.args.self.now in
    let word = c.args.word.now in
    let P : Option Fact → Type 0 = λ o. IfSome o (λ fact. Contains (facts_of k) fact × (fact_name k fact ≡ word)) in
    subst P (sym (c.fact_of.ensures ∙ ap (λ kind. fact_named kind word) c.kind.ensures.value)) (found_named (fact_name k) word (facts_of k))

pub returns-clause-none : goal.returns-clause-none
returns-clause-none c =
    let k = c.args.self.now in
    let word = c.args.word.now in
    let P : Option Fact → Type 0 = λ o. IfNone o (All (λ fact. fact_name k fact ≢ word) (facts_of k)) in
    subst P (sym (c.fact_of.ensures ∙ ap (λ kind. fact_named kind word) c.kind.ensures.value)) (none_named (fact_name k) word (facts_of k))
