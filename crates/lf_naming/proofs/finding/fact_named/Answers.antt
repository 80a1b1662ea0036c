use Rattle.std.proofs.Common.{sym, subst}
use Rattle.std.specs.Prelude.{◌≡◌, ◌≢◌, Option, All, Contains, IfNone, IfSome}
use Rattle.lf_rule_machine.specs.declared.fact.Fact.{Fact}
use Rattle.lf_naming.specs.Names.{fact_name}
use Rattle.lf_naming.specs.Facts.{facts_of}
use Rattle.lf_naming.proofs.Laws.{found_named, none_named}
use Rattle.lf_naming.proofs.finding.fact_named.Goals as goal

pub returns-clause-some : goal.returns-clause-some
returns-clause-some c =
    let d = c.args.definition.now in
    let word = c.args.word.now in
    let P : Option Fact → Type 0 = λ o. IfSome o (λ fact. Contains (facts_of d) fact × (fact_name d fact ≡ word)) in
    subst P (sym c.first_named.ensures) (found_named (fact_name d) word (facts_of d))

pub returns-clause-none : goal.returns-clause-none
returns-clause-none c =
    let d = c.args.definition.now in
    let word = c.args.word.now in
    let P : Option Fact → Type 0 = λ o. IfNone o (All (λ fact. fact_name d fact ≢ word) (facts_of d)) in
    subst P (sym c.first_named.ensures) (none_named (fact_name d) word (facts_of d))
