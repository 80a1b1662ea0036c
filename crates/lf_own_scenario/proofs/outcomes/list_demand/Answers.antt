use Rattle.std.proofs.Common.{◌≡◌, [], ◌∙◌, sym, ap, subst}
use Rattle.lf_protocols.specs.declared.protocol.Kind.{Kind}
use Rattle.lf_outcome.specs.Formulas.{IsFormulaOf}
use Rattle.lf_own_scenario.specs.Machines.{kind_of}
use Rattle.lf_own_scenario.proofs.outcomes.list_demand.Goals as goal

pub returns-clause-fits : goal.returns-clause-fits
returns-clause-fits c =
    let none : c.from_vec-topics.result ≡ [] = c.from_vec-topics.ensures ∙ c.new.ensures.items in
    subst (λ (k : Kind). IsFormulaOf k c.args.described.now.bounds c.in_ok-formula.formula)
    (c.requires.protocol ∙ ap (kind_of c.args.file.now c.args.described.now.bounds.nodes c.args.given.now) (sym none)) c.in_ok-formula.ensures.fits
