use Rattle.std.proofs.Common.{sym, ◌∙◌, subst}
use Rattle.std.specs.Prelude.{IfOk}
use Rattle.std.specs.Arc.{arc_value}
use Rattle.lf_book.specs.Books.{scenario_of}
use Rattle.lf_outcome.specs.declared.scenario.Scenario.{Scenario}
use Rattle.lf_pool.specs.Solved.{IsEnded}
use Rattle.lf_pool.proofs.ScenarioLemmas.{some-one}
use Rattle.lf_pool.proofs.SolvedLemmas.{same-itself, end-refused}
use Rattle.lf_pool.proofs.solving.search_in.Goals as goal

pub returns-clause-ended : goal.returns-clause-ended
returns-clause-ended g c =
    let s = arc_value c.args.scenario in
    let own = some-one (scenario_of c.gather-book.result.0) s (sym c.gather-book.ensures.scenario ∙ c.requires.scenario) in
    subst (λ (r : Scenario). IfOk c.finish.result (IsEnded r)) own c.finish.ensures.ended

pub returns-clause-refused : goal.returns-clause-refused
returns-clause-refused g c =
    let s = arc_value c.args.scenario in
    let own = some-one (scenario_of c.gather-book.result.0) s (sym c.gather-book.ensures.scenario ∙ c.requires.scenario) in
    end-refused s (scenario_of c.gather-book.result.0) c.args.workers (rw own (same-itself s)) (c.are_workers.ensures.0 c.if-not-are_workers.false)
    c.finish.result c.finish.ensures.left
