use Rattle.lf_pool.proofs.ScenarioLemmas.{none-found}
use Rattle.lf_pool.proofs.shared.SharedBook.end_all.Goals as goal

pub end_some-more-requires-clause-findings : goal.end_some-more-requires-clause-findings
end_some-more-requires-clause-findings g c = none-found g.L.Searched.scenario c.args.findings.now.items c.end_some-filed.new.findings.items c.requires.findings
    c.end_some-filed.ensures.none.1
