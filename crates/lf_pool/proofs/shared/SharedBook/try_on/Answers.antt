use Rattle.lf_pool.proofs.ScenarioLemmas.{none-taken}
use Rattle.lf_pool.proofs.shared.SharedBook.try_on.Goals as goal

pub returns-in_default-clause-same : goal.returns-in_default-clause-same
returns-in_default-clause-same g c = none-taken g.L.Searched.scenario c.args.findings.now.items c.args.jobs.now.items c.requires.findings c.requires.none
