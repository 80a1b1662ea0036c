use Rattle.std.proofs.Common.{sym, subst, ◌∙◌, arith, List}
use Rattle.std.proofs.lemmas.List.Elements.{All-push}
use Rattle.lf_outcome.specs.declared.scenario.Scenario.{Scenario}
use Rattle.lf_book.specs.Books.{scenario_of, task_of_job, IsGivenFor}
use Rattle.lf_pool.specs.Holds.{AreJobsOf, AreTaken, IsJobOf, IsLeftIn}
use Rattle.lf_pool.specs.declared.locked.hand.Claim.{Claim}
use Rattle.lf_pool.proofs.HoldLemmas.{taken-more}
use Rattle.lf_pool.proofs.ScenarioLemmas.{off-end}
use Rattle.lf_pool.proofs.locked.Locked.take_some.Goals as goal

pub jobs-preserved : goal.jobs-preserved
jobs-preserved g c =
    let so = c.jobs.invariant in
    let took = c.in-Some.ensures in
    let put = c.push_reserved.ensures in
    record {
      taken = subst (λ (l : List Claim). AreTaken l c.args.self.now.book c.take_job.new.self.book) (sym put.items)
          (taken-more c.jobs.jobs.items c.in-Some.job c.args.self.now.book c.jobs.self.book c.take_job.new.self.book so.taken took.taken.0);
      same = subst (AreJobsOf (scenario_of c.args.self.now.book)) (sym put.items)
          (All-push (IsJobOf (scenario_of c.args.self.now.book)) c.jobs.jobs.items c.in-Some.job so.same (
            took.taken.0.0 ∙ so.scenario,
            subst (λ (s : Scenario). IsGivenFor s c.in-Some.job.job.path.items (task_of_job c.in-Some.job.job)) so.scenario took.given,
          ));
      left = (off-end (IsLeftIn g.L.Searched.scenario) c.jobs.spent.items c.pop.new.self.items c.pop.result c.pop.ensures.items so.left).0;
      few = omega (arith, so.few, put.len);
      held = omega (arith, so.held, took.taken.1);
      room = put.capacity ∙ so.room;
      scenario = took.scenario ∙ so.scenario;
      total = took.total ∙ so.total;
    }

pub take_job-requires-clause-left : goal.take_job-requires-clause-left
take_job-requires-clause-left g c =
    (off-end (IsLeftIn g.L.Searched.scenario) c.jobs.spent.items c.pop.new.self.items c.pop.result c.pop.ensures.items c.jobs.invariant.left).1

pub returns-in_default-clause-left : goal.returns-in_default-clause-left
returns-in_default-clause-left g c =
    (off-end (IsLeftIn g.L.Searched.scenario) c.jobs.spent.items c.pop.new.self.items c.pop.result c.pop.ensures.items c.jobs.invariant.left).0
