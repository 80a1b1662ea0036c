use Rattle.std.proofs.Common.{sym, subst}
use Rattle.std.specs.Arc.{arc_value}
use Rattle.lf_outcome.specs.Sameness.{AreSame}
use Rattle.lf_work.specs.declared.job.Job.{Job}
use Rattle.lf_book.specs.Books.{scenario_of, IsGivenFor, IsRefusedFor, task_of_job}
use Rattle.lf_book.proofs.book.Book.file_given.Goals as goal

pub refusal_given-requires-clause-same : goal.refusal_given-requires-clause-same
refusal_given-requires-clause-same c =
    subst (λ (j : Job). AreSame (scenario_of c.args.self.now) (arc_value j.scenario)) (sym c.job.ensures) c.requires.same

pub refusal_given-requires-clause-given : goal.refusal_given-requires-clause-given
refusal_given-requires-clause-given c =
    subst (λ (j : Job). IsGivenFor (arc_value j.scenario) j.path.items (task_of_job j)) (sym c.job.ensures) c.requires.given

pub returns-in-Some-clause-refused : goal.returns-in-Some-clause-refused
returns-in-Some-clause-refused c =
    subst (λ (j : Job). IsRefusedFor c.args.self.now j.ticket (arc_value j.scenario) j.path.items (task_of_job j) c.in-Some.refusal) c.job.ensures
    c.in-Some.ensures
