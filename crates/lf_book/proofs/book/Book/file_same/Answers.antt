use Rattle.std.proofs.Common.{refl, sym, subst, true}
use Rattle.std.specs.Arc.{arc_value}
use Rattle.std.specs.Prelude.{◌↔◌, IsTrue}
use Rattle.lf_outcome.specs.Sameness.{AreSame}
use Rattle.lf_work.specs.declared.job.Job.{Job}
use Rattle.lf_book.specs.Books.{scenario_of, IsRefusedFor, task_of_job}
use Rattle.lf_book.proofs.book.Book.file_same.Goals as goal

pub refusal-requires : goal.refusal-requires
refusal-requires c =
    let known : IsTrue true ↔ AreSame (scenario_of c.args.self.now) (arc_value c.args.finding.job.scenario) = (λ t. c.requires, λ same. refl) in
    subst (λ (j : Job). IsTrue true ↔ AreSame (scenario_of c.args.self.now) (arc_value j.scenario)) (sym c.job.ensures) known

pub returns-in-Some-clause-refused : goal.returns-in-Some-clause-refused
returns-in-Some-clause-refused c =
    subst (λ (j : Job). IsRefusedFor c.args.self.now j.ticket (arc_value j.scenario) j.path.items (task_of_job j) c.in-Some.refusal) c.job.ensures
    c.in-Some.ensures
