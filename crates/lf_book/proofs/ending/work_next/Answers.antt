use Rattle.std.proofs.Common.{◌≡◌, sym, ◌∙◌, subst}
use Rattle.std.specs.Arc.{arc_value}
use Rattle.lf_book.proofs.BookLemmas.{claimed_for, same_as}
use Rattle.lf_book.proofs.KeepLemmas.{filed_keeps, keeps_on, taken_keeps}
use Rattle.lf_book.proofs.TurnLemmas.{goes_on, not_claimed, not_open, turned}
use Rattle.lf_book.specs.Turns.{IsUnderway}
use Rattle.lf_book.specs.declared.book.Book.{Book}
use Rattle.lf_book.specs.Books.{scenario_of, state_of, task_of_job, task_of_finding}
use Rattle.lf_marks.specs.Answers.{mark_for}
use Rattle.lf_work.specs.Scratches.{IsScratchFor}
use Rattle.lf_book.proofs.ending.work_next.Goals as goal

pub returns-in-Spent-clause-underway : goal.returns-in-Spent-clause-underway
returns-in-Spent-clause-underway c =
    let same : c.take_with.new.self ≡ c.args.book.now = rw c.in-Spent.is at c.in_ok-job.ensures.unchanged in
    subst (λ (b : Book). IsUnderway (state_of b)) (sym same)

pub returns-in-Spent-clause-scratch : goal.returns-in-Spent-clause-scratch
returns-in-Spent-clause-scratch c =
    subst (λ s. IsScratchFor s c.take_spent.new.self) (sym c.in_ok-job.ensures.scenario)
    (c.take_spent.ensures.scratch (scenario_of c.args.book.now) c.requires.scratch)

-- the scratch is of the book's scenario, which is the job's
pub work_on-requires : goal.work_on-requires
work_on-requires c =
    let took = rw c.in-Job.is at c.in_ok-job.ensures.taken in
    subst (λ s. IsScratchFor s c.take_spent.new.self) (sym took.0) (c.take_spent.ensures.scratch (scenario_of c.args.book.now) c.requires.scratch)

-- the finding is of the set that was taken
pub file_claimed-requires : goal.file_claimed-requires
file_claimed-requires c =
    let took = rw c.in-Job.is at c.in_ok-job.ensures.taken in
    let job = c.in-Job.job in
    let finding = c.in_ok-finding.finding in
    let of = c.in_ok-finding.ensures.finding in
    let mid = c.take_with.new.self in
    let same : scenario_of mid ≡ arc_value finding.job.scenario = c.in_ok-job.ensures.scenario ∙ sym took.0 ∙ sym of.scenario in
    record {
      same = same_as (scenario_of mid) (arc_value finding.job.scenario) same;
      claims = claimed_for (state_of c.args.book.now) (state_of mid) job finding of took.1;
    }

pub returns-clause-turn : goal.returns-clause-turn
returns-clause-turn c =
    let took = rw c.in-Job.is at c.in_ok-job.ensures.taken in
    let job = c.in-Job.job in
    let finding = c.in_ok-finding.finding in
    let of = c.in_ok-finding.ensures.finding in
    let filed = rw (of.path, of.ticket) at c.file_claimed.ensures.filed in
    turned (state_of c.args.book.now) (state_of c.take_with.new.self) (state_of c.file_claimed.new.self) job.path.items job.ticket (task_of_job job)
    (task_of_finding finding) (mark_for finding.answer) took.1 filed (not_open finding.answer) (not_claimed finding.answer) c.requires.free

pub returns-clause-underway : goal.returns-clause-underway
returns-clause-underway c =
    let took = rw c.in-Job.is at c.in_ok-job.ensures.taken in
    let job = c.in-Job.job in
    let finding = c.in_ok-finding.finding in
    let of = c.in_ok-finding.ensures.finding in
    let filed = rw (of.path, of.ticket) at c.file_claimed.ensures.filed in
    goes_on (state_of c.args.book.now) (state_of c.take_with.new.self) (state_of c.file_claimed.new.self) job.path.items job.ticket (task_of_job job)
    (task_of_finding finding) (mark_for finding.answer) took.1 filed (not_open finding.answer) (not_claimed finding.answer)

pub returns-clause-scratch : goal.returns-clause-scratch
returns-clause-scratch c =
    let took = rw c.in-Job.is at c.in_ok-job.ensures.taken in
    let of = c.in_ok-finding.ensures.finding in
    subst (λ s. IsScratchFor s c.keep.new.self)
    (c.file_claimed.ensures.spent ∙ of.scenario ∙ took.0 ∙ sym c.in_ok-job.ensures.scenario ∙ sym c.file_claimed.ensures.scenario) c.keep.ensures.scratch

pub returns-clause-kept : goal.returns-clause-kept
returns-clause-kept c =
    let old = c.args.book.now in
    let mid = c.take_with.new.self in
    let new = c.file_claimed.new.self in
    keeps_on (state_of old).marks (state_of mid).marks (state_of new).marks (taken_keeps old mid c.in_ok-job.field-0 c.in_ok-job.ensures.taken)
    (filed_keeps mid new c.in_ok-finding.finding c.books_are_closed-2.ensures.closed c.file_claimed.ensures.filed)
