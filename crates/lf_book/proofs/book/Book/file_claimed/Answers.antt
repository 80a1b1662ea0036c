use Rattle.std.proofs.Common.{refl, ap}
use Rattle.std.specs.Arc.{arc_value}
use Rattle.lf_marks.specs.Answers.{mark_for}
use Rattle.lf_marks.specs.Marks.{mark_at, level_of}
use Rattle.lf_certificate.specs.States.{State}
use Rattle.lf_book.specs.Books.{state_of, task_of_finding}
use Rattle.lf_book.proofs.FilingLemmas.{files, filed-keeps}
use Rattle.lf_book.proofs.book.Book.file_claimed.Goals as goal

pub invariant_of-self : goal.invariant_of-self
invariant_of-self c =
    let o = c.args.self.now in
    let f = c.args.finding in
    let m = mark_for c.into_parts-spent.result.1 in
    let new : State = record {
      level = level_of c.mark_answered.new.marks;
      next = o.next;
      finished = o.finished;
      marks = mark_at c.mark_answered.new.marks;
    } in
    let e = files f.job.path.items c.ticket-ticket.result f.job.ticket (task_of_finding f) m m (state_of o) new c.ticket-ticket.ensures refl
    c.requires.claims c.mark_answered.ensures.answered
    (record { level = c.mark_answered.ensures.level; next = refl; finished = refl }) in
    let k = filed-keeps (arc_value o.scenario) (arc_value f.job.scenario) (state_of o) new f.job.path.items f.job.ticket c.set-set.result
    (task_of_finding f) m o.least c.lowered-self.result c.requires.same o.closed o.first e c.set-set.ensures
    c.into_parts-spent.ensures.found c.mark_answered.ensures.shape c.lowered-self.ensures.reaches c.lowered-self.ensures.misses in
    record { closed = k.0; first = k.1; tickets = o.tickets }

pub returns-clause-filed : goal.returns-clause-filed
returns-clause-filed c =
    let o = c.args.self.now in
    let f = c.args.finding in
    let new : State = record {
      level = level_of c.mark_answered.new.marks;
      next = o.next;
      finished = o.finished;
      marks = mark_at c.mark_answered.new.marks;
    } in
    files f.job.path.items c.ticket-ticket.result f.job.ticket (task_of_finding f) (mark_for c.into_parts-spent.result.1) (mark_for f.answer)
    (state_of o) new c.ticket-ticket.ensures (ap mark_for c.into_parts-spent.ensures.value) c.requires.claims
    c.mark_answered.ensures.answered (record { level = c.mark_answered.ensures.level; next = refl; finished = refl })
