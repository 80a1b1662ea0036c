use Rattle.std.proofs.Common.{refl}
use Rattle.std.specs.Arc.{arc_value}
use Rattle.lf_marks.specs.Marks.{mark_at, level_of}
use Rattle.lf_certificate.specs.States.{State}
use Rattle.lf_book.specs.Books.{state_of, task_of_job}
use Rattle.lf_book.proofs.FilingLemmas.{gives-back, back-keeps}
use Rattle.lf_book.proofs.book.Book.open_claimed.Goals as goal

pub invariant_of-self : goal.invariant_of-self
invariant_of-self c =
    let o = c.args.self.now in
    let j = c.args.job in
    let new : State = record {
      level = level_of c.mark_open.new.marks;
      next = o.next;
      finished = o.finished;
      marks = mark_at c.mark_open.new.marks;
    } in
    let e = gives-back j.path.items c.ticket.result j.ticket (task_of_job j) (state_of o) new c.ticket.ensures c.requires.claims
    c.mark_open.ensures.gave_back (record { level = c.mark_open.ensures.level; next = refl; finished = refl }) in
    let k = back-keeps (arc_value o.scenario) (state_of o) new j.path.items j.ticket (task_of_job j) o.least o.closed o.first e
    c.mark_open.ensures.shape in
    record { closed = k.0; first = k.1; tickets = o.tickets }

pub returns-clause-given : goal.returns-clause-given
returns-clause-given c =
    let o = c.args.self.now in
    let j = c.args.job in
    let new : State = record {
      level = level_of c.mark_open.new.marks;
      next = o.next;
      finished = o.finished;
      marks = mark_at c.mark_open.new.marks;
    } in
    gives-back j.path.items c.ticket.result j.ticket (task_of_job j) (state_of o) new c.ticket.ensures c.requires.claims
    c.mark_open.ensures.gave_back (record { level = c.mark_open.ensures.level; next = refl; finished = refl })
