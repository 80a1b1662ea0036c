use Rattle.std.proofs.Common.{refl}
use Rattle.std.specs.Arc.{arc_value}
use Rattle.lf_marks.specs.Marks.{mark_at, level_of}
use Rattle.lf_certificate.specs.States.{State}
use Rattle.lf_book.specs.Books.{state_of}
use Rattle.lf_book.proofs.FilingLemmas.{reclaim-keeps}
use Rattle.lf_book.proofs.book.Book.reclaim.Goals as goal

pub invariant_of-self : goal.invariant_of-self
invariant_of-self c =
    let o = c.args.self.now in
    let new : State = record {
      level = level_of c.mark_unclaimed.new.marks;
      next = o.next;
      finished = o.finished;
      marks = mark_at c.mark_unclaimed.new.marks;
    } in
    let k = reclaim-keeps (arc_value o.scenario) (state_of o) new o.least o.closed o.first
    (record {
      marks = c.mark_unclaimed.ensures.reclaimed;
      keeps = record { level = c.mark_unclaimed.ensures.level; next = refl; finished = refl };
    })
    c.mark_unclaimed.ensures.shape in
    record { closed = k.0; first = k.1; tickets = o.tickets }

pub returns-clause-reclaimed : goal.returns-clause-reclaimed
returns-clause-reclaimed c = record {
  marks = c.mark_unclaimed.ensures.reclaimed;
  keeps = record { level = c.mark_unclaimed.ensures.level; next = refl; finished = refl };
}
