use Rattle.std.proofs.Common.{◌+◌, refl, ap, arith, is_some}
use Rattle.std.specs.Arc.{arc_value}
use Rattle.lf_marks.specs.Marks.{mark_at, level_of}
use Rattle.lf_sim.specs.Settings.{world_of}
use Rattle.lf_certificate.specs.States.{State}
use Rattle.lf_book.specs.Books.{state_of, task_of_job}
use Rattle.lf_book.proofs.StateLemmas.{ticket-before, claimed-closed, claimed-missing, takes}
use Rattle.lf_book.proofs.book.Book.claim.Goals as goal

pub claim-requires-clause-above : goal.claim-requires-clause-above
claim-requires-clause-above g c =
    let m = c.args.self.now in
    let s = arc_value m.scenario in
    ticket-before (world_of s.setting) s.setting.spec s.formula s.max_sets (state_of m) (state_of m) m.closed

pub invariant_of-self : goal.invariant_of-self
invariant_of-self g c =
    let m = c.args.self.now in
    let s = arc_value m.scenario in
    let path = c.in-Some.field-0.path.items in
    let found = rw c.in-Some.is at c.in_ok-found.ensures.next in
    let took = c.claim.ensures.took path found in
    let new : State = record { level = level_of c.claim.new.self; next = m.next + 1; finished = m.finished; marks = mark_at c.claim.new.self } in
    let level = c.claim.ensures.level in
    record {
      closed = claimed-closed (world_of s.setting) s.setting.spec s.formula s.max_sets (state_of m) new m.closed path c.requires.going
          c.requires.room took refl level refl c.marks_have_shape.ensures;
      first = claimed-missing (world_of s.setting) s.setting.spec s.formula s.max_sets (state_of m) new m.closed path c.requires.going
          c.requires.room took refl level refl m.least m.first;
      tickets = omega (arith, c.requires.room);
    }

pub returns-clause-taken : goal.returns-clause-taken
returns-clause-taken g c =
    let m = c.args.self.now in
    let s = arc_value m.scenario in
    let path = c.in-Some.field-0.path.items in
    let found = rw c.in-Some.is at c.in_ok-found.ensures.next in
    let took = c.claim.ensures.took path found in
    let new : State = record { level = level_of c.claim.new.self; next = m.next + 1; finished = m.finished; marks = mark_at c.claim.new.self } in
    let job = c.in_ok-job.ensures in (
      job.scenario,
      rw (job.path, job.ticket) (takes (world_of s.setting) s.setting.spec s.formula s.max_sets (state_of m) new m.closed path c.requires.going
          c.requires.room took refl c.claim.ensures.level refl (task_of_job c.in_ok-job.job) job.works),
    )

pub unreachable-requires : goal.unreachable-requires
unreachable-requires g c = c.requires.ready (rw c.in_default.is at c.in_ok-found.ensures.none)

pub job-requires-clause-stands : goal.job-requires-clause-stands
job-requires-clause-stands g c = ap is_some (rw c.in-Some.is at c.in_ok-found.ensures.ready)

pub claim-requires-clause-next : goal.claim-requires-clause-next
claim-requires-clause-next g c = (c.in-Some.field-0.path.items, rw c.in-Some.is at c.in_ok-found.ensures.next)

pub claim-requires-clause-room : goal.claim-requires-clause-room
claim-requires-clause-room g c = rw c.in-Some.is at c.in_ok-found.ensures.room

pub overflow_add-self : goal.overflow_add-self
overflow_add-self g c = omega (arith, c.requires.room)

pub returns-clause-steps : goal.returns-clause-steps
returns-clause-steps g c =
    let few = rw c.in-Some.is at c.in_ok-found.ensures.steps in
    rw c.in_ok-job.ensures.path (omega (arith, few, c.claim.ensures.steps))
