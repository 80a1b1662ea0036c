use Rattle.std.proofs.Common.{arith, map, length, ◌+◌, ◌∙◌, ap}
use Rattle.std.proofs.lemmas.List.{length_push}
use Rattle.lf_book.specs.Books.{scenario_of, state_of}
use Rattle.lf_book.specs.Holding.{held_of}
use Rattle.lf_book.specs.declared.driving.Event.TheVariants as event
use Rattle.lf_book.proofs.DriveLemmas.{all_events, next_event, some_events}
use Rattle.lf_book.proofs.StateLemmas.{same-book}
use Rattle.lf_book.proofs.book.Book.drive.Goals as goal

pub returns-in_err-reply-clause-err : goal.returns-in_err-reply-clause-err
returns-in_err-reply-clause-err c =
    some_events c.from_residual-in_err-reply.result (scenario_of c.args.self.now) c.args.events.now c.events.event-index c.events.replies.items
    (map held_of c.events.jobs.items) (state_of c.args.self.now) (state_of c.events.self) (state_of c.reply.new.self) c.events-test.true
    c.events.invariant.drives (same-book c.events.self c.reply.new.self c.in_err-reply.ensures.err)

pub events-preserved : goal.events-preserved
events-preserved c =
    let so = c.events.invariant in
    let done = c.in_ok-reply.ensures in
    let replies = c.push_reserved.ensures in
    record {
      drives = next_event (scenario_of c.args.self.now) (scenario_of c.events.self) c.args.events.now c.events.event-index c.events.replies.items
          c.push_reserved.new.self.items (map held_of c.events.jobs.items) (map held_of c.reply.new.jobs.items) (state_of c.args.self.now)
          (state_of c.events.self) (state_of c.reply.new.self) event.Take c.in_ok-reply.reply so.scenario c.events-test.true replies.items so.drives
          done.does;
      held = done.held;
      scenario = done.scenario ∙ so.scenario;
      count = ap length replies.items ∙ length_push c.events.replies.items c.in_ok-reply.reply ∙ ap (λ n. n + 1) so.count;
      room = omega (arith, so.room, replies.capacity);
    }

pub returns-clause-driven : goal.returns-clause-driven
returns-clause-driven c =
    all_events (scenario_of c.args.self.now) c.args.events.now c.events.event-index c.events.replies.items (map held_of c.events.jobs.items)
    (state_of c.args.self.now) (state_of c.events.self) (omega (arith, c.events-test.false)) c.events.invariant.drives
