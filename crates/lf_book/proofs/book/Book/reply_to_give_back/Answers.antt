use Rattle.std.proofs.Common.{arith}
use Rattle.lf_book.specs.Books.{scenario_of, state_of, task_of_job}
use Rattle.lf_book.proofs.HeldLemmas.{held-back, held-refused}
use Rattle.lf_book.proofs.ReplyLemmas.{left-held, gives-held, keeps-held}
use Rattle.lf_book.proofs.StateLemmas.{same-book}
use Rattle.lf_book.proofs.book.Book.reply_to_give_back.Goals as goal

pub returns-in-Ok-clause-gives : goal.returns-in-Ok-clause-gives
returns-in-Ok-clause-gives c =
    gives-held c.args.jobs.now.items c.args.place c.remove.result (omega (arith, c.len.ensures, c.if-place-len.false)) c.remove.ensures.value
    (state_of c.args.self.now) (state_of c.give_back.new.self) c.in-Ok.ensures.given

pub returns-in-Ok-clause-left : goal.returns-in-Ok-clause-left
returns-in-Ok-clause-left c = left-held c.args.jobs.now.items c.remove.new.self.items c.args.place c.remove.ensures.by_index.2

pub returns-in-Ok-clause-held : goal.returns-in-Ok-clause-held
returns-in-Ok-clause-held c =
    let old = c.args.self.now in
    let new = c.give_back.new.self in
    let job = c.remove.result in
    held-back (scenario_of old) (scenario_of new) c.give_back.ensures.scenario (state_of old) (state_of new) old.closed c.args.jobs.now.items
    c.remove.new.self.items c.args.place job.path.items job.ticket (task_of_job job) c.remove.ensures.by_index.2 c.in-Ok.ensures.given c.requires

pub returns-in-Err-clause-gives : goal.returns-in-Err-clause-gives
returns-in-Err-clause-gives c =
    keeps-held c.args.jobs.now.items c.args.place c.remove.result (omega (arith, c.len.ensures, c.if-place-len.false)) c.remove.ensures.value
    c.args.self.now c.requires (state_of c.give_back.new.self) c.in-Err.ensures.refused
    (same-book c.args.self.now c.give_back.new.self c.in-Err.ensures.unchanged)

pub returns-in-Err-clause-left : goal.returns-in-Err-clause-left
returns-in-Err-clause-left c = left-held c.args.jobs.now.items c.remove.new.self.items c.args.place c.remove.ensures.by_index.2

pub returns-in-Err-clause-held : goal.returns-in-Err-clause-held
returns-in-Err-clause-held c =
    let old = c.args.self.now in
    let new = c.give_back.new.self in
    held-refused (scenario_of old) (scenario_of new) c.give_back.ensures.scenario (state_of old) (state_of new) old.closed c.args.jobs.now.items
    c.remove.new.self.items c.args.place c.remove.ensures.by_index.2 (same-book c.args.self.now c.give_back.new.self c.in-Err.ensures.unchanged) c.requires
