use Rattle.std.proofs.Common.{arith}
use Rattle.lf_marks.specs.Answers.{mark_for}
use Rattle.lf_book.specs.Books.{scenario_of, state_of, task_of_job}
use Rattle.lf_book.proofs.HeldLemmas.{held-file, held-refused}
use Rattle.lf_book.proofs.ReplyLemmas.{left-held, filed-held, files-held, refuses-held}
use Rattle.lf_book.proofs.StateLemmas.{same-book}
use Rattle.lf_book.proofs.book.Book.reply_to_file.Goals as goal

pub returns-in-Ok-clause-files : goal.returns-in-Ok-clause-files
returns-in-Ok-clause-files c =
    files-held c.args.jobs.now.items c.args.place c.remove-job.result (omega (arith, c.len.ensures, c.if-place-len.false)) c.remove-job.ensures.value
    c.args.self.now c.requires c.in_ok-work.field-0 c.in_ok-work.ensures (state_of c.file.new.self) c.in-Ok.ensures.found c.in-Ok.ensures.filed

pub returns-in-Ok-clause-left : goal.returns-in-Ok-clause-left
returns-in-Ok-clause-left c = left-held c.args.jobs.now.items c.remove-job.new.self.items c.args.place c.remove-job.ensures.by_index.2

pub returns-in-Ok-clause-held : goal.returns-in-Ok-clause-held
returns-in-Ok-clause-held c =
    let old = c.args.self.now in
    let new = c.file.new.self in
    let job = c.remove-job.result in
    let both = filed-held c.args.jobs.now.items c.args.place job (omega (arith, c.len.ensures, c.if-place-len.false)) c.remove-job.ensures.value
    old c.requires c.in_ok-work.field-0 c.in_ok-work.ensures (state_of new) c.in-Ok.ensures.found c.in-Ok.ensures.filed in
    held-file (scenario_of old) (scenario_of new) c.file.ensures.scenario (state_of old) (state_of new) old.closed c.args.jobs.now.items
    c.remove-job.new.self.items c.args.place job.path.items job.ticket (task_of_job job) (mark_for c.in_ok-work.field-0.answer)
    c.remove-job.ensures.by_index.2 both.0 both.1 c.requires

pub returns-clause-files : goal.returns-clause-files
returns-clause-files c =
    refuses-held c.args.jobs.now.items c.args.place c.remove-job.result (omega (arith, c.len.ensures, c.if-place-len.false))
    c.remove-job.ensures.value c.args.self.now c.requires c.in_ok-work.field-0 c.in_ok-work.ensures (state_of c.file.new.self) c.in-Err.refusal
    c.number.result c.number.ensures c.in-Err.ensures.refused (same-book c.args.self.now c.file.new.self c.in-Err.ensures.unchanged)

pub returns-clause-left : goal.returns-clause-left
returns-clause-left c = left-held c.args.jobs.now.items c.remove-job.new.self.items c.args.place c.remove-job.ensures.by_index.2

pub returns-clause-held : goal.returns-clause-held
returns-clause-held c =
    let old = c.args.self.now in
    let new = c.file.new.self in
    held-refused (scenario_of old) (scenario_of new) c.file.ensures.scenario (state_of old) (state_of new) old.closed c.args.jobs.now.items
    c.remove-job.new.self.items c.args.place c.remove-job.ensures.by_index.2 (same-book c.args.self.now c.file.new.self c.in-Err.ensures.unchanged) c.requires
