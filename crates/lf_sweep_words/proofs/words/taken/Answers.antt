use Rattle.std.proofs.Common.{string_bytes}
use Rattle.std.proofs.lemmas.Result.{err_from_is_err_and}
use Rattle.clap.specs.Words.{found_of, rows_of}
use Rattle.lf_sweep_words.specs.Words.{IsMatched}
use Rattle.lf_sweep_words.proofs.Laws.{nothing_by}
use Rattle.lf_sweep_words.proofs.words.taken.Goals as goal

pub returns-in_err-by : goal.returns-in_err-by
returns-in_err-by c =
    let p = err_from_is_err_and c.from_residual.result c.from_residual.ensures.1 in
    rw (p.1, p.2) (nothing_by _ (IsMatched (rows_of (found_of c.args.matches.now))) c.in_err-by.field-0.0 (λ a m. (a.by, m.by)) c.in_err-by.ensures)

pub returns-in_err-workers : goal.returns-in_err-workers
returns-in_err-workers c =
    let p = err_from_is_err_and c.from_residual-in_err-workers.result c.from_residual-in_err-workers.ensures.1 in
    rw (p.1, p.2) (nothing_by _ (IsMatched (rows_of (found_of c.args.matches.now))) c.in_err-workers.field-0.0 (λ a m. (a.workers, m.workers))
    c.in_err-workers.ensures)

pub returns-in_err-part : goal.returns-in_err-part
returns-in_err-part c =
    let p = err_from_is_err_and c.from_residual-in_err-part.result c.from_residual-in_err-part.ensures.1 in
    rw (p.1, p.2) (nothing_by _ (IsMatched (rows_of (found_of c.args.matches.now))) c.in_err-part.field-0.0 (λ a m. (a.part, m.part)) c.in_err-part.ensures)

pub returns-in_err-plan : goal.returns-in_err-plan
returns-in_err-plan c =
    let p = err_from_is_err_and c.from_residual-in_err-plan.result c.from_residual-in_err-plan.ensures.1 in
    rw (p.1, p.2) (nothing_by _ (IsMatched (rows_of (found_of c.args.matches.now))) c.in_err-plan.field-0.0 (λ a m. (a.plan, m.plan)) c.in_err-plan.ensures)

pub returns-in_err-file : goal.returns-in_err-file
returns-in_err-file c =
    let p = err_from_is_err_and c.from_residual-in_err-file.result c.from_residual-in_err-file.ensures.1 in
    rw (p.1, p.2) (nothing_by _ (IsMatched (rows_of (found_of c.args.matches.now))) c.in_err-file.field-0.0 (λ a m. (string_bytes a.file, m.file))
    c.in_err-file.ensures)
