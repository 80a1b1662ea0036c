use Rattle.std.proofs.Common.{Bor, List, ℕ, map}
use Rattle.std.proofs.lemmas.Result.{err_from_is_err_and}
use Rattle.lf_sweep_words.proofs.Planned.{unplanned, unread}
use Rattle.lf_sweep_words.proofs.planning.plan_of.Goals as goal

pub returns-in_err-varied : goal.returns-in_err-varied
returns-in_err-varied c =
    let p = err_from_is_err_and c.from_residual.result c.from_residual.ensures.1 in
    rw (p.1, p.2) (unread (map (λ (t : Bor (List ℕ)). t.now) c.args.texts.now) c.in_err-varied.field-0.0 c.in_err-varied.ensures)

pub returns : goal.returns
returns c =
    unplanned (map (λ (t : Bor (List ℕ)). t.now) c.args.texts.now) c.in_ok-varied.varied.items c.in-Err.error c.told_or_memory.result
    c.in_ok-varied.ensures c.in-Err.ensures c.told_or_memory.ensures
