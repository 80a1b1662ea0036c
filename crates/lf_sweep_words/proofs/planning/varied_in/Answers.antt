use Rattle.std.proofs.Common.{Bor, List, ℕ, []}
use Rattle.std.proofs.lemmas.List.{drop_more}
use Rattle.std.proofs.lemmas.Result.{err_from_is_err_and}
use Rattle.lf_sweep_words.proofs.Planned.{ended, next, stopped}
use Rattle.lf_sweep_words.proofs.planning.varied_in.Goals as goal

abbrev none : Bor (List ℕ)
none = record { ref_ptr = (0, 0); now = [] }

pub returns-in_err-one : goal.returns-in_err-one
returns-in_err-one c =
    let p = err_from_is_err_and c.from_residual.result c.from_residual.ensures.1 in
    let here = drop_more c.args.texts.now c.texts.text-index none c.texts-test.true in
    rw (p.1, p.2) (stopped c.args.texts.now _ c.texts.text-index here c.texts.varied.items c.texts.invariant c.in_err-one.field-0.0 c.in_err-one.ensures)

pub texts-preserved : goal.texts-preserved
texts-preserved c =
    let here = drop_more c.args.texts.now c.texts.text-index none c.texts-test.true in
    next c.args.texts.now _ c.texts.text-index here c.texts.varied.items c.texts.invariant c.in_ok-one.one c.add.new.varied.items
    c.in_ok-one.ensures c.in_ok-add.ensures

pub returns : goal.returns
returns c = ended c.args.texts.now c.texts.text-index c.texts.varied.items c.texts-test.false c.texts.invariant
