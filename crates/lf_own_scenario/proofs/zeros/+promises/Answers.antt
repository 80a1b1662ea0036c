use Rattle.std.proofs.Common.{sym, ap, ◌∙◌}
use Rattle.std.specs.List.{list_any}
use Rattle.lf_own_scenario.specs.Zeros.{promise_divides}
use Rattle.lf_own_scenario.proofs.ZerosLemmas.{divides-parts}
use Rattle.lf_own_scenario.proofs.zeros.+promises.Goals as goal

pub promise_divides-returns-in-All : goal.promise_divides-returns-in-All
promise_divides-returns-in-All t c =
    c.some_divides.ensures ∙ ap (list_any (promise_divides c.args.given.now)) c.as_slice.ensures
    ∙ sym (divides-parts c.args.given.now c.args.promise.now c.in-All.parts c.in-All.is)
