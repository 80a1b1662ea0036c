use Rattle.std.proofs.Common.{sym, ap, ◌∙◌}
use Rattle.std.specs.List.{list_all}
use Rattle.lf_own_scenario.specs.Spans.{is_steady}
use Rattle.lf_own_scenario.proofs.SpanLemmas.{steady-parts}
use Rattle.lf_own_scenario.proofs.spans.+steadiness.Goals as goal

pub is_steady-returns-in-All : goal.is_steady-returns-in-All
is_steady-returns-in-All t c =
    c.all_steady.ensures ∙ ap (list_all is_steady) c.as_slice.ensures ∙ sym (steady-parts c.args.promise.now c.in-All.parts c.in-All.is)
