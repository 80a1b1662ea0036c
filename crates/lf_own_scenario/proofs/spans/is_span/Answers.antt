use Rattle.std.proofs.Common.{ap, sym, ◌∙◌, ◌&&◌, arith}
use Rattle.std.specs.List.{list_all}
use Rattle.std.proofs.lemmas.Bool.{le-leb}
use Rattle.lf_own_scenario.specs.Spans.{is_steady}
use Rattle.lf_own_scenario.proofs.spans.is_span.Goals as goal

pub returns : goal.returns
returns c =
    c.all_steady.ensures
    ∙ sym (ap (λ b. b && list_all is_steady c.args.parts.now) (le-leb c.args.horizon 4294967295 (omega (arith, c.ranges.horizon.fits))))
