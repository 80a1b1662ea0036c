use Rattle.std.proofs.Common.{ap, ◌∙◌, drop}
use Rattle.lf_check.proofs.ExcludedLemmas.{from_on}
use Rattle.lf_check.proofs.excluded.edges_between.Goals as goal

pub returns : goal.returns
returns c =
    let edges = c.edges_before-edges.result.now in
    from_on c.args.from edges ∙ ap (drop c.args.from) c.edges_before-edges.ensures
