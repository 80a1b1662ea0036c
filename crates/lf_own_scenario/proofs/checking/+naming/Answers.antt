use Rattle.std.proofs.Common.{sym, ap, ◌∙◌}
use Rattle.std.specs.List.{list_all}
use Rattle.lf_own_scenario.specs.Unfolding.{names_nodes}
use Rattle.lf_own_scenario.proofs.UnfoldingLemmas.{names-parts}
use Rattle.lf_own_scenario.proofs.checking.+naming.Goals as goal

pub names_nodes-returns-in-All : goal.names_nodes-returns-in-All
names_nodes-returns-in-All t c =
    c.all_name_nodes.ensures ∙ ap (list_all (names_nodes c.args.nodes)) c.as_slice.ensures
    ∙ sym (names-parts c.args.nodes c.args.promise.now c.in-All.parts c.in-All.is)
