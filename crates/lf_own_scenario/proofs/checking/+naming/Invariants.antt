use Rattle.std.proofs.Common.{◌≡◌, take, true}
use Rattle.std.specs.List.{list_all}
use Rattle.lf_own_scenario.specs.Unfolding.{names_nodes}
use Rattle.lf_own_scenario.proofs.checking.+naming.Given as goal

abbrev pub invariant-all_name_nodes-parts : goal.invariant-all_name_nodes-parts
invariant-all_name_nodes-parts l = list_all (names_nodes l.nodes) (take l.part-index l.parts) ≡ true
