use Rattle.std.proofs.Common.{◌≡◌, take, true}
use Rattle.std.specs.List.{list_all}
use Rattle.lf_own_scenario.specs.Spans.{is_steady}
use Rattle.lf_own_scenario.proofs.spans.+steadiness.Given as goal

abbrev pub invariant-all_steady-parts : goal.invariant-all_steady-parts
invariant-all_steady-parts l = list_all is_steady (take l.part-index l.parts) ≡ true
