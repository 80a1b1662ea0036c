use Rattle.std.proofs.Common.{◌≡◌, min, take}
use Rattle.lf_own_scenario.specs.Topics.{count_all}
use Rattle.lf_own_scenario.proofs.topics.+counting.Given as goal

abbrev pub invariant-count_all-parts : goal.invariant-count_all-parts
invariant-count_all-parts l = l.count ≡ min (count_all (take l.part-index l.parts)) 4294967295
