use Rattle.std.proofs.Common.{◌≡◌, ◌++◌, take}
use Rattle.std.specs.List.{flat_map}
use Rattle.lf_own_scenario.specs.Topics.{topics_in}
use Rattle.lf_own_scenario.proofs.topics.+putting.Given as goal

-- the topics of the parts so far stand behind those before
abbrev pub invariant-put_all-parts : goal.invariant-put_all-parts
invariant-put_all-parts l = l.topics.items ≡ l.fn.topics.items ++ flat_map topics_in (take l.part-index l.parts)
