use Rattle.std.proofs.Common.{◌≡◌, ◌++◌, take}
use Rattle.std.specs.List.{flat_map}
use Rattle.lf_residual.specs.Parts.{topics_in}
use Rattle.lf_residual.proofs.outline.+put_topics.Given as goal

abbrev pub invariant-put_all_topics-own : goal.invariant-put_all_topics-own
invariant-put_all_topics-own l = l.topics.items ≡ l.initial.topics.items ++ flat_map topics_in (take l.part-index l.own)
