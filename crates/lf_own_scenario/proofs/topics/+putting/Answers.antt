use Rattle.std.proofs.Common.{◌≡◌, ◌++◌, List, IfOk, sym, ap, subst, ◌∙◌}
use Rattle.std.specs.List.{flat_map}
use Rattle.lf_rules.specs.declared.topic.Topic.{Topic}
use Rattle.lf_own_scenario.specs.Topics.{topics_in}
use Rattle.lf_own_scenario.proofs.TopicLemmas.{topics-parts}
use Rattle.lf_own_scenario.proofs.topics.+putting.Goals as goal

pub put_topics-returns-in-All : goal.put_topics-returns-in-All
put_topics-returns-in-All t c =
    subst (λ (ts : List Topic). IfOk c.put_all.result (λ _. c.put_all.new.topics.items ≡ c.args.topics.now.items ++ ts))
    (ap (flat_map topics_in) c.as_slice.ensures ∙ sym (topics-parts c.args.promise.now c.in-All.parts c.in-All.is)) c.put_all.ensures
