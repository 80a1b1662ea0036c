use Rattle.std.proofs.Common.{List, length, min, sym, ap, ◌∙◌}
use Rattle.lf_rules.specs.declared.topic.Topic.{Topic}
use Rattle.lf_promises.specs.declared.promise.Promise.{Promise}
use Rattle.lf_own_scenario.specs.Topics.{count_all}
use Rattle.lf_own_scenario.proofs.TopicLemmas.{topics-parts}
use Rattle.lf_own_scenario.proofs.topics.+counting.Goals as goal

pub count_topics-returns-in-All : goal.count_topics-returns-in-All
count_topics-returns-in-All t c =
    c.count_all.ensures ∙ ap (λ (ps : List Promise). min (count_all ps) 4294967295) c.as_slice.ensures
    ∙ ap (λ (ts : List Topic). min (length ts) 4294967295) (sym (topics-parts c.args.promise.now c.in-All.parts c.in-All.is))
