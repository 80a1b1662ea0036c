use Rattle.std.proofs.Common.{◌∙◌}
use Rattle.lf_scenario.proofs.VotesLemmas.{item_vote-past, item_vote-seen}
use Rattle.lf_scenario.proofs.votes.item_vote.Goals as goal

pub returns-in-Some : goal.returns-in-Some
returns-in-Some c =
    c.vote_in.ensures
    ∙ item_vote-seen c.args.items.now.items c.deref.result.now c.args.place c.in-Some.value.now c.deref.ensures.value
    c.in-Some.ensures.lookup.0 c.in-Some.ensures.lookup.1

pub returns-in-None : goal.returns-in-None
returns-in-None c = item_vote-past c.args.items.now.items c.deref.result.now c.args.place c.deref.ensures.value c.in-None.ensures.lookup.0
