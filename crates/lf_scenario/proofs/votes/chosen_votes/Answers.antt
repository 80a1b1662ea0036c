use Rattle.lf_scenario.proofs.VotesLemmas.{agreed}
use Rattle.lf_scenario.proofs.votes.chosen_votes.Goals as goal

pub returns-in-None-clause-votes : goal.returns-in-None-clause-votes
returns-in-None-clause-votes c = agreed c.args.nodes c.requires.0 c.requires.1
