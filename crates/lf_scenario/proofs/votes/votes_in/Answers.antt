use Rattle.std.proofs.Common.{◌+◌, ◌∙◌, ap, sym, subst, length, Ok}
use Rattle.toml.specs.View.{view}
use Rattle.toml.proofs.Views.{view-Array}
use Rattle.lf_scenario.specs.Ranges.{AreVotes}
use Rattle.lf_scenario.proofs.VotesLemmas.{are_votes, counts, counts_not, votes_in-right, votes_in-wrong}
use Rattle.lf_scenario.proofs.votes.votes_in.Goals as goal

pub returns-then-as_slice-nodes-clause-value : goal.returns-then-as_slice-nodes-clause-value
returns-then-as_slice-nodes-clause-value c =
    ap (λ v. Ok v) c.votes_of.ensures
    ∙ votes_in-right c.args.nodes c.args.key (view c.args.value.now) c.in-Array.items.items (ap view c.in-Array.is ∙ view-Array c.in-Array.items)
    (sym c.all_booleans.ensures ∙ c.if-all_booleans.true)
    (counts c.in-Array.items.items c.args.nodes c.requires.0 c.requires.1 (ap (λ xs. length xs + 1) (sym c.as_slice.ensures.value)
    ∙ c.if-as_slice-nodes.true))

pub returns-then-as_slice-nodes-clause-votes : goal.returns-then-as_slice-nodes-clause-votes
returns-then-as_slice-nodes-clause-votes c =
    subst (AreVotes c.args.nodes) (sym c.votes_of.ensures)
    (are_votes c.in-Array.items.items c.args.nodes c.requires.0 c.requires.1 (ap (λ xs. length xs + 1) (sym c.as_slice.ensures.value)
    ∙ c.if-as_slice-nodes.true))

pub returns-else-as_slice-nodes-clause-value : goal.returns-else-as_slice-nodes-clause-value
returns-else-as_slice-nodes-clause-value c =
    votes_in-wrong c.args.nodes c.args.key (view c.args.value.now) c.in-Array.items.items (ap view c.in-Array.is ∙ view-Array c.in-Array.items)
    (sym c.all_booleans.ensures ∙ c.if-all_booleans.true)
    (counts_not c.in-Array.items.items c.args.nodes (λ same. c.if-as_slice-nodes.false (ap (λ xs. length xs + 1) c.as_slice.ensures.value ∙ same)))
