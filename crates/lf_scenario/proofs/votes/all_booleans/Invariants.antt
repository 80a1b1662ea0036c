use Rattle.std.proofs.Common.{◌≡◌, drop}
use Rattle.toml.specs.View.{items_view}
use Rattle.lf_scenario.specs.Votes.{all_booleans}
use Rattle.lf_scenario.proofs.votes.all_booleans.Given as goal

abbrev pub invariant-items : goal.invariant-items
invariant-items l = all_booleans (items_view (drop l.value-index l.value-items)) ≡ all_booleans (items_view l.value-items)
