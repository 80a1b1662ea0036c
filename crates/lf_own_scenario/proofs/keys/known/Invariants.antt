use Rattle.std.proofs.Common.{◌≡◌}
use Rattle.toml.specs.View.{members_view}
use Rattle.lf_own_scenario.specs.Keys.{all_known}
use Rattle.lf_own_scenario.proofs.keys.known.Given as goal

abbrev pub invariant-members : goal.invariant-members
invariant-members l =
    (goal.iterator-members).can_next l.name-iterator × (goal.iterator-members).is_finite l.name-iterator
    × (all_known (members_view l.name-iterator) ≡ all_known (members_view l.table.entries))
