use Rattle.std.proofs.Common.{◌≡◌}
use Rattle.toml.specs.View.{members_view}
use Rattle.lf_scenario.specs.LinkTables.{all_of_links}
use Rattle.lf_scenario.proofs.links.link_keys.Given as goal

abbrev pub invariant-members : goal.invariant-members
invariant-members l =
    (goal.iterator-members).can_next l.key-iterator × (goal.iterator-members).is_finite l.key-iterator
    × (all_of_links (members_view l.key-iterator) ≡ all_of_links (members_view l.table.entries))
