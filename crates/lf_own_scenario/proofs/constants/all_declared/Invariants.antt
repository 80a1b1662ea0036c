use Rattle.std.proofs.Common.{◌≡◌}
use Rattle.toml.specs.View.{members_view}
use Rattle.lf_own_scenario.specs.Constants.{all_declared}
use Rattle.lf_own_scenario.proofs.constants.all_declared.Given as goal

abbrev pub invariant-members : goal.invariant-members
invariant-members l =
    (goal.iterator-members).can_next l.name-iterator × (goal.iterator-members).is_finite l.name-iterator
    × (all_declared l.constants (members_view l.name-iterator) ≡ all_declared l.constants (members_view l.table.entries))
