use Rattle.std.proofs.Common.{◌≡◌}
use Rattle.toml.specs.View.{members_view}
use Rattle.lf_protocol_file.specs.RuleParts.{known_parts}
use Rattle.lf_protocol_file.proofs.rules.known_parts.Given as goal

-- the keys so far are known
abbrev pub invariant-members : goal.invariant-members
invariant-members l =
    (goal.iterator-members).can_next l.key-iterator × (goal.iterator-members).is_finite l.key-iterator
    × (known_parts l.number (members_view l.key-iterator) ≡ known_parts l.number (members_view l.table.entries))
