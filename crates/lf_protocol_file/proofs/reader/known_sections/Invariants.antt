use Rattle.std.proofs.Common.{◌≡◌}
use Rattle.toml.specs.View.{members_view}
use Rattle.lf_protocol_file.specs.Files.{known_sections}
use Rattle.lf_protocol_file.proofs.reader.known_sections.Given as goal

-- the keys so far are known
abbrev pub invariant-members : goal.invariant-members
invariant-members l =
    (goal.iterator-members).can_next l.key-iterator × (goal.iterator-members).is_finite l.key-iterator
    × (known_sections (members_view l.key-iterator) ≡ known_sections (members_view l.table.entries))
