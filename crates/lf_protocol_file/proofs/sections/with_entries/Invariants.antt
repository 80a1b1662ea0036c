use Rattle.std.proofs.Common.{◌≡◌}
use Rattle.toml.specs.View.{members_view}
use Rattle.lf_protocol_file.specs.Entries.{with_entries}
use Rattle.lf_protocol_file.proofs.sections.with_entries.Given as goal

-- the entries so far are read
abbrev pub invariant-members : goal.invariant-members
invariant-members l =
    (goal.iterator-members).can_next l.key-iterator × (goal.iterator-members).is_finite l.key-iterator
    × (with_entries l.naming l.draft (members_view l.key-iterator) ≡ with_entries l.naming l.initial.draft (members_view l.entries.entries))
