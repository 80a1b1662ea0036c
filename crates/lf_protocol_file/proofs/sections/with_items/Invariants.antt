use Rattle.std.proofs.Common.{◌≡◌, drop}
use Rattle.toml.specs.View.{items_view}
use Rattle.lf_protocol_file.specs.Entries.{with_items}
use Rattle.lf_protocol_file.proofs.sections.with_items.Given as goal

-- the items so far are read
abbrev pub invariant-loop-i : goal.invariant-loop-i
invariant-loop-i l = with_items l.listing l.draft l.i (items_view (drop l.i l.items)) ≡ with_items l.listing l.initial.draft 0 (items_view l.items)
