use Rattle.std.proofs.Common.{◌≡◌, [], drop}
use Rattle.toml.specs.View.{items_view}
use Rattle.lf_protocol_file.specs.Constants.{values_behind}
use Rattle.lf_protocol_file.proofs.constants.values_in.Given as goal

-- the values so far stand before those of the rest
abbrev pub invariant-items : goal.invariant-items
invariant-items l = values_behind l.draft l.values (items_view (drop l.item-index l.items)) ≡ values_behind l.draft [] (items_view l.items)
