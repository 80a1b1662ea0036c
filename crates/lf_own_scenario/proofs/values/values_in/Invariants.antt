use Rattle.std.proofs.Common.{◌≡◌, [], drop}
use Rattle.toml.specs.View.{items_view}
use Rattle.lf_own_scenario.specs.Values.{values_behind}
use Rattle.lf_own_scenario.proofs.values.values_in.Given as goal

-- the values so far stand before those of the rest
abbrev pub invariant-items : goal.invariant-items
invariant-items l = values_behind l.file l.values.items (items_view (drop l.item-index l.items)) ≡ values_behind l.file [] (items_view l.items)
