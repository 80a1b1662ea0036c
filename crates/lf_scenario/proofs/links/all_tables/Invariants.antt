use Rattle.std.proofs.Common.{◌≡◌, drop}
use Rattle.toml.specs.View.{items_view}
use Rattle.lf_scenario.specs.LinkTables.{all_tables}
use Rattle.lf_scenario.proofs.links.all_tables.Given as goal

abbrev pub invariant-items : goal.invariant-items
invariant-items l = all_tables (items_view (drop l.value-index l.value-items)) ≡ all_tables (items_view l.value-items)
