use Rattle.std.proofs.Common.{◌≡◌, [], drop, All}
use Rattle.toml.specs.View.{items_view}
use Rattle.lf_scenario.specs.LinkTables.{links_from, IsLink}
use Rattle.lf_scenario.proofs.links.links_from.Given as goal

abbrev pub invariant-items : goal.invariant-items
invariant-items l = record {
  same : links_from l.usual.nodes l.usual.least l.usual.spread l.links.items (items_view
      (drop l.value-index l.value-items)) ≡ links_from l.usual.nodes l.usual.least l.usual.spread [] (items_view l.value-items);
  each : All (IsLink l.usual.nodes) l.links.items;
}
