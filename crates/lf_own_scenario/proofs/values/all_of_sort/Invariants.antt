use Rattle.std.proofs.Common.{◌≡◌, drop}
use Rattle.toml.specs.View.{items_view}
use Rattle.lf_own_scenario.specs.Values.{all_of_sort}
use Rattle.lf_own_scenario.proofs.values.all_of_sort.Given as goal

-- those so far are of the sort
abbrev pub invariant-items : goal.invariant-items
invariant-items l = all_of_sort l.sort (items_view (drop l.value-index l.items)) ≡ all_of_sort l.sort (items_view l.items)
