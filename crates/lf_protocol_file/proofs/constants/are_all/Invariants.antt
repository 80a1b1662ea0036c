use Rattle.std.proofs.Common.{◌≡◌, drop}
use Rattle.toml.specs.View.{items_view}
use Rattle.lf_protocol_file.specs.Constants.{are_all}
use Rattle.lf_protocol_file.proofs.constants.are_all.Given as goal

-- those so far are of the sort
abbrev pub invariant-items : goal.invariant-items
invariant-items l = are_all l.sort (items_view (drop l.value-index l.items)) ≡ are_all l.sort (items_view l.items)
