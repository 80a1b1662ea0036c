use Rattle.std.proofs.Common.{◌≡◌, ◌++◌, drop, Ok}
use Rattle.toml.specs.View.{items_view}
use Rattle.lf_scenario.specs.Values.{◌>>=◌}
use Rattle.lf_scenario.specs.Outcomes.{parts_in}
use Rattle.lf_scenario.proofs.outcomes.+formula.Given as goal

abbrev pub invariant-parts_in-items : goal.invariant-parts_in-items
invariant-parts_in-items l =
    (parts_in l.described.protocol l.described.bounds (items_view (drop l.item-index l.items)) >>= (λ rest. Ok (l.parts.items ++ rest)))
    ≡ parts_in l.described.protocol l.described.bounds (items_view l.items)
