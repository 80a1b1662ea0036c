use Rattle.std.proofs.Common.{◌≡◌, ◌≤◌, ◌++◌, length, take, drop, Ok}
use Rattle.std.specs.Prelude.{All}
use Rattle.serde_json.specs.View.{items_view}
use Rattle.lf_tree.specs.Reading.{◌>>=◌, steps_in}
use Rattle.lf_tree.proofs.lists.reach_of.Given as goal

abbrev pub invariant-items : goal.invariant-items
invariant-items l =
    ((steps_in (items_view (drop l.i l.items)) >>= (λ rest. Ok (take l.i l.steps ++ rest))) ≡ steps_in (items_view l.items))
    × All (λ t. t ≤ 48) l.steps × (length l.steps ≡ 8)
