-- How many values there are.
use Rattle.std.proofs.Common.{◌≡◌, suc, List, [], ◌∷◌, length, refl, ap}
use Rattle.toml.specs.View.{items_view}
use Rattle.toml.specs.declared.value.Value.{Value}
use Rattle.lf_own_scenario.specs.Values.{count_items}

pub counted_items : (xs : List Value) → count_items (items_view xs) ≡ length xs
counted_items [] = refl
counted_items (x ∷ xs) = ap suc (counted_items xs)
