-- How many values, or entries, there are.
use Rattle.std.proofs.Common.{◌≡◌, suc, List, [], ◌∷◌, length, String, Global, refl, ap}
use Rattle.toml.specs.View.{items_view, members_view}
use Rattle.toml.specs.declared.value.Value.{Value}
use Rattle.lf_protocol_file.specs.Texts.{count_items, count_members}

pub counted_items : (xs : List Value) → count_items (items_view xs) ≡ length xs
counted_items [] = refl
counted_items (x ∷ xs) = ap suc (counted_items xs)

pub counted_members : (es : List (String Global × Value)) → count_members (members_view es) ≡ length es
counted_members [] = refl
counted_members (e ∷ es) = ap suc (counted_members es)
