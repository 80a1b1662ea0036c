use Rattle.std.proofs.Common.{◌≡◌, ◌++◌, length, drop, Ok}
use Rattle.serde_json.specs.View.{items_view}
use Rattle.lf_tree.specs.Reading.{◌>>=◌, faults_in}
use Rattle.lf_tree.proofs.lists.faults_in.Given as goal

abbrev pub invariant-items : goal.invariant-items
invariant-items l =
    ((faults_in (items_view (drop l.item-index l.items)) >>= (λ rest. Ok (l.faults.items ++ rest))) ≡ faults_in (items_view l.items))
    × (length l.faults.items ≡ l.item-index)
