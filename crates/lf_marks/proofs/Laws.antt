-- What crates above need of marks and their counts.
use Rattle.std.proofs.Common.{◌≡◌, ℕ, sym, subst, arith, Some}
use Rattle.lf_marks.specs.Steps.{Mark, Marking, IsUnmarked}
use Rattle.lf_marks.specs.Steps as mark
use Rattle.lf_marks.specs.Counting.{AreCounts, OfKind, IsClaim}
use Rattle.lf_marks.proofs.CountLemmas as counts

-- where no set is counted as open, none is
pub none-ready : (at : Marking) (c a w : ℕ) → AreCounts at 0 c a w → IsUnmarked at mark.Open
none-ready at c a w k p h = let never : ⊥ = omega (arith, counts.some-counted (λ q. at q ≡ Some mark.Open) p 0 h k.ready) in never

-- where no set is counted as claimed, none is
pub none-claimed : (at : Marking) (r a w : ℕ) → AreCounts at r 0 a w → (t : ℕ) → IsUnmarked at (mark.Claimed t)
none-claimed at r a w k t p h =
    let never : ⊥ = omega (arith, counts.some-counted (λ q. OfKind IsClaim (at q)) p 0 (subst (OfKind IsClaim) (sym h) tt) k.claimed) in never
