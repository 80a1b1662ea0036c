-- Places for what a claim adds.
use Rattle.std.proofs.Common.{◌≡◌, ◌∙◌, ℕ, sym, subst, arith, List, Option, Some, None, Vec}
use Rattle.std.proofs.lemmas.Option.{same_Some}
use Rattle.std.specs.Global.{Global}
use Rattle.std.specs.List.{slice_get}
use Rattle.lf_tree.specs.declared.tree.Node.{Node}
use Rattle.lf_marks.specs.Fits.{Fits}
use Rattle.lf_marks.specs.Room.{FitsKidOf, FitsNext}
use Rattle.lf_marks.specs.declared.set.Set.{Set}

-- what has places for more has places for the items that there are
pub fits-none : {T : Type 0} (list : Vec T Global) (more : ℕ) (larger : Option (Vec T Global)) → Fits list more larger → Fits list 0 larger
fits-none list more None h = omega (arith, h)
fits-none list more (Some v) h = (h.0, omega (arith, h.1))

-- the branch at a place of a queue is one
pub fits-next : (sets : List Set) (queue : List ℕ) (at y : ℕ) (larger : Option (Vec Node Global)) → slice_get queue at ≡ Some y
    → FitsKidOf (slice_get sets y) larger → FitsNext sets queue at larger
fits-next sets queue at y larger here fits x first =
    subst (λ z. FitsKidOf (slice_get sets z) larger) (same_Some y x (sym here ∙ first)) fits
