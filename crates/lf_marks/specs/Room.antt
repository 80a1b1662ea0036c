-- Room for what a claim adds to a tree of marks.
use Rattle.std.specs.Prelude.{◌≡◌, ℕ, ◌+◌, List, length, Option, None, Some, Vec, ⊤}
use Rattle.std.specs.Global.{Global}
use Rattle.std.specs.List.{slice_get}
use Rattle.lf_tree.specs.declared.tree.Node.{Node}
use Rattle.lf_marks.specs.Claims.{standing}
use Rattle.lf_marks.specs.declared.marks.Marks.{Marks}
use Rattle.lf_marks.specs.declared.room.Room.{Room}
use Rattle.lf_marks.specs.declared.set.Set.{Set}
use Rattle.lf_marks.specs.declared.set.State.{State}
use Rattle.lf_marks.specs.declared.set.State.TheVariants.{Open, Claimed, Misses, Reaches, Branch}
use Rattle.lf_marks.specs.Fits.{Fits}

-- one kid more of a branch has a place
abbrev pub FitsKid : State → Option (Vec Node Global) → Type 0
FitsKid Open larger = ⊤
FitsKid (Claimed t) larger = ⊤
FitsKid Misses larger = ⊤
FitsKid Reaches larger = ⊤
FitsKid (Branch b) larger = Fits b.value.kids 1 larger

abbrev pub FitsKidOf : Option Set → Option (Vec Node Global) → Type 0
FitsKidOf None larger = ⊤
FitsKidOf (Some s) larger = FitsKid s.state larger

-- one kid more of the branch at a place of a queue has a place
abbrev pub FitsNext : List Set → List ℕ → ℕ → Option (Vec Node Global) → Type 0
FitsNext sets queue at larger = (x : ℕ) → slice_get queue at ≡ Some x → FitsKidOf (slice_get sets x) larger

-- with the larger lists there is room for one claim more, wherever it ends
pub record HasRoom (m : Marks) (room : Room) : Type 0 where
  pub sets : Fits m.sets 1 room.sets
  pub claims : Fits m.claims.list 1 room.claims
  pub coming : Fits m.coming (length (standing m.claims) + 1) room.coming
  pub opened : Fits m.opened (length (standing m.claims) + 1) room.opened
  pub kids : length m.opened.items ≡ 0 → FitsNext m.sets.items m.queue.items m.at room.kids
