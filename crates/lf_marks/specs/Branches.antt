-- Branches with kids that were taken.
use Rattle.std.specs.Prelude.{◌≡◌, ℕ, ◌+◌, ◌==◌, ◌++◌, ◌∷◌, [], length, slice_set, if◌then◌else◌}
use Rattle.lf_tree.specs.declared.tree.Node.{Node}
use Rattle.lf_tree.specs.declared.tree.Node.TheVariants as node
use Rattle.lf_marks.specs.declared.set.Branch.{Branch}

-- no kid was taken
pub record IsFresh (branch : Branch) : Type 0 where
  pub first : branch.first ≡ 0
  pub kids : length branch.kids.items ≡ 0

-- one more kid was taken, whose node isn't made yet
pub record AddsKid (old new : Branch) (place : ℕ) : Type 0 where
  pub reach : new.reach ≡ old.reach
  pub edges : new.edges ≡ old.edges
  pub first : new.first ≡ (if length old.kids.items == 0 then place else old.first)
  pub kids : length new.kids.items ≡ length old.kids.items + 1
  pub nodes : new.kids.items ≡ old.kids.items ++ node.Reaches ∷ []

-- a kid has this node
pub record PutsKid (old new : Branch) (kid : ℕ) (node : Node) : Type 0 where
  pub reach : new.reach ≡ old.reach
  pub edges : new.edges ≡ old.edges
  pub first : new.first ≡ old.first
  pub kids : new.kids.items ≡ slice_set old.kids.items kid node
