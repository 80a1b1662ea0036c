-- The nodes of the sets, made from the last place to the first.
use Rattle.std.specs.Prelude.{◌≡◌, ◌≢◌, ℕ, ◌+◌, ◌<◌, Bool, nat_lt, if◌then◌else◌, List, [], length, Option, None, Some}
use Rattle.std.specs.Coded.{Coded, Coded-set, coded_option, Π_prop}
use Rattle.std.specs.List.{slice_get}
use Rattle.lf_tree.specs.declared.tree.Node.{Node}
use Rattle.lf_tree.specs.declared.tree.Node.TheVariants as node
use Rattle.lf_tree.specs.contracts.tree.Node as the_node
use Rattle.lf_marks.specs.Arena.{look}
use Rattle.lf_marks.specs.declared.set.Branch as declared
use Rattle.lf_marks.specs.declared.set.Set.{Set}
use Rattle.lf_marks.specs.declared.set.State.{State}
use Rattle.lf_marks.specs.declared.set.State.TheVariants.{Open, Claimed, Misses, Reaches, Branch}

-- the nodes of the kids that were taken
abbrev pub kids_in : State → List Node
kids_in Open = []
kids_in (Claimed t) = []
kids_in Misses = []
kids_in Reaches = []
kids_in (Branch b) = b.value.kids.items

abbrev pub kids_of : Option Set → List Node
kids_of None = []
kids_of (Some s) = kids_in s.state

-- the node of the i-th kid of the set at a place
abbrev pub kid_at : List Set → ℕ → ℕ → Option Node
kid_at sets x i = slice_get (kids_of (slice_get sets x)) i

-- until the nodes are made, that of each kid says that its set reaches the outcome
abbrev pub AreBare : List Set → Type 0
AreBare sets = (x i : ℕ) → i < (look sets x).taken → kid_at sets x i ≡ Some node.Reaches

kid_code : Coded (Option Node)
kid_code = coded_option the_node.the_row.coded

pub bare-prop : (sets : List Set) → IsProp (AreBare sets)
bare-prop sets = Π_prop (λ x. Π_prop (λ i. Π_prop (λ taken. Coded-set kid_code _ _)))

-- the node of a branch: on the level it is a leaf
abbrev pub branch_node : Bool → declared.Branch → Node
branch_node above b = if above then node.Branch b.reach b.edges b.kids.items else node.Reaches

-- the node of an answered set
abbrev pub node_in : Bool → State → Node
node_in above Open = node.Misses
node_in above (Claimed t) = node.Misses
node_in above Misses = node.Misses
node_in above Reaches = node.Reaches
node_in above (Branch b) = branch_node above b.value

abbrev pub node_for : Bool → Option Set → Node
node_for above None = node.Misses
node_for above (Some s) = node_in above s.state

-- the last set was taken out, and its node put into the branch above it
pub record IsHung (start : ℕ) (old new : List Set) : Type 0 where
  pub count : length new + 1 ≡ length old
  pub same : (y : ℕ) → y < length new → look new y ≡ look old y
  pub put : kid_at new (look old (length new)).parent (look old (length new)).kid ≡ Some (node_for (nat_lt (length new) start) (slice_get old (length new)))
  pub others : (y i : ℕ) → y < length new → (y ≡ (look old (length new)).parent → i ≢ (look old (length new)).kid) → kid_at new y i ≡ kid_at old y i
