-- What a tree's text says, as serde_json's value, and what is wrong with it first.
--
-- The value is an object with the keys `answer`, `format` and `root` and no other. They are read in this order:
--
--     answer    null, or a list of at most six faults that ascend
--     format    1 or 2
--     root      a node
--
-- A node is an object with the key `misses` alone, which is a truth value, or one with the keys `edges`, `kids` and
-- `reach` and no other. They are read in the order `edges`, `reach`, `kids`:
--
--     edges     a list of faults
--     reach     a list of 2 to 8 numbers from 0 to 48
--     kids      a list of nodes
--
-- A list is judged by its length, then item by item, and each item by its kind before its value. A branch that has six
-- branches above it is too deep, whatever its edges are.
use Rattle.std.specs.Prelude.{ℕ, zero, suc, Bool, true, false, ◌&&◌, ◌||◌, ◌==◌, nat_le, if◌then◌else◌}
use Rattle.std.specs.Prelude.{List, [], ◌∷◌, codes, Option, Some, None, option_and_then, Result, Ok, Err}
use Rattle.std.specs.Str.{bytes_eq}
use Rattle.serde_json.specs.Data.{Data, null, boolean, string, array, object, Items, no_items, item}
use Rattle.serde_json.specs.Events.{items_len, members_len}
use Rattle.serde_json.specs.Find.{get_member, as_number, as_u64}
use Rattle.lf_faults.specs.declared.fault.Parts.{Parts}
use Rattle.lf_faults.specs.declared.fault.Parts.TheVariants as faults
use Rattle.lf_faults.specs.Texts.{spelling}
use Rattle.lf_tree.specs.declared.fault.TreeFault.{TreeFault}
use Rattle.lf_tree.specs.declared.fault.TreeFault.TheVariants.{Form, OutOfRange, TooDeep}
use Rattle.lf_tree.specs.declared.tree.Tree.{Tree}
use Rattle.lf_tree.specs.declared.tree.Node.{Node}
use Rattle.lf_tree.specs.declared.tree.Node.TheVariants as nodes
use Rattle.lf_tree.specs.Trees.{is_fault, is_ascending, is_count}

-- what a reading gives: a value, or what is wrong
abbrev pub Reading : Type 0 → Type 0
Reading A = Result A TreeFault

-- the next step, where nothing was wrong
infixl 10 ◌>>=◌
abbrev pub ◌>>=◌ : {A B : Type 0} → Reading A → (A → Reading B) → Reading B
Ok x >>= next = next x
Err e >>= next = Err e

-- the value that passes a test
abbrev pub checked : {A : Type 0} → TreeFault → Bool → A → Reading A
checked e true x = Ok x
checked e false x = Err e

-- the value, where there is one
abbrev pub some_or : {A : Type 0} → TreeFault → Option A → Reading A
some_or e (Some x) = Ok x
some_or e None = Err e

-- Texts of faults

abbrev pub or_else : {A : Type 0} → Option A → Option A → Option A
or_else (Some x) next = Some x
or_else None next = next

-- the first value among f 0, f 1, .. below n
abbrev pub first_below : {A : Type 0} → ℕ → (ℕ → Option A) → Option A
first_below zero f = None
first_below (suc n) f = or_else (first_below n f) (f n)

-- the fault, if the text spells it
abbrev pub if_spelled : List ℕ → Parts → Option Parts
if_spelled text f = if is_fault f && bytes_eq text (spelling f) then Some f else None

-- the fault at one of eight nodes and 48 steps that the text spells
unfoldable pub spelled_at : List ℕ → (ℕ → ℕ → Parts) → Option Parts
spelled_at text make = first_below 8 (λ node. first_below 49 (λ step. if_spelled text (make node step)))

-- the fault that a text spells: all are tried
unfoldable pub fault_named : List ℕ → Option Parts
fault_named text =
    or_else (first_below 8 (λ to. spelled_at text (λ from step. faults.Omit from to step)))
    (or_else (spelled_at text faults.Crash) (spelled_at text faults.Pause))

-- Items

-- a text that spells a fault
abbrev pub fault_in : Data → Reading Parts
fault_in (string text) = some_or OutOfRange (fault_named text)
fault_in _ = Err Form

-- an unsigned whole number of at most 64 bits
abbrev pub whole_in : Data → Reading ℕ
whole_in d = some_or Form (option_and_then as_u64 (as_number d))

-- a number from 0 to 48
abbrev pub step_in : Data → Reading ℕ
step_in d = whole_in d >>= (λ n. checked OutOfRange (nat_le n 48) n)

-- each item, in order
abbrev pub all_in : {A : Type 0} → (Data → Reading A) → Items → Reading (List A)
all_in read no_items = Ok []
all_in read (item d ds) = do
  x ← read d
  xs ← all_in read ds
  Ok (x ∷ xs)

-- Lists

abbrev pub faults_in : Items → Reading (List Parts)
faults_in = all_in fault_in

abbrev pub edges_in : Data → Reading (List Parts)
edges_in (array ds) = faults_in ds
edges_in _ = Err Form

abbrev pub steps_in : Items → Reading (List ℕ)
steps_in = all_in step_in

abbrev pub reach_in : Data → Reading (List ℕ)
reach_in (array ds) = if is_count (items_len ds) then steps_in ds else Err Form
reach_in _ = Err Form

abbrev pub set_in : List Parts → Reading (Option (List Parts))
set_in fs = checked Form (is_ascending fs) (Some fs)

abbrev pub answer_in : Data → Reading (Option (List Parts))
answer_in null = Ok None
answer_in (array ds) = if nat_le (items_len ds) 6 then faults_in ds >>= set_in else Err Form
answer_in _ = Err Form

abbrev pub format_in : Data → Reading ℕ
format_in d = whole_in d >>= (λ n. checked OutOfRange ((n == 1) || (n == 2)) n)

-- Objects

-- what is made of three values, where all are there
abbrev pub all_three : {A : Type 0} → (Data → Data → Data → A) → Option Data → Option Data → Option Data → Option A
all_three made (Some x) (Some y) (Some z) = Some (made x y z)
all_three made _ _ _ = None

-- the value of an object whose one key this is
abbrev pub one_in : List ℕ → Data → Option Data
one_in key (object ms) = if members_len ms == 1 then get_member key ms else None
one_in key _ = None

-- what is made of the values of an object whose three keys these are
abbrev pub three_in : {A : Type 0} → (Data → Data → Data → A) → List ℕ → List ℕ → List ℕ → Data → Option A
three_in made a b c (object ms) = if members_len ms == 3 then all_three made (get_member a ms) (get_member b ms) (get_member c ms) else None
three_in made a b c _ = None

-- the parts of a branch, as they are written
pub record BranchData : Type 0 where
  pub edges : Data
  pub kids : Data
  pub reach : Data

abbrev pub branch_parts : Data → Option BranchData
branch_parts = three_in (λ e k r. record { edges = e; kids = k; reach = r }) (codes "edges") (codes "kids") (codes "reach")

-- the parts of a tree, as they are written
pub record TreeData : Type 0 where
  pub answer : Data
  pub format : Data
  pub root : Data

abbrev pub tree_parts : Data → Option TreeData
tree_parts = three_in (λ a f r. record { answer = a; format = f; root = r }) (codes "answer") (codes "format") (codes "root")

-- Nodes

abbrev pub leaf_in : Data → Reading Node
leaf_in (boolean true) = Ok nodes.Misses
leaf_in (boolean false) = Ok nodes.Reaches
leaf_in _ = Err Form

abbrev pub kids_in : (Data → Reading Node) → Data → Reading (List Node)
kids_in read (array ds) = all_in read ds
kids_in read _ = Err Form

-- the branch of its parts
abbrev pub branch_in : (Data → Reading Node) → BranchData → Reading Node
branch_in read parts = do
  edges ← edges_in parts.edges
  reach ← reach_in parts.reach
  kids ← kids_in read parts.kids
  Ok (nodes.Branch reach edges kids)

-- a leaf, or a branch
abbrev pub leaf_or : (BranchData → Reading Node) → Option Data → Option BranchData → Reading Node
leaf_or branch (Some d) parts = leaf_in d
leaf_or branch None (Some parts) = branch parts
leaf_or branch None None = Err Form

abbrev pub node_with : (BranchData → Reading Node) → Data → Reading Node
node_with branch d = leaf_or branch (one_in (codes "misses") d) (branch_parts d)

-- a node in which so many branches may stand one in the other
unfoldable pub node_in : ℕ → Data → Reading Node
node_in zero d = node_with (λ parts. Err TooDeep) d
node_in (suc room) d = node_with (branch_in (node_in room)) d

-- the most branches that may stand one in the other
abbrev pub most_branches : ℕ
most_branches = 6

-- Trees

-- the tree of its parts
abbrev pub parts_in : TreeData → Reading Tree
parts_in parts = do
  answer ← answer_in parts.answer
  format ← format_in parts.format
  root ← node_in most_branches parts.root
  Ok (record { answer = answer; root = root })

-- the tree of a value. What the format says is judged with the text
abbrev pub tree_in : Data → Reading Tree
tree_in d = some_or Form (tree_parts d) >>= parts_in
