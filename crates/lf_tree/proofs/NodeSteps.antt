-- How a node is read.
use Rattle.std.proofs.Common.{◌≡◌, ◌≢◌, ℕ, zero, suc, ◌-◌, List, Option, Some, None, Ok, Err, codes, IfOk, IfErr, refl, ap, ap₂, ◌∙◌, arith}
use Rattle.serde_json.specs.Data.{Data}
use Rattle.lf_faults.specs.declared.fault.Parts.{Parts}
use Rattle.lf_tree.specs.declared.fault.TreeFault.{TreeFault}
use Rattle.lf_tree.specs.declared.fault.TreeFault.TheVariants.{Form, TooDeep, Memory}
use Rattle.lf_tree.specs.declared.tree.Node.{Node}
use Rattle.lf_tree.specs.declared.tree.Node.TheVariants as kind
use Rattle.lf_tree.specs.Reading.{◌>>=◌, edges_in, kids_in, reach_in}
use Rattle.lf_tree.specs.Reading.{BranchData, Reading, one_in, branch_parts, leaf_in, leaf_or, branch_in, node_in}

abbrev misses_in : Data → Option Data
misses_in d = one_in (codes "misses") d

pub node_in-leaf : (room : ℕ) (d m : Data) → misses_in d ≡ Some m → node_in room d ≡ leaf_in m
unfolding node_in
node_in-leaf zero d m is = ap (λ o. leaf_or (λ parts. Err TooDeep) o (branch_parts d)) is
node_in-leaf (suc room) d m is = ap (λ o. leaf_or (branch_in (node_in room)) o (branch_parts d)) is

pub node_in-form : (room : ℕ) (d : Data) → misses_in d ≡ None → branch_parts d ≡ None → node_in room d ≡ Err Form
unfolding node_in
node_in-form zero d no_leaf none = ap₂ (leaf_or (λ parts. Err TooDeep)) no_leaf none
node_in-form (suc room) d no_leaf none = ap₂ (leaf_or (branch_in (node_in room))) no_leaf none

pub node_in-deep : (room : ℕ) (d : Data) (parts : BranchData) → misses_in d ≡ None → branch_parts d ≡ Some parts → room ≡ 0
    → node_in room d ≡ Err TooDeep
unfolding node_in
node_in-deep zero d parts no_leaf is full = ap₂ (leaf_or (λ parts. Err TooDeep)) no_leaf is
node_in-deep (suc room) d parts no_leaf is full = absurd (omega arith)

pub node_in-branch : (room : ℕ) (d : Data) (parts : BranchData) → misses_in d ≡ None → branch_parts d ≡ Some parts → room ≢ 0
    → node_in room d ≡ branch_in (node_in (room - 1)) parts
unfolding node_in
node_in-branch zero d parts no_leaf is some = absurd (some refl)
node_in-branch (suc room) d parts no_leaf is some =
    let e : room ≡ suc room - 1 = omega arith in
    ap₂ (leaf_or (branch_in (node_in room))) no_leaf is ∙ ap (λ n. branch_in (node_in n) parts) e

-- a branch of which all is read, and one whose kids are wrong
with_kids : (read : Data → Reading Node) (parts : BranchData) (es : List Parts) (rs : List ℕ) → edges_in parts.edges ≡ Ok es
    → reach_in parts.reach ≡ Ok rs → branch_in read parts ≡ (kids_in read parts.kids >>= (λ ns. Ok (kind.Branch rs es ns)))
with_kids read parts es rs edges reach = rw (edges, reach) refl

pub branch_in-all : (read : Data → Reading Node) (parts : BranchData) (es : List Parts) (rs : List ℕ) (ns : List Node)
    → edges_in parts.edges ≡ Ok es → reach_in parts.reach ≡ Ok rs → kids_in read parts.kids ≡ Ok ns → branch_in read parts ≡ Ok (kind.Branch rs es ns)
branch_in-all read parts es rs ns edges reach kids = with_kids read parts es rs edges reach ∙ ap (λ r. r >>= (λ ns. Ok (kind.Branch rs es ns))) kids

pub branch_in-wrong : (read : Data → Reading Node) (parts : BranchData) (es : List Parts) (rs : List ℕ) (e : TreeFault)
    → edges_in parts.edges ≡ Ok es → reach_in parts.reach ≡ Ok rs → kids_in read parts.kids ≡ Err e → branch_in read parts ≡ Err e
branch_in-wrong read parts es rs e edges reach kids = with_kids read parts es rs edges reach ∙ ap (λ r. r >>= (λ ns. Ok (kind.Branch rs es ns))) kids

-- what is said of a reading says the same of one that is equal
pub ok_of : {A : Type 0} (r read whole : Reading A) → whole ≡ read → IfOk r (λ x. read ≡ Ok x) → IfOk r (λ x. whole ≡ Ok x)
ok_of (Ok x) read whole same h = same ∙ h
ok_of (Err e) read whole same h = tt

pub err_of : {A : Type 0} (r read whole : Reading A) → whole ≡ read → IfErr r (λ e. e ≢ Memory → read ≡ Err e) → IfErr r (λ e. e ≢ Memory → whole ≡ Err e)
err_of (Ok x) read whole same h = tt
err_of (Err e) read whole same h = λ other. same ∙ h other

pub ok_same : {A : Type 0} (r whole : Reading A) → whole ≡ r → IfOk r (λ x. whole ≡ Ok x)
ok_same (Ok x) whole same = same
ok_same (Err e) whole same = tt

pub err_same : {A : Type 0} (r whole : Reading A) → whole ≡ r → IfErr r (λ e. e ≢ Memory → whole ≡ Err e)
err_same (Ok x) whole same = tt
err_same (Err e) whole same = λ other. same
