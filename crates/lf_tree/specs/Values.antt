-- The JSON value of a tree.
use Rattle.std.specs.Prelude.{ℕ, true, false, List, map, codes, Option, None, Some}
use Rattle.serde_json.specs.Data.{Data, null, boolean, number, unsigned, string, array, object, no_members, member}
use Rattle.serde_json.specs.View.{items_of}
use Rattle.lf_faults.specs.declared.fault.Parts.{Parts}
use Rattle.lf_faults.specs.Texts.{spelling}
use Rattle.lf_tree.specs.declared.tree.Tree.{Tree}
use Rattle.lf_tree.specs.declared.tree.Node.{Node, fold-Node}
use Rattle.lf_tree.specs.declared.tree.Node.TheOpen.{Node-F}
use Rattle.lf_tree.specs.Texts.{format_of}

abbrev pub fault_value : Parts → Data
fault_value f = string (spelling f)

abbrev pub whole_value : ℕ → Data
whole_value n = number (unsigned n)

-- the list of the values
abbrev pub listed : List Data → Data
listed ds = array (items_of ds)

abbrev pub faults_value : List Parts → Data
faults_value faults = listed (map fault_value faults)

-- an object of three keys
abbrev pub keyed : List ℕ → Data → List ℕ → Data → List ℕ → Data → Data
keyed a x b y c z = object (member a x (member b y (member c z no_members)))

-- one level, with the value of each kid in its place
abbrev pub value_step : Node-F Data → Data
value_step Node-F.Misses = object (member (codes "misses") (boolean true) no_members)
value_step Node-F.Reaches = object (member (codes "misses") (boolean false) no_members)
value_step (Node-F.Branch reach edges kids) =
    keyed (codes "edges") (faults_value edges) (codes "kids") (listed kids) (codes "reach") (listed (map whole_value reach))

abbrev pub node_value : Node → Data
node_value = fold-Node Data value_step

abbrev pub answer_value : Option (List Parts) → Data
answer_value None = null
answer_value (Some faults) = faults_value faults

abbrev pub tree_value : Tree → Data
tree_value tree =
    keyed (codes "answer") (answer_value tree.answer) (codes "format") (whole_value (format_of tree)) (codes "root") (node_value tree.root)
