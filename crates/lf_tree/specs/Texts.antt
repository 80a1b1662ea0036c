-- How a tree is written: compact JSON, keys in byte order, no blank and no line feed.
use Rattle.std.specs.Prelude.{ℕ, ◌≤◌, ◌+◌, Bool, true, false, ◌||◌, List, [], ◌∷◌, ◌++◌, length, codes, map, max, Option, None, Some, if◌then◌else◌}
use Rattle.std.specs.Fmt.{decimal}
use Rattle.std.specs.List.{list_any, fold}
use Rattle.lf_faults.specs.declared.fault.Parts.{Parts}
use Rattle.lf_faults.specs.declared.fault.Parts.TheVariants.{Omit, Crash, Pause}
use Rattle.lf_faults.specs.Texts.{spelling}
use Rattle.lf_tree.specs.declared.tree.Tree.{Tree}
use Rattle.lf_tree.specs.declared.tree.Node.{Node, fold-Node}
use Rattle.lf_tree.specs.declared.tree.Node.TheOpen.{Node-F}

-- the texts, a comma between any two
abbrev pub with_commas : List (List ℕ) → List ℕ
with_commas [] = []
with_commas (text ∷ []) = text
with_commas (text ∷ next ∷ texts) = text ++ (codes "," ++ with_commas (next ∷ texts))

-- a list of JSON: the texts of its items in brackets
abbrev pub in_brackets : List (List ℕ) → List ℕ
in_brackets texts = codes "[" ++ (with_commas texts ++ codes "]")

-- a fault: its text in quotes. No letter of it needs an escape
abbrev pub quoted : Parts → List ℕ
quoted f = codes "\"" ++ (spelling f ++ codes "\"")

-- the faults of a list
abbrev pub faults_text : List Parts → List ℕ
faults_text faults = in_brackets (map quoted faults)

-- one level, with the text of each kid in its place
abbrev pub node_step : Node-F (List ℕ) → List ℕ
node_step Node-F.Misses = codes "{\"misses\":true}"
node_step Node-F.Reaches = codes "{\"misses\":false}"
node_step (Node-F.Branch reach edges kids) =
    codes "{\"edges\":" ++ (faults_text edges ++ (codes ",\"kids\":" ++ (in_brackets kids ++
    (codes ",\"reach\":" ++ (in_brackets (map decimal reach) ++ codes "}")))))

-- the text of a node
abbrev pub node_text : Node → List ℕ
node_text = fold-Node (List ℕ) node_step

-- the fault is a pause
abbrev pub is_pause : Parts → Bool
is_pause (Omit from to step) = false
is_pause (Crash node step) = false
is_pause (Pause node step) = true

-- one level, with for each kid whether an edge in it is a pause
abbrev pub pauses_step : Node-F Bool → Bool
pauses_step Node-F.Misses = false
pauses_step Node-F.Reaches = false
pauses_step (Node-F.Branch reach edges kids) = list_any is_pause edges || list_any (λ b. b) kids

-- whether an edge in the node is a pause
abbrev pub has_pause : Node → Bool
has_pause = fold-Node Bool pauses_step

-- the faults of an answer
abbrev pub answer_faults : Option (List Parts) → List Parts
answer_faults None = []
answer_faults (Some faults) = faults

-- the format of a tree's text: 2 where a fault of the tree is a pause, else 1
abbrev pub format_of : Tree → ℕ
format_of tree = if list_any is_pause (answer_faults tree.answer) || has_pause tree.root then 2 else 1

-- the answer of a tree: `null` where there is none
abbrev pub answer_text : Option (List Parts) → List ℕ
answer_text None = codes "null"
answer_text (Some faults) = faults_text faults

-- the one text of a tree, as bytes
abbrev pub tree_text : Tree → List ℕ
tree_text tree =
    codes "{\"answer\":" ++ (answer_text tree.answer ++ (codes ",\"format\":" ++ (decimal (format_of tree) ++
    (codes ",\"root\":" ++ (node_text tree.root ++ codes "}")))))

-- the most bytes of a tree's text
abbrev pub most_bytes : ℕ
most_bytes = 16777216

-- one level, with the depth of each kid in its place
abbrev pub depth_step : Node-F ℕ → ℕ
depth_step Node-F.Misses = 0
depth_step Node-F.Reaches = 0
depth_step (Node-F.Branch reach edges kids) = fold max 0 kids + 1

-- how many branches stand one in the other: 0 in a leaf
abbrev pub depth_of : Node → ℕ
depth_of = fold-Node ℕ depth_step

-- the tree is one that a text may give: at most six branches one in the other, and a text that isn't too long.
-- That a reach has 2 to 8 numbers up to 48, and an answer at most six faults in order, is kept by their types
pub record IsInRange (tree : Tree) : Type 0 where
  pub shallow : depth_of tree.root ≤ 6
  pub short : length (tree_text tree) ≤ most_bytes
