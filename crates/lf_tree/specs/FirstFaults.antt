-- What is wrong with a text, and which of it comes first.
use Rattle.std.specs.Prelude.{◌≡◌, ℕ, ◌<◌, ◌≤◌, List, length, Some, Err, IsUtf8}
use Rattle.std.specs.Str.{bytes_eq}
use Rattle.serde_json.specs.Data.{Data}
use Rattle.serde_json.specs.Read.{read}
use Rattle.lf_tree.specs.declared.fault.TreeFault.{TreeFault}
use Rattle.lf_tree.specs.declared.fault.TreeFault.TheVariants.{TooLong, NoJson, Form, OutOfRange, TooDeep, Memory}
use Rattle.lf_tree.specs.declared.tree.Tree.{Tree}
use Rattle.lf_tree.specs.Texts.{tree_text, most_bytes}
use Rattle.lf_tree.specs.Reading.{Reading, ◌>>=◌, checked, tree_in}

-- the bytes are JSON, and stand for the value
abbrev pub IsJson : List ℕ → Data → Type 0
IsJson bytes d = IsUtf8 bytes × (read bytes ≡ Some d)

-- the tree, where the bytes are its one text
abbrev pub if_own : List ℕ → Tree → Reading Tree
if_own bytes tree = checked Form (bytes_eq (tree_text tree) bytes) tree

-- the tree of a value, where the bytes are its one text
abbrev pub written_in : List ℕ → Data → Reading Tree
written_in bytes d = tree_in d >>= if_own bytes

-- the bytes are not too long, and are JSON of which this is wrong first
abbrev pub IsWrong : List ℕ → TreeFault → Type 0
IsWrong bytes fault = (length bytes ≤ most_bytes) × ((d : Data) × IsJson bytes d × (written_in bytes d ≡ Err fault))

-- what is wrong with the bytes first: their length, then that they aren't JSON, then what their value says, and last that
-- they aren't the text of the tree
abbrev pub IsFirstFault : List ℕ → TreeFault → Type 0
IsFirstFault bytes TooLong = most_bytes < length bytes
IsFirstFault bytes NoJson = (length bytes ≤ most_bytes) × ((d : Data) → IsJson bytes d → ⊥)
IsFirstFault bytes Form = IsWrong bytes Form
IsFirstFault bytes OutOfRange = IsWrong bytes OutOfRange
IsFirstFault bytes TooDeep = IsWrong bytes TooDeep
IsFirstFault bytes Memory = ⊥
