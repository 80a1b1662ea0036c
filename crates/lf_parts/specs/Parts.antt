-- What the parts of a promise say.
use Rattle.std.specs.Prelude.{ℕ, ◌+◌, Bool, true, false, List, [], ◌∷◌, length}
use Rattle.lf_rules.specs.declared.topic.Topic.{Topic}
use Rattle.lf_promises.specs.declared.promise.Many.{Many}
use Rattle.lf_promises.specs.declared.promise.Many.TheVariants as manys
use Rattle.lf_promises.specs.declared.promise.Promise.{Promise}
use Rattle.lf_parts.specs.declared.leaf.Leaf.{Leaf}
use Rattle.lf_parts.specs.declared.leaf.Leaf.TheVariants as kinds
use Rattle.lf_parts.specs.declared.part.Part.{Part}
use Rattle.lf_parts.specs.declared.part.Part.TheVariants as parts
use Rattle.lf_parts.specs.Leaves.{leaves}

abbrev pub part_of_many : Many → Part
part_of_many manys.Each = parts.Each
part_of_many manys.No = parts.No
part_of_many manys.Some = parts.Some
part_of_many manys.AtMostOne = parts.AtMostOne

-- what a leaf says, with the number of its topic
abbrev pub part_of : ℕ → Leaf → Part
part_of number (kinds.Nodes many fact of) = part_of_many many
part_of number (kinds.At n fact) = parts.At n
part_of number (kinds.One topic) = parts.One number

-- the topic of a leaf, if it has one
abbrev pub topics_of : Leaf → List Topic
topics_of (kinds.One topic) = topic ∷ []
topics_of other = []

-- what leaves in order say, where topics are numbered on from a number
abbrev pub parts_from : ℕ → List Leaf → List Part
parts_from number [] = []
parts_from number (x ∷ xs) = part_of number x ∷ parts_from (number + length (topics_of x)) xs

-- the parts of a promise, from the left
abbrev pub parts_of : Promise → List Part
parts_of p = parts_from 0 (leaves p)

-- a part asks for one value
abbrev pub is_one_value : Part → Bool
is_one_value (parts.One number) = true
is_one_value other = false
