-- What crates above may cite of this one beside its contracts: the leaves of a promise, by what it is, the parts that they are, and what questions name.
use Rattle.std.proofs.Common.{◌≡◌, ℕ, true, List, [], ◌∷◌, length, Option, Some, take, slice_get}
use Rattle.std.specs.List.{flat_map}
use Rattle.lf_rules.specs.Terms.{Term}
use Rattle.lf_rules.specs.declared.definition.Definition.{Definition}
use Rattle.lf_rules.specs.declared.topic.Topic.{Topic}
use Rattle.lf_rule_machine.specs.declared.fact.Fact.{Fact}
use Rattle.lf_promises.specs.declared.promise.Many.{Many}
use Rattle.lf_promises.specs.declared.promise.Promise.{Promise}
use Rattle.lf_promises.specs.declared.promise.Promise.TheVariants as promises
use Rattle.lf_promises.specs.Facts.{names_facts}
use Rattle.lf_parts.specs.declared.leaf.Leaf.{Leaf}
use Rattle.lf_parts.specs.declared.leaf.Leaf.TheVariants as kinds
use Rattle.lf_parts.specs.declared.part.Part.TheVariants as parts
use Rattle.lf_parts.specs.Leaves.{leaves}
use Rattle.lf_parts.specs.Parts.{part_of, parts_of, topics_of}
use Rattle.lf_parts.specs.Questions.{asked}
use Rattle.lf_parts.proofs.LeafLemmas as leafing
use Rattle.lf_parts.proofs.PartLemmas as parting
use Rattle.lf_parts.proofs.QuestionLemmas as questions

-- the leaves of a promise with parts are theirs, from the left
pub leaves-All : (ps : List Promise) → leaves (promises.All ps) ≡ flat_map leaves ps
leaves-All = leafing.leaves-All

pub leaves-Any : (ps : List Promise) → leaves (promises.Any ps) ≡ flat_map leaves ps
leaves-Any = leafing.leaves-Any

pub leaves-Always : (ps : List Promise) → leaves (promises.Always ps) ≡ flat_map leaves ps
leaves-Always = leafing.leaves-Always

pub leaves-Ever : (ps : List Promise) → leaves (promises.Ever ps) ≡ flat_map leaves ps
leaves-Ever = leafing.leaves-Ever

-- and one without is one leaf, or none where a node is to be down
pub leaves-Nodes : (many : Many) (fact : Fact) (of : Option Term) → leaves (promises.Nodes many fact of) ≡ kinds.Nodes many fact of ∷ []
leaves-Nodes = leafing.leaves-Nodes

pub leaves-Down : (n : ℕ) → leaves (promises.Down n) ≡ []
leaves-Down = leafing.leaves-Down

pub leaves-At : (n : ℕ) (fact : Fact) → leaves (promises.At n fact) ≡ kinds.At n fact ∷ []
leaves-At = leafing.leaves-At

pub leaves-One : (topic : Topic) → leaves (promises.One topic) ≡ kinds.One topic ∷ []
leaves-One = leafing.leaves-One

-- there are as many parts as leaves, and each says what the leaf with its place does
pub as_many : (p : Promise) → length (parts_of p) ≡ length (leaves p)
as_many = parting.as_many

pub each_part : (p : Promise) (i : ℕ) (x : Leaf) → slice_get (leaves p) i ≡ Some x
    → slice_get (parts_of p) i ≡ Some (part_of (length (flat_map topics_of (take i (leaves p)))) x)
each_part = parting.each_part

-- a part that asks for one value has the number of its topic among those of the promise
pub numbered : (p : Promise) (i number : ℕ) (topic : Topic) → slice_get (leaves p) i ≡ Some (kinds.One topic)
    → slice_get (parts_of p) i ≡ Some (parts.One number) → slice_get (flat_map topics_of (leaves p)) number ≡ Some topic
numbered = parting.numbered

-- questions name facts of the definition alone, where the promise does
pub questions-named : (d : Definition) (p q : Promise) (i : ℕ) → names_facts d p ≡ true → asked p i ≡ Some q → names_facts d q ≡ true
questions-named = questions.questions-named
