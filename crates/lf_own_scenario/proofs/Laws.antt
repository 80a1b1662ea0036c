-- What crates above may cite of this one beside its contracts: the formula of a promise by what the promise is, and elements of lists.
use Rattle.std.proofs.Common.{◌≡◌, ℕ, ◌+◌, ◌<◌, ◌≤◌, Bool, true, List, [], ◌∷◌, filter, Option}
use Rattle.std.specs.Prelude.{nat_lt}
use Rattle.std.specs.List.{flat_map, list_all, list_any, range_with_len}
use Rattle.lf_rules.specs.Terms.{Term}
use Rattle.lf_rules.specs.declared.topic.Topic.{Topic}
use Rattle.lf_rule_machine.specs.declared.fact.Fact.{Fact as Told}
use Rattle.lf_outcome.specs.declared.formula.Formula.TheVariants as kind
use Rattle.lf_promises.specs.declared.promise.Many.{Many}
use Rattle.lf_promises.specs.declared.promise.Promise.{Promise}
use Rattle.lf_promises.specs.declared.promise.Promise.TheVariants as promises
use Rattle.lf_own_scenario.specs.declared.scene.Scene.{Scene}
use Rattle.lf_own_scenario.specs.Elements.{Member}
use Rattle.lf_own_scenario.specs.Members.{members}
use Rattle.lf_own_scenario.specs.Quantities.{ruled, so_many}
use Rattle.lf_own_scenario.specs.Topics.{topics_in}
use Rattle.lf_own_scenario.specs.Unfolding.{formula_at, formulas_at, names_nodes}
use Rattle.lf_own_scenario.proofs.MemberLemmas as elements
use Rattle.lf_own_scenario.proofs.TopicLemmas as topics
use Rattle.lf_own_scenario.proofs.UnfoldingLemmas as formulas

-- ---- the topics of a promise

-- of all parts: those of the parts, from the left
pub topics-All : (parts : List Promise) → topics_in (promises.All parts) ≡ flat_map topics_in parts
topics-All = topics.topics-All

-- of some part: those of the parts
pub topics-Any : (parts : List Promise) → topics_in (promises.Any parts) ≡ flat_map topics_in parts
topics-Any = topics.topics-Any

-- of parts at every step: those of the parts, once
pub topics-Always : (parts : List Promise) → topics_in (promises.Always parts) ≡ flat_map topics_in parts
topics-Always = topics.topics-Always

-- of a part at some step: those of the parts, once
pub topics-Ever : (parts : List Promise) → topics_in (promises.Ever parts) ≡ flat_map topics_in parts
topics-Ever = topics.topics-Ever

-- of what is to have one value: that alone
pub topics-One : (topic : Topic) → topics_in (promises.One topic) ≡ topic ∷ []
topics-One = topics.topics-One

-- ---- the formula of a promise, whose first topic has a number

module _ (s : Scene) where
  -- of all parts: all of their formulas at the step
  pub formula-All : (first : ℕ) (parts : List Promise) (t : ℕ) → formula_at s first (promises.All parts) t ≡ kind.All (formulas_at s first parts t)
  formula-All = formulas.formula-All s

  -- of some part: one of their formulas at the step
  pub formula-Any : (first : ℕ) (parts : List Promise) (t : ℕ) → formula_at s first (promises.Any parts) t ≡ kind.Any (formulas_at s first parts t)
  formula-Any = formulas.formula-Any s

  -- of parts at every step: all of their formulas at each of the steps
  pub formula-Always : (first : ℕ) (parts : List Promise) (t : ℕ) → formula_at s first (promises.Always parts) t
      ≡ kind.All (flat_map (formulas_at s first parts) (range_with_len 1 s.horizon))
  formula-Always = formulas.formula-Always s

  -- of a part at some step: one of their formulas at one of the steps
  pub formula-Ever : (first : ℕ) (parts : List Promise) (t : ℕ) → formula_at s first (promises.Ever parts) t
      ≡ kind.Any (flat_map (formulas_at s first parts) (range_with_len 1 s.horizon))
  formula-Ever = formulas.formula-Ever s

  -- of so many nodes: the formula of so many of those that are meant
  pub formula-Nodes : (first : ℕ) (many : Many) (fact : Told) (of : Option Term) (t : ℕ)
      → formula_at s first (promises.Nodes many fact of) t ≡ so_many many t fact (members s of)
  formula-Nodes = formulas.formula-Nodes s

  -- of a node that isn't up: that it isn't
  pub formula-Down : (first n t : ℕ) → formula_at s first (promises.Down n) t ≡ kind.Down n t
  formula-Down = formulas.formula-Down s

  -- of a node that shows a fact: that it shows it
  pub formula-At : (first n : ℕ) (fact : Told) (t : ℕ) → formula_at s first (promises.At n fact) t ≡ kind.Shows n t (ruled fact)
  formula-At = formulas.formula-At s

  -- of what is to have one value: that all nodes enter one for each key up to the last step, under the number
  pub formula-One : (first : ℕ) (topic : Topic) (t : ℕ) → formula_at s first (promises.One topic) t ≡ kind.One s.nodes s.horizon first
  formula-One = formulas.formula-One s

-- ---- that the nodes are there which a promise names by their numbers

module _ (nodes : ℕ) where
  -- for all parts: those of each part
  pub names-All : (parts : List Promise) → names_nodes nodes (promises.All parts) ≡ list_all (names_nodes nodes) parts
  names-All = formulas.names-All nodes

  -- for some part: those of each part
  pub names-Any : (parts : List Promise) → names_nodes nodes (promises.Any parts) ≡ list_all (names_nodes nodes) parts
  names-Any = formulas.names-Any nodes

  -- for parts at every step: those of each part
  pub names-Always : (parts : List Promise) → names_nodes nodes (promises.Always parts) ≡ list_all (names_nodes nodes) parts
  names-Always = formulas.names-Always nodes

  -- for a part at some step: those of each part
  pub names-Ever : (parts : List Promise) → names_nodes nodes (promises.Ever parts) ≡ list_all (names_nodes nodes) parts
  names-Ever = formulas.names-Ever nodes

  -- for a node that isn't up: that it is one of so many
  pub names-Down : (n : ℕ) → names_nodes nodes (promises.Down n) ≡ nat_lt n nodes
  names-Down = formulas.names-Down nodes

  -- for a node that shows a fact: that it is one of so many
  pub names-At : (n : ℕ) (fact : Told) → names_nodes nodes (promises.At n fact) ≡ nat_lt n nodes
  names-At = formulas.names-At nodes

-- ---- elements of lists

module _ {X : Type 0} where
  -- all pass where each element does
  pub all-from : (q : X → Bool) (xs : List X) → ((x : X) → Member xs x → q x ≡ true) → list_all q xs ≡ true
  all-from = elements.all-from

  -- one passes where some element does
  pub any-from : (q : X → Bool) (xs : List X) (x : X) → Member xs x → q x ≡ true → list_any q xs ≡ true
  any-from = elements.any-from

  -- what a filter keeps is an element, and passes
  pub kept-at : (p : X → Bool) (xs : List X) (x : X) → Member (filter p xs) x → Member xs x × (p x ≡ true)
  kept-at = elements.kept-at

  -- all that comes of each element passes where all that comes of each does
  pub all-flat : {Y : Type 0} (q : Y → Bool) (f : X → List Y) (xs : List X)
      → list_all q (flat_map f xs) ≡ list_all (λ x. list_all q (f x)) xs
  all-flat = elements.all-flat

-- a number of a range is within its ends
pub range-at : (k a n : ℕ) → Member (range_with_len a k) n → (a ≤ n) × (n < a + k)
range-at = elements.range-at

-- and a number within them is one of the range
pub range-from : (k a n : ℕ) → a ≤ n → n < a + k → Member (range_with_len a k) n
range-from = elements.range-from
