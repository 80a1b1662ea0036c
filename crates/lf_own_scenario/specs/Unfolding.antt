-- The formula that a promise is, in a scenario.
use Rattle.std.specs.Prelude.{ℕ, ◌+◌, Bool, true, ◌&&◌, nat_le, nat_lt, if◌then◌else◌, List, [], ◌∷◌, map, Result, Ok, Err}
use Rattle.std.specs.List.{flat_map, list_all, range_with_len}
use Rattle.lf_protocols.specs.declared.fact.Fact.{Fact}
use Rattle.lf_outcome.specs.declared.formula.Formula.{Formula}
use Rattle.lf_outcome.specs.declared.formula.Formula.TheVariants as kind
use Rattle.lf_outcome.specs.Measures.{depth_of, atoms_of}
use Rattle.lf_promises.specs.declared.promise.Promise.{Promise, fold-Promise}
use Rattle.lf_promises.specs.declared.promise.Promise.TheOpen.{Promise-F}
use Rattle.lf_own_scenario.specs.declared.error.UnfoldError.{UnfoldError}
use Rattle.lf_own_scenario.specs.declared.error.UnfoldError.TheVariants as refusals
use Rattle.lf_own_scenario.specs.declared.scene.Scene.{Scene}
use Rattle.lf_own_scenario.specs.Members.{members}
use Rattle.lf_own_scenario.specs.Quantities.{ruled, so_many}
use Rattle.lf_own_scenario.specs.Topics.{count_topics, numbered}

-- a formula for each step
abbrev pub Stepwise : Type 0
Stepwise = ℕ → Formula Fact

-- what a part comes to: how many topics it has, and its formula by the number of the first of them
pub record Part : Type 0 where
  pub topics : ℕ
  pub formula : ℕ → Stepwise

-- how many topics parts have together
abbrev pub count_parts : List Part → ℕ
count_parts [] = 0
count_parts (p ∷ ps) = p.topics + count_parts ps

-- each of them at a step, numbered on from those to the left of it, and each of them at each of the steps
abbrev pub each_at : List Part → ℕ → ℕ → List (Formula Fact)
each_at [] first t = []
each_at (p ∷ ps) first t = p.formula first t ∷ each_at ps (first + p.topics) t

abbrev pub each_always : ℕ → List Part → ℕ → List (Formula Fact)
each_always horizon parts first = flat_map (each_at parts first) (range_with_len 1 horizon)

-- one level, with what each part comes to in its place
abbrev pub unfold_step : Scene → Promise-F Part → Part
unfold_step s (Promise-F.All parts) = record { topics = count_parts parts; formula = λ first t. kind.All (each_at parts first t) }
unfold_step s (Promise-F.Any parts) = record { topics = count_parts parts; formula = λ first t. kind.Any (each_at parts first t) }
unfold_step s (Promise-F.Always parts) = record { topics = count_parts parts; formula = λ first t. kind.All (each_always s.horizon parts first) }
unfold_step s (Promise-F.Ever parts) = record { topics = count_parts parts; formula = λ first t. kind.Any (each_always s.horizon parts first) }
unfold_step s (Promise-F.Nodes many fact of) = record { topics = 0; formula = λ first t. so_many many t fact (members s of) }
unfold_step s (Promise-F.Down n) = record { topics = 0; formula = λ first t. kind.Down n t }
unfold_step s (Promise-F.At n fact) = record { topics = 0; formula = λ first t. kind.Shows n t (ruled fact) }
unfold_step s (Promise-F.One topic) = record { topics = 1; formula = λ first t. kind.One s.nodes s.horizon first }

abbrev pub part_of : Scene → Promise → Part
part_of s = fold-Promise Part (unfold_step s)

-- the formula of a promise whose first topic has a number, at a step
abbrev pub formula_at : Scene → ℕ → Promise → Stepwise
formula_at s first promise = (part_of s promise).formula first

-- the formulas of parts in order, the first topic of which has a number, at a step
abbrev pub formulas_at : Scene → ℕ → List Promise → ℕ → List (Formula Fact)
formulas_at s first parts t = map (λ x. formula_at s x.first x.promise t) (numbered first parts)

-- one level, with the truth of each part in its place
abbrev pub names_step : ℕ → Promise-F Bool → Bool
names_step nodes (Promise-F.All parts) = list_all (λ b. b) parts
names_step nodes (Promise-F.Any parts) = list_all (λ b. b) parts
names_step nodes (Promise-F.Always parts) = list_all (λ b. b) parts
names_step nodes (Promise-F.Ever parts) = list_all (λ b. b) parts
names_step nodes (Promise-F.Nodes many fact of) = true
names_step nodes (Promise-F.Down n) = nat_lt n nodes
names_step nodes (Promise-F.At n fact) = nat_lt n nodes
names_step nodes (Promise-F.One topic) = true

-- each node that it names by its number is one of so many
abbrev pub names_nodes : ℕ → Promise → Bool
names_nodes nodes = fold-Promise Bool (names_step nodes)

-- not too deep, and without too many atoms
unfoldable pub limited : Formula Fact → Result (Formula Fact) UnfoldError
limited formula = if nat_le (depth_of formula) 8 && nat_le (atoms_of formula) 4096 then Ok formula else Err refusals.TooLarge

-- the same, without too many topics
unfoldable pub asked_of : ℕ → Formula Fact → Result (Formula Fact) UnfoldError
asked_of topics formula = if nat_le topics 256 then limited formula else Err refusals.TooLarge
