-- The formula of a promise as it is made: `always` and `ever` over the span of all steps, so that it is of the size of the promise. Unfolded it is
-- `formula_at`.
use Rattle.std.specs.Prelude.{ℕ, ◌+◌, Bool, true, false, ◌&&◌, nat_le, if◌then◌else◌, List, [], ◌∷◌, map, Result, Err}
use Rattle.std.specs.List.{flat_map, list_all, range_with_len}
use Rattle.lf_protocols.specs.declared.fact.Fact.{Fact}
use Rattle.lf_outcome.specs.declared.formula.Formula.{Formula}
use Rattle.lf_outcome.specs.declared.formula.Formula.TheVariants as kind
use Rattle.lf_outcome.specs.Unfolding.{joined}
use Rattle.lf_promises.specs.declared.promise.Promise.{Promise, fold-Promise}
use Rattle.lf_promises.specs.declared.promise.Promise.TheOpen.{Promise-F}
use Rattle.lf_own_scenario.specs.declared.error.UnfoldError.{UnfoldError}
use Rattle.lf_own_scenario.specs.declared.error.UnfoldError.TheVariants as refusals
use Rattle.lf_own_scenario.specs.declared.scene.Scene.{Scene}
use Rattle.lf_own_scenario.specs.Members.{members}
use Rattle.lf_own_scenario.specs.Quantities.{ruled, so_many}
use Rattle.lf_own_scenario.specs.Topics.{count_topics, numbered}
use Rattle.lf_own_scenario.specs.Unfolding.{Stepwise, asked_of, names_nodes}

-- one level, with whether each part is of one step in its place
abbrev pub steady_step : Promise-F Bool → Bool
steady_step (Promise-F.All parts) = list_all (λ b. b) parts
steady_step (Promise-F.Any parts) = list_all (λ b. b) parts
steady_step (Promise-F.Always parts) = false
steady_step (Promise-F.Ever parts) = false
steady_step (Promise-F.Nodes many fact of) = true
steady_step (Promise-F.Down n) = true
steady_step (Promise-F.At n fact) = true
steady_step (Promise-F.One topic) = true

-- no `always` and no `ever` is in the promise: it speaks of the step at which it is said
abbrev pub is_steady : Promise → Bool
is_steady = fold-Promise Bool steady_step

-- what a part comes to: how many topics it has, whether it is of one step, and its formula by the number of the first topic
pub record Spanned : Type 0 where
  pub topics : ℕ
  pub steady : Bool
  pub formula : ℕ → Stepwise

-- how many topics parts have together
abbrev pub count_spanned : List Spanned → ℕ
count_spanned [] = 0
count_spanned (p ∷ ps) = p.topics + count_spanned ps

-- each of them at a step, numbered on from those to the left of it, and each of them at each of the steps
abbrev pub each_spanned : List Spanned → ℕ → ℕ → List (Formula Fact)
each_spanned [] first t = []
each_spanned (p ∷ ps) first t = p.formula first t ∷ each_spanned ps (first + p.topics) t

abbrev pub each_repeated : ℕ → List Spanned → ℕ → List (Formula Fact)
each_repeated horizon parts first = flat_map (each_spanned parts first) (range_with_len 1 horizon)

-- whether each of them is of one step
abbrev pub all_steady : List Spanned → Bool
all_steady parts = list_all (λ p. p.steady) parts

-- they can be said over the span of the steps: each part is of one step, as what is said of all steps within a part isn't counted from the step at which it
-- stands, and no step is past those of formulas
abbrev pub is_span : ℕ → Bool → Bool
is_span horizon steady = nat_le horizon 4294967295 && steady

-- all or some of the parts at all steps: over their span, or one by one
abbrev pub over_steps : Bool → ℕ → Bool → List (Formula Fact) → List (Formula Fact) → Formula Fact
over_steps every horizon true parts each = kind.Over every 1 horizon parts
over_steps every horizon false parts each = joined every each

-- one level, with what each part comes to in its place
abbrev pub span_step : Scene → Promise-F Spanned → Spanned
span_step s (Promise-F.All parts) =
    record { topics = count_spanned parts; steady = all_steady parts; formula = λ first t. kind.All (each_spanned parts first t) }
span_step s (Promise-F.Any parts) =
    record { topics = count_spanned parts; steady = all_steady parts; formula = λ first t. kind.Any (each_spanned parts first t) }
span_step s (Promise-F.Always parts) = record {
  topics = count_spanned parts;
  steady = false;
  formula = λ first t. over_steps true s.horizon (is_span s.horizon (all_steady parts)) (each_spanned parts first 0) (each_repeated s.horizon parts first);
}
span_step s (Promise-F.Ever parts) = record {
  topics = count_spanned parts;
  steady = false;
  formula = λ first t. over_steps false s.horizon (is_span s.horizon (all_steady parts)) (each_spanned parts first 0) (each_repeated s.horizon parts first);
}
span_step s (Promise-F.Nodes many fact of) = record { topics = 0; steady = true; formula = λ first t. so_many many t fact (members s of) }
span_step s (Promise-F.Down n) = record { topics = 0; steady = true; formula = λ first t. kind.Down n t }
span_step s (Promise-F.At n fact) = record { topics = 0; steady = true; formula = λ first t. kind.Shows n t (ruled fact) }
span_step s (Promise-F.One topic) = record { topics = 1; steady = true; formula = λ first t. kind.One s.nodes s.horizon first }

abbrev pub spanned_part : Scene → Promise → Spanned
spanned_part s = fold-Promise Spanned (span_step s)

-- the formula of a promise whose first topic has a number, at a step
abbrev pub spanned_at : Scene → ℕ → Promise → Stepwise
spanned_at s first promise = (spanned_part s promise).formula first

-- the formulas of parts in order, the first topic of which has a number, at a step
abbrev pub all_spanned : Scene → ℕ → List Promise → ℕ → List (Formula Fact)
all_spanned s first parts t = map (λ x. spanned_at s x.first x.promise t) (numbered first parts)

-- the formula of a promise at the last step, with its topics numbered from 0
unfoldable pub unfolded : Scene → Promise → Result (Formula Fact) UnfoldError
unfolded s promise = if names_nodes s.nodes promise then asked_of (count_topics promise) (spanned_at s 0 promise s.horizon) else Err refusals.NoNode
