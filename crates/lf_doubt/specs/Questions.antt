-- All that is asked of what an answer hangs on.
use Rattle.std.specs.Prelude.{ℕ, ◌-◌, Bool, true, false, List, [], ◌∷◌, ◌++◌, map, Option, None, Some, slice_get}
use Rattle.std.specs.List.{flat_map}
use Rattle.lf_mutations.specs.declared.mutation.Mutation.{Mutation}
use Rattle.lf_mutations.specs.declared.mutation.Mutation.TheVariants as those
use Rattle.lf_doubt.specs.declared.change.Change.TheVariants as changes
use Rattle.lf_doubt.specs.declared.ground.Ground.{Ground}
use Rattle.lf_doubt.specs.declared.question.Question.{Question}
use Rattle.lf_doubt.specs.declared.question.Question.TheVariants as asks
use Rattle.lf_doubt.specs.Bounds.{bounds_asked, delays_asked}

-- a number that is there, or 0
abbrev pub or_none : Option ℕ → ℕ
or_none None = 0
or_none (Some n) = n

-- in how many runs the rule with a number is taken; the first count is of rule 1
abbrev pub times_in : List ℕ → ℕ → ℕ
times_in taken rule = or_none (slice_get taken (rule - 1))

-- a value that is there, or false
abbrev pub or_false : Option Bool → Bool
or_false None = false
or_false (Some is) = is

-- whether the rule with a number is one of the start
abbrev pub is_starting : List Bool → ℕ → Bool
is_starting starting rule = or_false (slice_get starting (rule - 1))

-- in how many runs a rule is taken is asked of one that isn't of the start, which no step takes
abbrev pub taken_asked : Bool → Question → List Question
taken_asked true q = []
taken_asked false q = q ∷ []

module _ (g : Ground) where
  abbrev pub times_of : ℕ → Question
  times_of rule = asks.Taken rule (times_in g.taken.now rule) g.runs

  -- each change is asked, and in how many runs its rule is taken before the first of a rule, which is that it is never taken
  abbrev pub rule_asked : Mutation → List Question
  rule_asked (those.Never rule) = taken_asked (is_starting g.starting.now rule) (times_of rule) ++ (asks.Rule (those.Never rule) ∷ [])
  rule_asked (those.Always rule) = asks.Rule (those.Always rule) ∷ []
  rule_asked (those.Unset rule place) = asks.Rule (those.Unset rule place) ∷ []
  rule_asked (those.Unsent rule place) = asks.Rule (those.Unsent rule place) ∷ []

-- whether a value passes its range, or a note is replaced: of a protocol of a file
abbrev pub model_asked : Bool → List Question
model_asked true = asks.With changes.NoneClamped ∷ asks.With changes.NoneReplaced ∷ []
model_asked false = []

-- all questions, in order
abbrev pub questions_of : Ground → List Question
questions_of g =
    asks.Given
    ∷ (flat_map (rule_asked g) g.mutations.now
    ++ (map asks.Part g.stakes.now ++ (bounds_asked g.bounds ++ (delays_asked g.has_spread ++ model_asked g.is_own))))
