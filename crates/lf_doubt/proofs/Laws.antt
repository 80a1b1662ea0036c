-- What crates above may cite of this one beside its contracts.
use Rattle.std.proofs.Common.{◌≡◌, ℕ, false}
use Rattle.std.specs.List.{Contains}
use Rattle.lf_faults.specs.declared.spec.Bounds.{Bounds}
use Rattle.lf_mutations.specs.declared.mutation.Mutation.{Mutation}
use Rattle.lf_mutations.specs.declared.mutation.Mutation.TheVariants as those
use Rattle.lf_doubt.specs.declared.change.Change.{Change}
use Rattle.lf_doubt.specs.declared.ground.Ground.{Ground}
use Rattle.lf_doubt.specs.declared.ground.Stake.{Stake}
use Rattle.lf_doubt.specs.declared.question.Question.TheVariants as asks
use Rattle.lf_doubt.specs.Bounds.{IsLarger, bounds_asked}
use Rattle.lf_doubt.specs.Questions.{is_starting, questions_of, times_in}
use Rattle.lf_doubt.proofs.AskedLemmas as asked

module _ (g : Ground) where
  -- each change of a rule is asked, and no other
  pub rule-in : (m : Mutation) → Contains g.mutations.now m → Contains (questions_of g) (asks.Rule m)
  rule-in = asked.rule-in g

  pub only-rules : (m : Mutation) → Contains (questions_of g) (asks.Rule m) → Contains g.mutations.now m
  only-rules = asked.only-rules g

  -- in how many runs a rule is taken is asked of each that may never be, but those of the start
  pub taken-in : (rule : ℕ) → Contains g.mutations.now (those.Never rule) → is_starting g.starting.now rule ≡ false
      → Contains (questions_of g) (asks.Taken rule (times_in g.taken.now rule) g.runs)
  taken-in = asked.taken-in g

  -- and what was counted of each part
  pub part-in : (stake : Stake) → Contains g.stakes.now stake → Contains (questions_of g) (asks.Part stake)
  part-in = asked.part-in g

-- a change of a bound makes it larger, within the limits
pub bounds-grow : (b : Bounds) (change : Change) → Contains (bounds_asked b) (asks.With change) → IsLarger b change
bounds-grow = asked.grows
