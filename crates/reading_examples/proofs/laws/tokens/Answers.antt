use Rattle.std.proofs.Common.{ℕ, suc, ◌+◌, ◌<◌, Result, Ok, Err, IfOk, arith}
use Rattle.lf_grammar.specs.Expressions as expressions
use Rattle.lf_promises.specs.Promises as promises
use Rattle.reading_examples.proofs.laws.tokens.Goals as goal

more : (s : ℕ) → s < 91 + s
more s = omega arith

one : (s : ℕ) → s < suc s
one s = omega arith

-- what is so of all values is so of one that there is
of_all : {A E : Type 0} (r : Result A E) (P : A → Type 0) → ((x : A) → P x) → IfOk r P
of_all (Ok x) P all = all x
of_all (Err e) P all = tt

pub returns-clause-expressions : goal.returns-clause-expressions
returns-clause-expressions c =
    of_all c.read_tokens.result _ (λ ts at next. c.enough_steps_read_the_same.ensures at (suc (expressions.steps next ts.items))
    (91 + expressions.steps next ts.items) next ts.items (one (expressions.steps next ts.items)) (more (expressions.steps next ts.items)))

pub returns-clause-promises : goal.returns-clause-promises
returns-clause-promises c =
    of_all c.read_tokens.result _ (λ ts at timed next. c.enough_steps_read_the_same-2.ensures at (suc (promises.steps next ts.items))
    (91 + promises.steps next ts.items) timed next ts.items (one (promises.steps next ts.items)) (more (promises.steps next ts.items)))
