use Rattle.lf_own_scenario.proofs.OneLemmas.{refusal-one, refused-no-text}
use Rattle.lf_own_scenario.proofs.uniqueness.refusals_are_one.Goals as goal

pub returns-clause-one : goal.returns-clause-one
returns-clause-one c file text e f a b = refusal-one file text e f a b

pub returns-clause-none : goal.returns-clause-none
returns-clause-none c file text e s a t = refused-no-text file text e s a t
