use Rattle.std.proofs.Common.{not, ◌&&◌, ◌||◌, nat_le, nat_eq}
use Rattle.std.specs.Prelude.{nat_lt}
use Rattle.lf_rule_machine.specs.Sets.{has}
use Rattle.lf_rule_machine.proofs.SetsLemmas.{has-those, has-far}
use Rattle.lf_rule_machine.proofs.set_laws.sets_have_their_members.Goals as goal

pub returns-clause-either : goal.returns-clause-either
returns-clause-either c = λ s g n h. has-those (λ m. has s m || has g m) n h

pub returns-clause-both : goal.returns-clause-both
returns-clause-both c = λ s g n h. has-those (λ m. has s m && has g m) n h

pub returns-clause-without : goal.returns-clause-without
returns-clause-without c = λ s g n h. has-those (λ m. has s m && not (has g m)) n h

pub returns-clause-below : goal.returns-clause-below
returns-clause-below c = λ m n h. has-those (λ k. nat_lt k m) n h

pub returns-clause-between : goal.returns-clause-between
returns-clause-between c = λ nodes a b n h. has-those (λ k. nat_le a k && (nat_le k b && nat_lt k nodes)) n h

pub returns-clause-only : goal.returns-clause-only
returns-clause-only c = λ nodes m n h. has-those (λ k. nat_eq k m && nat_lt k nodes) n h

pub returns-clause-far : goal.returns-clause-far
returns-clause-far c = λ s n h. has-far s n h
