use mathlib.Core.Logic.{∥∥₁_elim}
use Rattle.std.proofs.Common.{arith}
use Rattle.std.specs.Coded.{le_prop}
use Rattle.lf_book.specs.Books.{scenario_of}
use Rattle.lf_certificate.specs.Accepted.{IsBounded}
use Rattle.lf_sim.specs.Settings.{world_of}
use Rattle.lf_book.proofs.alone_facts.books_are_closed.Goals as goal

pub returns-clause-bounded : goal.returns-clause-bounded
returns-clause-bounded c = rw (c.setting.ensures, c.scenario.ensures) at c.settings_are_bounded.ensures

pub returns-clause-high : goal.returns-clause-high
returns-clause-high c =
    let s = scenario_of c.args.book.now in
    let bounded : IsBounded (world_of s.setting) s.setting.spec = rw (c.setting.ensures, c.scenario.ensures) at c.settings_are_bounded.ensures in
    ∥∥₁_elim c.level-level.ensures.closed le_prop (λ k. omega (arith, k.within, bounded.limits.budget))

pub returns-clause-ended : goal.returns-clause-ended
returns-clause-ended c = λ finished. record {
  none = λ p is. ∥∥₁_elim c.level-level.ensures.closed (λ x y. absurd x) (λ k. (k.ended finished).done.none p is);
  free = λ t p is. ∥∥₁_elim c.level-level.ensures.closed (λ x y. absurd x) (λ k. (k.ended finished).done.free t p is);
}

pub returns-clause-kept : goal.returns-clause-kept
returns-clause-kept c =
    let most = rw c.scenario-2.ensures at c.max_sets-sets.ensures.value in
    omega (arith, most, c.max_sets-sets.ensures.some)

pub returns-clause-waiting : goal.returns-clause-waiting
returns-clause-waiting c = (c.counts-counts.result.waiting, c.counts-counts.ensures.waiting)
