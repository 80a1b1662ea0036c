use Rattle.std.proofs.Common.{◌∙◌, refl, sym, arith, true}
use Rattle.std.specs.Arc.{arc_value}
use mathlib.Core.Logic.{∥∥₁_elim, ∥∥₁_map, ∥∥₁_prop}
use Rattle.lf_certificate.specs.Accepted.{IsBounded}
use Rattle.lf_marks.specs.Marks.{mark_at, level_of}
use Rattle.lf_sim.specs.Settings.{world_of}
use Rattle.lf_certificate.specs.Events.{FindsAnswer, FindsNone, GoesDown}
use Rattle.lf_certificate.specs.States.{State}
use Rattle.lf_certificate.proofs.Laws.{answer_closed, none_closed, down_closed, down_first}
use Rattle.lf_book.specs.Books.{state_of}
use Rattle.lf_book.proofs.CountLemmas.{some-ready, some-claimed}
use Rattle.lf_book.proofs.StateLemmas.{all-done, few-waiting, full-again, none-misses, some-misses, level-within}
use Rattle.lf_book.proofs.book.Book.deepen.Goals as goal

pub returns-then-counts-gt0-clause-deepened : goal.returns-then-counts-gt0-clause-deepened
returns-then-counts-gt0-clause-deepened c =
    let m = c.args.self.now in
    let n = c.counts-counts.result in
    let at = mark_at m.marks in
    record {
      undone = λ d. some-ready at n.ready n.claimed n.answered n.waiting (omega arith) c.counts-counts.ensures.counts d.none;
      same = record { level = refl; next = refl; finished = refl; marks = λ q. refl };
    }

pub returns-then-counts-gt0-2-clause-deepened : goal.returns-then-counts-gt0-2-clause-deepened
returns-then-counts-gt0-2-clause-deepened c =
    let m = c.args.self.now in
    let n = c.counts-counts.result in
    let at = mark_at m.marks in
    record {
      undone = λ d. some-claimed at n.ready n.claimed n.answered n.waiting (omega arith) c.counts-counts.ensures.counts d.free;
      same = record { level = refl; next = refl; finished = refl; marks = λ q. refl };
    }

pub invariant_of-self : goal.invariant_of-self
invariant_of-self c =
    let m = c.args.self.now in
    let s = arc_value m.scenario in
    let n = c.counts-counts.result in
    let at = mark_at m.marks in
    let done = all-done at n.ready n.claimed n.answered n.waiting (omega arith) (omega arith) c.counts-counts.ensures.counts in
    let new : State = record { level = level_of m.marks; next = m.next; finished = true; marks = mark_at m.marks } in
    let e : FindsAnswer (state_of m) new = record {
      done = done;
      missing = some-misses (world_of s.setting) s.setting.spec s.formula s.max_sets (state_of m) m.closed m.least m.first
          (sym c.is_some.ensures ∙ c.if-is_some.true);
      ends = record { level = refl; next = refl; finished = refl; marks = λ q. refl };
    } in
    record {
      closed = ∥∥₁_map m.closed (λ k. answer_closed (world_of s.setting) s.setting.spec s.formula s.max_sets (state_of m) new k e);
      first = m.first;
      tickets = m.tickets;
    }

pub returns-then-is_some-clause-deepened : goal.returns-then-is_some-clause-deepened
returns-then-is_some-clause-deepened c =
    let m = c.args.self.now in
    let s = arc_value m.scenario in
    let n = c.counts-counts.result in
    let at = mark_at m.marks in
    let done = all-done at n.ready n.claimed n.answered n.waiting (omega arith) (omega arith) c.counts-counts.ensures.counts in
    let new : State = record { level = level_of m.marks; next = m.next; finished = true; marks = mark_at m.marks } in
    let e : FindsAnswer (state_of m) new = record {
      done = done;
      missing = some-misses (world_of s.setting) s.setting.spec s.formula s.max_sets (state_of m) m.closed m.least m.first
          (sym c.is_some.ensures ∙ c.if-is_some.true);
      ends = record { level = refl; next = refl; finished = refl; marks = λ q. refl };
    } in
    e

pub invariant_of-self-then-level-budget : goal.invariant_of-self-then-level-budget
invariant_of-self-then-level-budget c =
    let m = c.args.self.now in
    let s = arc_value m.scenario in
    let n = c.counts-counts.result in
    let at = mark_at m.marks in
    let done = all-done at n.ready n.claimed n.answered n.waiting (omega arith) (omega arith) c.counts-counts.ensures.counts in
    let new : State = record { level = level_of m.marks; next = m.next; finished = true; marks = mark_at m.marks } in
    let limit = rw (c.setting.ensures, c.deref.ensures) at c.budget.ensures.value in
    let within = level-within (world_of s.setting) s.setting.spec s.formula s.max_sets (state_of m) (state_of m) m.closed in
    let e : FindsNone s.setting.spec (state_of m) new = record {
      done = done;
      reaching = none-misses (world_of s.setting) s.setting.spec s.formula s.max_sets (state_of m) m.closed m.least m.first
          (sym c.is_some.ensures ∙ c.if-is_some.false);
      last = omega (arith, limit, within, c.level.ensures.value, c.if-level-budget.true);
      ends = record { level = refl; next = refl; finished = refl; marks = λ q. refl };
    } in
    record {
      closed = ∥∥₁_map m.closed (λ k. none_closed (world_of s.setting) s.setting.spec s.formula s.max_sets (state_of m) new k e);
      first = m.first;
      tickets = m.tickets;
    }

pub returns-then-level-budget-clause-deepened : goal.returns-then-level-budget-clause-deepened
returns-then-level-budget-clause-deepened c =
    let m = c.args.self.now in
    let s = arc_value m.scenario in
    let n = c.counts-counts.result in
    let at = mark_at m.marks in
    let done = all-done at n.ready n.claimed n.answered n.waiting (omega arith) (omega arith) c.counts-counts.ensures.counts in
    let new : State = record { level = level_of m.marks; next = m.next; finished = true; marks = mark_at m.marks } in
    let limit = rw (c.setting.ensures, c.deref.ensures) at c.budget.ensures.value in
    let within = level-within (world_of s.setting) s.setting.spec s.formula s.max_sets (state_of m) (state_of m) m.closed in
    let e : FindsNone s.setting.spec (state_of m) new = record {
      done = done;
      reaching = none-misses (world_of s.setting) s.setting.spec s.formula s.max_sets (state_of m) m.closed m.least m.first
          (sym c.is_some.ensures ∙ c.if-is_some.false);
      last = omega (arith, limit, within, c.level.ensures.value, c.if-level-budget.true);
      ends = record { level = refl; next = refl; finished = refl; marks = λ q. refl };
    } in
    e

pub returns-then-counts-from-clause-deepened : goal.returns-then-counts-from-clause-deepened
returns-then-counts-from-clause-deepened c =
    let m = c.args.self.now in
    let s = arc_value m.scenario in
    let n = c.counts-counts.result in
    let at = mark_at m.marks in
    let done = all-done at n.ready n.claimed n.answered n.waiting (omega arith) (omega arith) c.counts-counts.ensures.counts in
    let limit = rw (c.setting.ensures, c.deref.ensures) at c.budget.ensures.value in
    let most = rw c.deref-2.ensures at c.max_sets.ensures.value in
    record {
      done = done;
      reaching = none-misses (world_of s.setting) s.setting.spec s.formula s.max_sets (state_of m) m.closed m.least m.first
          (sym c.is_some.ensures ∙ c.if-is_some.false);
      above = omega (arith, limit, c.level.ensures.value, c.if-level-budget.false);
      waiting = c.counts-counts.ensures.counts.waiting;
      many = omega (arith, most, c.from.ensures, c.if-counts-from.true);
      same = record { level = refl; next = refl; finished = refl; marks = λ q. refl };
    }

pub returns-then-counts-from-clause-full : goal.returns-then-counts-from-clause-full
returns-then-counts-from-clause-full c =
    let m = c.args.self.now in
    let s = arc_value m.scenario in
    let bounded : IsBounded (world_of s.setting) s.setting.spec =
    rw (c.setting-then-counts-from.ensures, c.deref-then-counts-from.ensures) at c.settings_are_bounded.ensures in
    full-again (world_of s.setting) s.setting.spec s.formula s.max_sets (state_of m) m.closed bounded c.counts-counts.result.waiting (state_of m)
    (returns-then-counts-from-clause-deepened c)

pub lower-requires-clause-done : goal.lower-requires-clause-done
lower-requires-clause-done c =
    let m = c.args.self.now in
    let n = c.counts-counts.result in
    let at = mark_at m.marks in
    let done = all-done at n.ready n.claimed n.answered n.waiting (omega arith) (omega arith) c.counts-counts.ensures.counts in
    done.none

pub lower-requires-clause-free : goal.lower-requires-clause-free
lower-requires-clause-free c =
    let m = c.args.self.now in
    let n = c.counts-counts.result in
    let at = mark_at m.marks in
    let done = all-done at n.ready n.claimed n.answered n.waiting (omega arith) (omega arith) c.counts-counts.ensures.counts in
    done.free

pub invariant_of-self-2 : goal.invariant_of-self-2
invariant_of-self-2 c =
    let m = c.args.self.now in
    let s = arc_value m.scenario in
    let n = c.counts-counts.result in
    let at = mark_at m.marks in
    let done = all-done at n.ready n.claimed n.answered n.waiting (omega arith) (omega arith) c.counts-counts.ensures.counts in
    let new : State = record { level = level_of c.lower.new.marks; next = m.next; finished = m.finished; marks = mark_at c.lower.new.marks } in
    let limit = rw (c.setting.ensures, c.deref.ensures) at c.budget.ensures.value in
    let most = rw c.deref-2.ensures at c.max_sets.ensures.value in
    let e : GoesDown s.setting.spec s.max_sets (state_of m) new = record {
      done = done;
      reaching = none-misses (world_of s.setting) s.setting.spec s.formula s.max_sets (state_of m) m.closed m.least m.first
          (sym c.is_some.ensures ∙ c.if-is_some.false);
      above = omega (arith, limit, c.level.ensures.value, c.if-level-budget.false);
      few = few-waiting at n.ready n.claimed n.answered n.waiting s.max_sets c.counts-counts.ensures.counts
          (omega (arith, most, c.from.ensures, c.if-counts-from.false));
      marks = c.lower.ensures.went_down;
      level = c.lower.ensures.level;
      next = refl;
      finished = refl;
    } in
    record {
      closed = ∥∥₁_map m.closed (λ k. down_closed (world_of s.setting) s.setting.spec s.formula s.max_sets (state_of m) new k e c.lower.ensures.shape);
      first = ∥∥₁_elim m.closed ∥∥₁_prop (λ k. ∥∥₁_map m.first (λ f.
          down_first (world_of s.setting) s.setting.spec s.formula s.max_sets (state_of m) new k e m.least f));
      tickets = m.tickets;
    }

pub returns-clause-deepened : goal.returns-clause-deepened
returns-clause-deepened c =
    let m = c.args.self.now in
    let s = arc_value m.scenario in
    let n = c.counts-counts.result in
    let at = mark_at m.marks in
    let done = all-done at n.ready n.claimed n.answered n.waiting (omega arith) (omega arith) c.counts-counts.ensures.counts in
    let new : State = record { level = level_of c.lower.new.marks; next = m.next; finished = m.finished; marks = mark_at c.lower.new.marks } in
    let limit = rw (c.setting.ensures, c.deref.ensures) at c.budget.ensures.value in
    let most = rw c.deref-2.ensures at c.max_sets.ensures.value in
    let e : GoesDown s.setting.spec s.max_sets (state_of m) new = record {
      done = done;
      reaching = none-misses (world_of s.setting) s.setting.spec s.formula s.max_sets (state_of m) m.closed m.least m.first
          (sym c.is_some.ensures ∙ c.if-is_some.false);
      above = omega (arith, limit, c.level.ensures.value, c.if-level-budget.false);
      few = few-waiting at n.ready n.claimed n.answered n.waiting s.max_sets c.counts-counts.ensures.counts
          (omega (arith, most, c.from.ensures, c.if-counts-from.false));
      marks = c.lower.ensures.went_down;
      level = c.lower.ensures.level;
      next = refl;
      finished = refl;
    } in
    e
