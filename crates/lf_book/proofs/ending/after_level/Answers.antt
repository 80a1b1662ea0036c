use Rattle.std.proofs.Common.{◌≡◌, ◌+◌, true, sym, ap, subst, arith, inl, inr}
use Rattle.lf_book.specs.Ends.{IsFull, IsStuck}
use Rattle.lf_book.proofs.FullLemmas.{is_never_full}
use Rattle.lf_book.proofs.TurnLemmas.{gone_down}
use Rattle.lf_book.specs.Books.{scenario_of, state_of}
use Rattle.lf_book.specs.declared.book.Book.{Book}
use Rattle.lf_certificate.specs.Events.{FindsFull}
use Rattle.lf_sim.specs.Settings.{world_of}
use Rattle.lf_book.proofs.ending.after_level.Goals as goal

pub returns-in-Down-clause-underway : goal.returns-in-Down-clause-underway
returns-in-Down-clause-underway c = λ none.
    let s = scenario_of c.args.book.now in
    let before = c.books_are_closed.ensures in
    gone_down s.setting.spec s.max_sets (state_of c.args.book.now) (state_of c.deepen-deepened.new.self) before.waiting.0
    (omega (arith, before.kept)) (omega (arith, before.bounded.limits.budget)) c.in-Down.ensures.deepened before.waiting.1

pub returns-in-Answer-clause-after : goal.returns-in-Answer-clause-after
returns-in-Answer-clause-after c =
    let new = c.deepen-deepened.new.self in
    let s = scenario_of new in
    let after = c.books_are_closed-2.ensures in
    let finished : new.finished ≡ true = elim c.in-Answer.is [
      | inl is ↦ (rw is at c.deepen-deepened.ensures.deepened).ends.finished
      | inr is ↦ (rw is at c.deepen-deepened.ensures.deepened).ends.finished
    ] in
    (finished, is_never_full (world_of s.setting) s.setting.spec s.formula s.max_sets (state_of new) after.closed after.bounded finished)

pub returns-in-Full-clause-after : goal.returns-in-Full-clause-after
returns-in-Full-clause-after c =
    let old = c.args.book.now in
    let s = scenario_of old in
    let count = c.in-Full.count in
    let same : c.deepen-deepened.new.self ≡ old = c.in-Full.ensures.unchanged in
    let here : IsStuck old (c.level-level.result + 1) count = record {
      level = ap (λ k. k + 1) c.level-level.ensures.value;
      full = subst (λ (b : Book). FindsFull s.setting.spec s.max_sets count (state_of old) (state_of b)) same c.in-Full.ensures.deepened;
      first = subst (λ k. IsFull s (k + 1) count) (sym c.level-level.ensures.value) c.in-Full.ensures.full;
    } in
    subst (λ (b : Book). IsStuck b (c.level-level.result + 1) count) (sym same) here
