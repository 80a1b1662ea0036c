use Rattle.std.proofs.Common.{◌≡◌, ◌∙◌, subst, arith}
use Rattle.lf_book.proofs.Laws.{some_ready}
use Rattle.lf_book.specs.Books.{state_of}
use Rattle.lf_marks.specs.Counting.{AreCounts}
use Rattle.lf_marks.proofs.Laws.{none-ready}
use Rattle.lf_book.specs.Turns.{IsNextTurn}
use Rattle.lf_book.proofs.KeepLemmas.{keeps_on}
use Rattle.lf_book.proofs.ending.work_level.Goals as goal

pub work_next-requires-clause-ready : goal.work_next-requires-clause-ready
work_next-requires-clause-ready g c =
    let n = c.counts.result in
    some_ready (state_of c.sets.book).marks n.ready n.claimed n.answered n.waiting c.sets-test.true c.counts.ensures

pub returns-in_err-work_next-clause-kept : goal.returns-in_err-work_next-clause-kept
returns-in_err-work_next-clause-kept g c =
    keeps_on (state_of c.args.book.now).marks (state_of c.sets.book).marks (state_of c.work_next.new.book).marks c.sets.invariant.kept
    c.work_next.ensures.kept

pub returns-in_default-clause-kept : goal.returns-in_default-clause-kept
returns-in_default-clause-kept g c =
    keeps_on (state_of c.args.book.now).marks (state_of c.sets.book).marks (state_of c.work_next.new.book).marks c.sets.invariant.kept
    c.work_next.ensures.kept

pub sets-preserved : goal.sets-preserved
sets-preserved g c =
    let so = c.sets.invariant in
    let turn : IsNextTurn (state_of c.sets.book) (state_of c.work_next.new.book) = rw c.in-Done.is at c.in_ok-work_next.ensures.turn in
    record {
      free = turn.free;
      level = turn.level ∙ so.level;
      underway = λ u. c.in_ok-work_next.ensures.underway (so.underway u);
      kept = keeps_on (state_of c.args.book.now).marks (state_of c.sets.book).marks (state_of c.work_next.new.book).marks so.kept
          c.work_next.ensures.kept;
      scenario = c.work_next.ensures.scenario ∙ so.scenario;
      scratch = c.in_ok-work_next.ensures.scratch;
    }

pub returns-clause-worked : goal.returns-clause-worked
returns-clause-worked g c =
    let n = c.counts.result in
    let at = (state_of c.sets.book).marks in
    let no : n.ready ≡ 0 = omega (arith, c.sets-test.false) in (
      c.sets.invariant.level,
      record {
        none = none-ready at n.claimed n.answered n.waiting (subst (λ r. AreCounts at r n.claimed n.answered n.waiting) no c.counts.ensures);
        free = c.sets.invariant.free;
      },
    )
