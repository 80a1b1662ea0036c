use Rattle.std.proofs.Common.{refl, arith, false}
use Rattle.std.specs.Arc.{arc_value}
use Rattle.lf_marks.specs.Marks.{mark_at, level_of}
use Rattle.lf_sim.specs.Settings.{world_of}
use Rattle.lf_certificate.specs.States.{State, IsStart}
use Rattle.lf_certificate.proofs.Laws.{start_closed, start_first}
use Rattle.lf_book.proofs.book.Book.begin.Goals as goal

pub invariant_of-result : goal.invariant_of-result
invariant_of-result c =
    let s = arc_value c.args.scenario in
    let marks = c.in_ok-marks.marks in
    let state : State = record { level = level_of marks; next = 1; finished = false; marks = mark_at marks } in
    let start : IsStart state = record {
      level = c.in_ok-marks.ensures.level;
      next = refl;
      finished = refl;
      marks = c.in_ok-marks.ensures.root;
    } in
    record {
      closed = ∣ start_closed (world_of s.setting) s.setting.spec s.formula s.max_sets state
          (rw c.deref.ensures at c.scenarios_have_sets.ensures) start c.marks_have_shape.ensures ∣₁;
      first = ∣ start_first state start ∣₁;
      tickets = omega arith;
    }

pub returns-clause-start : goal.returns-clause-start
returns-clause-start c =
    record { level = c.in_ok-marks.ensures.level; next = refl; finished = refl; marks = c.in_ok-marks.ensures.root }
