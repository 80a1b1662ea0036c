use Rattle.std.proofs.Common.{◌<◌, ◌+◌, ◌/◌, take, length, sym, ◌∙◌, subst, arith, refl}
use Rattle.std.proofs.lemmas.List.{take_all}
use Rattle.std.proofs.Math.ListN.{length-set}
use Rattle.lf_cone.specs.Places.{place_of, AreMarks}
use Rattle.lf_cone.proofs.Gathering.{with_mark, marks-none, marks-more}
use Rattle.lf_cone.proofs.marks.marked.Goals as goal

pub loop-fault-init : goal.loop-fault-init
loop-fault-init c = record { long = refl; marks = marks-none 480 }

pub loop-fault-preserved : goal.loop-fault-preserved
loop-fault-preserved c =
    let g = c.fault-item.result in
    let below : place_of g / 8 < length c.loop-fault.rows =
    omega (arith, c.place-place.ensures.value, c.place-place.ensures.below, c.loop-fault.invariant.long) in
    record {
      long = length-set c.loop-fault.rows (c.place-place.result / 8) _ ∙ c.loop-fault.invariant.long;
      marks = subst (λ k. AreMarks (take (c.loop-fault.fault-index + 1) c.args.faults.now) (with_mark c.loop-fault.rows k))
          (sym c.place-place.ensures.value)
          (marks-more c.args.faults.now c.loop-fault.fault-index c.loop-fault.rows g c.loop-fault-test.true c.fault-item.is c.place-place.ensures.in_range
          below c.loop-fault.invariant.marks);
    }

pub returns : goal.returns
returns c = subst (λ xs. AreMarks xs c.loop-fault.rows) (take_all c.loop-fault.fault-index c.args.faults.now c.loop-fault-test.false)
    c.loop-fault.invariant.marks
