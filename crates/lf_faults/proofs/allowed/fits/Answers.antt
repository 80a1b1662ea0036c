use Rattle.std.proofs.Common.{◌<◌, length, arith}
use Rattle.std.proofs.lemmas.Bool.{false≢true, iff_false}
use Rattle.lf_faults.proofs.Allowing.{budget-from_allowed, admitted-from_allowed, can_add-iff}
use Rattle.lf_faults.proofs.allowed.fits.Goals as goal

pub returns-then-len-budget : goal.returns-then-len-budget
returns-then-len-budget c = (
  λ h. absurd (false≢true h),
  λ can. absurd
      (omega (
        arith,
        budget-from_allowed c.args.spec.now c.args.set.now c.args.fault.now can.1,
        c.if-len-budget.true,
        c.len.ensures.value,
        c.budget.ensures.value,
      )),
)

pub returns-then-not-admits_fault : goal.returns-then-not-admits_fault
returns-then-not-admits_fault c = (
  λ h. absurd (false≢true h),
  λ can. absurd (iff_false c.admits_fault.ensures c.if-not-admits_fault.true (admitted-from_allowed c.args.spec.now c.args.set.now c.args.fault.now can.1)),
)

pub returns : goal.returns
returns c =
    let few : length c.args.set.now < c.args.spec.now.budget = omega (arith, c.if-len-budget.false, c.len.ensures.value, c.budget.ensures.value) in
    let iff = can_add-iff c.args.spec.now c.args.set.now c.args.fault.now c.requires (c.admits_fault.ensures.0 c.if-not-admits_fault.false)
    (iff_false c.contains.ensures c.if-contains.false) few in
    (λ room. iff.0 (c.has_room.ensures.0 room), λ can. c.has_room.ensures.1 (iff.1 can))
