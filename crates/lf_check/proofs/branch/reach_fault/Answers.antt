use Rattle.std.proofs.Common.{refl, inl, inr}
use Rattle.std.proofs.lemmas.Bool.{both_ways}
use Rattle.lf_check.proofs.branch.reach_fault.Goals as goal

pub returns-then-not-suffices : goal.returns-then-not-suffices
returns-then-not-suffices g c = inl (refl, λ h. both_ways c.suffices.result c.if-not-suffices.true (c.suffices.ensures.1 h))

pub returns-then-not-is_closed : goal.returns-then-not-is_closed
returns-then-not-is_closed g c =
    inr (refl, c.suffices.ensures.0 c.if-not-suffices.false, λ h. both_ways c.is_closed.result c.if-not-is_closed.true (c.is_closed.ensures.1 h))

pub returns : goal.returns
returns g c = (c.suffices.ensures.0 c.if-not-suffices.false, c.is_closed.ensures.0 c.if-not-is_closed.false)
