use Rattle.std.proofs.Common.{◌≡◌, ◌+◌, ◌-◌, ◌≤◌, ◌<◌, ℕ, false, length}
use Rattle.lf_sweep.specs.Listed.{may_end}
use Rattle.lf_sweep.proofs.listed.first_end.Given as goal

-- no value ends before
abbrev pub invariant-places : goal.invariant-places
invariant-places l = ((m : ℕ) → m < l.place → may_end l.text m ≡ false) × (l.place ≤ length l.text + 1)

abbrev pub decreases-places : goal.decreases-places
decreases-places l = length l.text + 1 - l.place
