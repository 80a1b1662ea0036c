-- A fault more leaves the faults of the steps before it.
use Rattle.std.proofs.Common.{◌≡◌, ℕ, zero, suc, ◌<◌, ◌≤◌, List, ◌∷◌, ap, arith}
use Rattle.std.specs.List.{Contains}
use Rattle.lf_faults.specs.declared.fault.Parts.{Parts}
use Rattle.lf_faults.specs.Faults.{step_of}
use Rattle.lf_sim.specs.Points.{SameUntil}

-- a fault of a later step is none of them
contains-tail : (b : ℕ) (fault f : Parts) (faults : List Parts) → b < step_of fault → step_of f ≤ b → Contains (fault ∷ faults) f → Contains faults f
contains-tail b fault f faults later early (zero, l, e) = absurd (let same : step_of fault ≡ step_of f = ap step_of e in omega (arith, same, later, early))
contains-tail b fault f faults later early (suc k, l, e) = (k, omega (arith, l), e)

pub SameUntil-cons : (b : ℕ) (fault : Parts) (faults : List Parts) → b < step_of fault → SameUntil b (fault ∷ faults) faults
SameUntil-cons b fault faults later f early = (contains-tail b fault f faults later early, λ c. (suc c.0, omega (arith, c.1), c.2))
