-- A point at which a node is up, as a list.
use Rattle.std.proofs.Common.{◌≡◌, ℕ, zero, suc, [], ◌∷◌, ◌<◌, true, List, get_or, subst, arith}
use Rattle.lf_faults.specs.declared.fault.Parts.{Parts}
use Rattle.lf_sim.specs.Runs.{World, is_up}
use Rattle.lf_outcome.specs.declared.point.Point.{Point}
use Rattle.lf_outcome.specs.Evidence.{AreUp}

one-point : (x p : Point) (k : ℕ) → k < 1 → get_or (x ∷ []) k p ≡ p → x ≡ p
one-point x p zero h e = e
one-point x p (suc k) h e = absurd (omega arith)

pub point-up : {State Note Fact : Type 0} (w : World State Note Fact) (faults : List Parts) (n t : ℕ) → is_up w faults n t ≡ true
    → AreUp w faults (record { node = n; step = t } ∷ [])
point-up w faults n t up p c =
    let one : record { node = n; step = t } ≡ p = one-point (record { node = n; step = t }) p c.0 c.1 c.2 in
    subst (λ (q : Point). is_up w faults q.node q.step ≡ true) one up
