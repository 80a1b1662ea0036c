-- The least reach that covers points.
use Rattle.std.proofs.Common.{◌≡◌, ℕ, ◌+◌, ◌<◌, ◌≤◌, List, length, get_or, replicate, sym, ap, ◌∙◌, inl, inr, arith}
use Rattle.std.specs.List.{Contains}
use Rattle.std.proofs.lemmas.Bool.{cases_lt}
use Rattle.std.proofs.lemmas.List.{get_or_default, get_or-replicate, length-replicate}
use Rattle.std.proofs.Math.ListN.{get_or-eq_default}
use Rattle.lf_faults.specs.declared.fault.Parts.{Parts}
use Rattle.lf_sim.specs.Runs.{World}
use Rattle.lf_sim.proofs.Laws.{IsRunning-up}
use Rattle.lf_outcome.specs.declared.point.Point.{Point}
use Rattle.lf_outcome.specs.Evidence.{Covers, AreUp}
use Rattle.lf_outcome.specs.Reaches.{IsReachOf}
use Rattle.lf_cone.specs.Cones.{IsAtMost}
use Rattle.lf_cone.specs.Sweeps.{IsRaised, SomeBelow, PointAt, AreInside}
use Rattle.lf_cone.proofs.Sweeping.{raised-more, raised-same}

abbrev pub blank : Point
blank = record { node = 0; step = 0 }

zeros : (nodes n : ℕ) → get_or {A = ℕ} (replicate nodes 0) n 0 ≡ 0
zeros nodes n = elim (cases_lt n nodes) [
  | inl there ↦ get_or-replicate {A = ℕ} nodes n 0 0 there
  | inr past ↦ get_or-eq_default {A = ℕ} (replicate nodes 0) 0 {n = n} (omega (arith, past, length-replicate {A = ℕ} nodes 0))
]

pub point_in : (points : List Point) (k : ℕ) → k < length points → Contains points (get_or points k blank)
point_in points k h = (k, h, get_or_default points k (get_or points k blank) blank h)

-- points at which nodes are up are points of the run
pub inside-up : {State Note Fact : Type 0} (w : World State Note Fact) (faults : List Parts) (points : List Point) (nodes last : ℕ)
    → nodes ≡ w.rules.nodes → w.horizon ≤ last
    → AreUp w faults points → AreInside nodes last points
inside-up w faults points nodes last e short up p c =
    let r = IsRunning-up w faults p.node p.step (up p c) in
    (omega (arith, e, r.node), omega (arith, short, r.last))

-- a point more
pub covering_more : (points : List Point) (i : ℕ) (a b c : List ℕ) → IsRaised (SomeBelow (PointAt points) i) a b
    → IsRaised (λ n t. (n ≡ (get_or points i blank).node) × (t ≡ (get_or points i blank).step)) b c → IsRaised (SomeBelow (PointAt points) (i + 1)) a c
covering_more points i a b c first second =
    raised-more (PointAt points) i a b c first (raised-same _ (PointAt points i) b c (λ n t h. (sym h.0, sym h.1)) (λ n t h. (sym h.0, sym h.1)) second)

module _ (nodes last : ℕ) (points : List Point) (start : List ℕ) (h : IsRaised (SomeBelow (PointAt points) (length points)) (replicate nodes 0) start) where
  pub start-form : AreInside nodes last points → IsReachOf nodes last start
  start-form inside = record {
    count = h.count ∙ length-replicate {A = ℕ} nodes 0;
    within = λ n. elim (h.only n) [
      | inl same ↦ omega (arith, same, zeros nodes n)
      | inr q ↦ let at = inside (get_or points q.0 blank) (point_in points q.0 q.1) in omega (arith, q.2.1, at.1)
    ];
  }

  pub start-covers : Covers start points
  start-covers p c = h.takes p.node p.step (c.0, c.1, (at.0, at.1))
    where
      at : PointAt points c.0 p.node p.step
      at = let e : get_or points c.0 blank ≡ p = get_or_default points c.0 blank p c.1 ∙ c.2 in (ap (λ (x : Point). x.node) e, ap (λ (x : Point). x.step) e)

  pub start-smallest : (other : List ℕ) → Covers other points → IsAtMost start other
  start-smallest other covers n =
      elim (h.only n) [
        | inl same ↦ omega (arith, same, zeros nodes n)
        | inr q ↦ let at = covers (get_or points q.0 blank) (point_in points q.0 q.1) in rw (q.2.0, q.2.1) at at
      ]
