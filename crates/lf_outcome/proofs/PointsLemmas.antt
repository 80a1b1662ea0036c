-- Where the points of an evidence lie, and which reaches suffice for it.
use Rattle.std.proofs.Common.{◌≡◌, ℕ, ◌<◌, ◌≤◌, Bool, true, false, refl, ◌&&◌, not, List}
use Rattle.std.specs.Prelude.{nat_lt, nat_le, slice_index_or, Some, IfSome, All}
use Rattle.std.proofs.lemmas.Bool.{and_parts, ltb-true, leb-true, le-leb}
use Rattle.std.proofs.lemmas.List.Elements.{All-contains, All-contains_itself}
use Rattle.lf_faults.specs.declared.fault.Parts.{Parts}
use Rattle.lf_faults.specs.Faults.{set_crashes, set_pauses}
use Rattle.lf_sim.specs.Runs.{World, is_up, view}
use Rattle.lf_outcome.specs.declared.formula.Formula.{Formula}
use Rattle.lf_outcome.specs.declared.point.Point.{Point}
use Rattle.lf_outcome.specs.Evidence.{evidence_of, AreUp, ArePoints, Covers}
use Rattle.lf_outcome.specs.Reaches.{reach_at}
use Rattle.lf_outcome.specs.Truth.{counts, is_down, is_shown, is_single, reaches_within}
use Rattle.lf_outcome.specs.Unfolding.{unfolded}
use Rattle.lf_outcome.proofs.EvidenceLemmas.{rests_on-points, rests_on-suffices}

not-false : (b : Bool) → not b ≡ false → b ≡ true
not-false true e = refl
not-false false e = absurd cc

module _ {State Note Fact : Type 0} (w : World State Note Fact) (faults : List Parts) where
  -- a node that is up at a step is a node, and the step one of the run
  pub point-of_up : (n t : ℕ) → is_up w faults n t ≡ true → (n < w.rules.nodes) × (1 ≤ t) × (t ≤ w.horizon)
  unfolding is_up
  point-of_up n t up =
      let alive = not (set_crashes faults n t) && not (set_pauses w.pause_length faults n t) in
      let node = and_parts (nat_lt n w.rules.nodes) (nat_le 1 t && (nat_le t w.horizon && alive)) up in
      let first = and_parts (nat_le 1 t) (nat_le t w.horizon && alive) node.1 in
      let last = and_parts (nat_le t w.horizon) alive first.1 in
      (ltb-true n w.rules.nodes node.0, leb-true 1 t first.0, leb-true t w.horizon last.0)

  shown_up : (n t : ℕ) (fact : Fact) → is_shown w faults n t fact ≡ true → is_up w faults n t ≡ true
  shown_up n t fact e = (and_parts (is_up w faults n t) (w.rules.shows n (view w faults n t) fact) e).0

  abbrev pub Up : Point → Type 0
  Up p = is_up w faults p.node p.step ≡ true

  pub evidence-up : (f : Formula Fact) → IfSome (evidence_of w faults f) (All Up)
  evidence-up f = rests_on-points (is_down w faults) (is_shown w faults) (is_single w faults) Up shown_up (λ p e. not-false (is_up w faults p.node p.step) e)
      (unfolded f)

  -- what holds of each of the points
  pub up-each : (points : List Point) → All Up points → AreUp w faults points
  up-each points every = λ p there. All-contains Up points p every there

  pub points-each : (points : List Point) → All Up points → ArePoints w points
  points-each points every = λ p there. point-of_up p.node p.step (All-contains Up points p every there)

  -- a reach that covers them suffices
  pub covers-suffices : (f : Formula Fact) (reach : List ℕ)
      → IfSome (evidence_of w faults f) (λ points. All (λ p. counts (Some reach) p.node p.step ≡ true) points → reaches_within w faults reach f ≡ true)
  covers-suffices f reach = rests_on-suffices (is_down w faults) (is_shown w faults) (is_single w faults) (counts (Some reach)) (unfolded f)

pub covers-each : (reach : List ℕ) (points : List Point) → Covers reach points → All (λ p. counts (Some reach) p.node p.step ≡ true) points
covers-each reach points covers = λ k d below.
    let p = slice_index_or points k d in
    le-leb p.step (reach_at reach p.node) (covers p (All-contains_itself points k d below))
