-- What crates above may build on, in the words of specs/.
use Rattle.std.proofs.Common.{◌≡◌, ℕ, ◌<◌, ◌≤◌, true, List, length, get_or, sym, ◌∙◌, arith}
use Rattle.std.specs.Prelude.{◌⊎◌, slice_index}
use Rattle.lf_faults.specs.declared.fault.Parts.{Parts}
use Rattle.lf_faults.specs.declared.fault.Parts.TheVariants.{Omit, Crash, Pause}
use Rattle.lf_faults.specs.Faults.{step_of}
use Rattle.lf_faults.specs.declared.spec.Bounds.{Bounds}
use Rattle.lf_faults.specs.Allowed.{IsInLimits, IsAdmitted, IsAllowed}
use Rattle.lf_faults.proofs.Laws.{in_allowed-admitted, same_members}
use Rattle.lf_sim.specs.Runs.{World}
use Rattle.lf_outcome.specs.declared.formula.Formula.{Formula}
use Rattle.lf_outcome.specs.declared.point.Point.{Point}
use Rattle.lf_outcome.specs.Truth.{reaches, reaches_within}
use Rattle.lf_outcome.proofs.Laws.{within-carries, reaches-from_within}
use Rattle.lf_outcome.specs.Reaches.{IsReachOf}
use Rattle.lf_cone.specs.Cones.{IsHeard, IsClosed, IsOutside, AgreesWithin, IsCone, IsSharp, IsRequired, AreRequired}
use Rattle.lf_cone.specs.Sweeps.{AreInside}
use Rattle.lf_cone.proofs.Existence as existence
use Rattle.lf_cone.proofs.Growing as growing
use Rattle.lf_cone.proofs.HearingLemmas.{same-steps}
use Rattle.lf_cone.proofs.Light as light
use Rattle.lf_cone.proofs.RequiredLemmas as lemmas

starts-late : (b : Bounds) (f : Parts) → IsAdmitted b f → 1 ≤ step_of f
starts-late b (Omit n m t) h = h.3
starts-late b (Crash n t) h = h.1
starts-late b (Pause n t) h = h.1

module _ {State Note Fact : Type 0} (w : World State Note Fact) (b : Bounds) (faults wider : List Parts) (reach : List ℕ)
    (lasts : 1 ≤ w.pause_length) (closed : IsClosed w faults reach) (allowed : IsAllowed b wider) (outside : IsOutside w faults reach wider) where
  late : light.StartsLate wider
  late f c = starts-late b f (in_allowed-admitted b wider f allowed c)

  -- within a closed reach the run of a wider set that adds nothing of the support is the same
  pub agrees : AgreesWithin w faults reach wider
  agrees = light.agrees w faults reach wider lasts closed outside late

  -- so an outcome that is true within the reach is true in the wider set's run
  pub still_reaches : (formula : Formula Fact) → reaches_within w faults reach formula ≡ true → reaches w wider formula ≡ true
  still_reaches formula h =
      reaches-from_within w wider reach formula
      (within-carries w faults wider reach (light.stays_up_only w faults reach wider lasts closed outside late) (λ n t near up. agrees n t
      (up, near)) formula h)

-- there is at most one cone, one sharp reach, one list of required edges
pub cone_one : (nodes horizon : ℕ) (least : ℕ → ℕ → ℕ) (points : List Point) (x y : List ℕ) → IsCone nodes horizon least points x
    → IsCone nodes horizon least points y → x ≡ y
cone_one nodes horizon least points x y h k =
    same-steps x y (h.form.count ∙ sym k.form.count) (λ n.
    let low : get_or x n 0 ≤ get_or y n 0 = h.smallest y k.form k.keeps k.covers n in
    let high : get_or y n 0 ≤ get_or x n 0 = k.smallest x h.form h.keeps h.covers n in
    omega arith)

module _ {State Note Fact : Type 0} (w : World State Note Fact) (faults : List Parts) where
  pub sharp_one : (points : List Point) (x y : List ℕ) → IsSharp w faults points x → IsSharp w faults points y → x ≡ y
  sharp_one points x y h k =
      same-steps x y (h.closed.form.count ∙ sym k.closed.form.count) (λ n.
      let low : get_or x n 0 ≤ get_or y n 0 = h.smallest y k.closed k.covers n in
      let high : get_or y n 0 ≤ get_or x n 0 = k.smallest x h.closed h.covers n in
      omega arith)

  pub required_one : (b : Bounds) (reach : List ℕ) (excluded xs ys : List Parts) → AreRequired w faults b reach excluded xs
      → AreRequired w faults b reach excluded ys → xs ≡ ys
  required_one b reach excluded xs ys h k =
      same_members xs ys h.ascending k.ascending (λ f c. (k.each f).1 ((h.each f).0 c)) (λ f c. (h.each f).1 ((k.each f).0 c))

-- no reach has more required edges than there are places of faults
pub required_few : {State Note Fact : Type 0} (w : World State Note Fact) (faults : List Parts) (b : Bounds) (reach : List ℕ)
    (excluded edges : List Parts) → IsInLimits b → AreRequired w faults b reach excluded edges → length edges ≤ 3840
required_few w faults b reach excluded edges limits = lemmas.edges_few w faults b reach excluded limits edges

-- and points have a cone and a sharp reach, wherever notes arrive; a reach has a list of required edges
pub cone_exists : (nodes horizon : ℕ) (least : ℕ → ℕ → ℕ) (points : List Point) → AreInside nodes horizon points
    → (reach : List ℕ) × IsCone nodes horizon least points reach
cone_exists = growing.cone_exists

-- Whether a list is a reach is decided
pub form_or_not : (nodes horizon : ℕ) (reach : List ℕ) → IsReachOf nodes horizon reach ⊎ (IsReachOf nodes horizon reach → ⊥)
form_or_not = existence.form_or_not

module _ {State Note Fact : Type 0} (w : World State Note Fact) (faults : List Parts) where
  pub sharp_exists : (points : List Point) → AreInside w.rules.nodes w.horizon points → (reach : List ℕ) × IsSharp w faults points reach
  sharp_exists = existence.sharp_exists w faults

  pub required_exist : (b : Bounds) (reach : List ℕ) (excluded : List Parts) → (edges : List Parts) × AreRequired w faults b reach excluded edges
  required_exist = existence.required_exist w faults

  -- Whether a reach is closed is decided: it is, or something is heard within it that was done past it;
  pub closed_or_past : (reach : List ℕ) → IsReachOf w.rules.nodes w.horizon reach
      → IsClosed w faults reach ⊎ ((n : ℕ) × (t : ℕ) × (m : ℕ) × (slice_index reach n < t) × IsHeard w faults reach n t m)
  closed_or_past = existence.closed_or_past w faults

  pub closed_or_not : (reach : List ℕ) → IsClosed w faults reach ⊎ (IsClosed w faults reach → ⊥)
  closed_or_not = existence.closed_or_not w faults

  -- and so is whether a fault is required
  pub required_or_not : (b : Bounds) (reach : List ℕ) (excluded : List Parts) (f : Parts)
      → IsRequired w faults b reach excluded f ⊎ (IsRequired w faults b reach excluded f → ⊥)
  required_or_not = existence.required_or_not w faults
