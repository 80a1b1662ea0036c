-- The cone of points, by the least delays of the links.
use Rattle.std.proofs.Common.{◌≡◌, ℕ, ◌-◌, ◌<◌, ◌≤◌, List, length, get_or, replicate, sym, ◌∙◌, inl, inr, arith}
use Rattle.std.proofs.lemmas.Bool.{cases_lt}
use Rattle.lf_latency.specs.declared.network.Timing.{Timing}
use Rattle.lf_latency.specs.Links.{least_of}
use Rattle.lf_latency.specs.Arrivals.{IsTiming, IsSlot, arrival_of}
use Rattle.lf_latency.proofs.Laws.{arrival-late}
use Rattle.lf_faults.specs.declared.fault.Parts.{Parts}
use Rattle.lf_sim.specs.Runs.{World}
use Rattle.lf_sim.proofs.Laws.{IsRunning-up}
use Rattle.lf_outcome.specs.declared.point.Point.{Point}
use Rattle.lf_cone.specs.Cones.{KeepsLeast, IsCone, IsClosed}
use Rattle.lf_cone.specs.Sweeps.{IsRaised, SomeBelow, PointAt, KeepsTo, IsLeastFrom, RestsByLeast}
use Rattle.lf_cone.proofs.Covering.{start-covers, start-smallest}

pub later-least : (timing : Timing) (nodes : ℕ) → IsTiming timing → nodes ≤ 8 → (n t m v : ℕ) → RestsByLeast nodes (least_of timing.links) n t m v → t < v
later-least timing nodes is few n t m v h =
    let one : 1 ≤ least_of timing.links n m = is.links.least_at_least n m (omega (arith, h.0, few)) (omega (arith, h.1, few)) in
    omega (arith, h.3, one)

module _ (nodes horizon : ℕ) (least : ℕ → ℕ → ℕ) where
  pub keeps-to : (r : List ℕ) → KeepsTo (RestsByLeast nodes least) r → KeepsLeast nodes least r
  keeps-to r h n m node other apart =
      elim (cases_lt (get_or r m 0) (least n m)) [
        | inl early ↦ omega arith
        | inr late ↦
            let t : get_or r m 0 - least n m ≤ get_or r n 0 = h n (get_or r m 0 - least n m) m (get_or r m 0) (node, other, apart, omega arith)
            (omega arith) in
            omega arith
      ]

  pub to-keeps : (r : List ℕ) → KeepsLeast nodes least r → KeepsTo (RestsByLeast nodes least) r
  to-keeps r h n t m v on near = omega (arith, h n m on.0 on.1 on.2, on.3, near)

  pub cone_is : (points : List Point) (start reach : List ℕ) → IsRaised (SomeBelow (PointAt points) (length points)) (replicate nodes 0) start
      → IsLeastFrom (RestsByLeast nodes least) nodes horizon start reach → IsCone nodes horizon least points reach
  cone_is points start reach raised h = record {
    form = h.form;
    keeps = keeps-to reach h.keeps;
    covers = λ p c. omega (arith, start-covers nodes horizon points start raised p c, h.covers p.node);
    smallest = λ other form keeps covers. h.smallest other form (to-keeps other keeps) (start-smallest nodes horizon points start raised other covers);
  }

-- what is heard within a cone was done within it, since no note is sooner than the least delay
pub cone_closed : {State Note Fact : Type 0} (w : World State Note Fact) (faults : List Parts) (timing : Timing) (nodes horizon : ℕ) (points : List Point)
    (reach : List ℕ)
    → nodes ≡ w.rules.nodes → horizon ≡ w.horizon → timing.nodes ≡ w.rules.nodes → timing.horizon ≡ w.horizon → IsTiming timing
    → ((n m t : ℕ) → w.arrival n m t ≡ arrival_of timing n m t)
    → IsCone nodes horizon (least_of timing.links) points reach → IsClosed w faults reach
cone_closed w faults timing nodes horizon points reach e f wide long limits arrival h = record {
  form = record { count = h.form.count ∙ e; within = λ n. omega (arith, h.form.within n, f) };
  each = λ n t m heard.
      let can = heard.2 in
      let sender = IsRunning-up w faults n t can.sends in
      let receiver = IsRunning-up w faults m heard.0 can.hears in
      let keeps = h.keeps n m (omega (arith, e, sender.node)) (omega (arith, e, receiver.node)) can.apart in
      let slot : IsSlot timing n m t = record {
        pair = record { sender = omega (arith, wide, sender.node); receiver = omega (arith, wide, receiver.node); apart = can.apart };
        first = sender.first;
        last = omega (arith, long, sender.last);
      } in
      let late = arrival-late timing n m t limits slot in
      omega (arith, keeps, heard.1, late, sym (arrival n m t) ∙ can.arrives);
}
