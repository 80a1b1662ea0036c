-- What a node hears, slot by slot.
use Rattle.std.proofs.Common.{◌≡◌, ℕ, suc, [], ◌∷◌, replicate, ◌<◌, ◌≤◌, List, length, get_or, refl, sym}
use Rattle.std.proofs.Common.{◌∙◌, arith, subst}
use Rattle.std.specs.Prelude.{not, ◌&&◌}
use Rattle.std.proofs.lemmas.Bool.{lt-ltb, le-leb}
use Rattle.lf_faults.specs.declared.fault.Parts.{Parts}
use Rattle.lf_faults.specs.Faults.{set_crashes, set_pauses}
use Rattle.lf_sim.specs.Points.{ArrivesLater}
use Rattle.lf_sim.specs.Runs.{World, is_up}
use Rattle.lf_sim.proofs.Laws.{IsRunning-up}
use Rattle.lf_outcome.specs.declared.point.Point.{Point}
use Rattle.lf_outcome.specs.Reaches.{IsReachOf}
use Rattle.lf_cone.specs.Cones.{CanHear, IsClosed, IsSharp}
use Rattle.lf_cone.specs.Sweeps.{IsRaised, SomeBelow, KeepsTo, IsLeastFrom, PointAt}
use Rattle.lf_cone.proofs.Covering.{start-covers, start-smallest}

-- lists of numbers that are the same at each place
pub same-steps : (xs ys : List ℕ) → length xs ≡ length ys → ((n : ℕ) → get_or xs n 0 ≡ get_or ys n 0) → xs ≡ ys
same-steps [] [] e h = refl
same-steps [] (y ∷ ys) e h = absurd (omega arith)
same-steps (x ∷ xs) [] e h = absurd (omega arith)
same-steps (x ∷ xs) (y ∷ ys) e h = let first : x ≡ y = h 0 in let rest = same-steps xs ys (omega arith) (λ n. h (suc n)) in cc

-- where a point is one of the run, a node is up unless a fault takes it out
pub up-left : {State Note Fact : Type 0} (w : World State Note Fact) (faults : List Parts) (lasts n t : ℕ) → n < w.rules.nodes → 1 ≤ t → t ≤ w.horizon
    → lasts ≡ w.pause_length
    → (not (set_crashes faults n t) && not (set_pauses lasts faults n t)) ≡ is_up w faults n t
unfolding is_up
up-left w faults lasts n t node first last e = rw (lt-ltb n w.rules.nodes node, le-leb 1 t first, le-leb t w.horizon last, e) refl

module _ {State Note Fact : Type 0} (w : World State Note Fact) (faults : List Parts) where
  pub hearer : (n t m u : ℕ) → CanHear w faults n t m u → m < w.rules.nodes
  hearer n t m u h = (IsRunning-up w faults m u h.hears).node

  pub heard-later : ArrivesLater w → (n t m u : ℕ) → CanHear w faults n t m u → t < u
  heard-later later n t m u h =
      let r = IsRunning-up w faults n t h.sends in
      let s = IsRunning-up w faults m u h.hears in
      omega (arith, later n m t r.node s.node h.apart r.first r.last, h.arrives)

  pub speaker : (n t m u : ℕ) → CanHear w faults n t m u → n < w.rules.nodes
  speaker n t m u h = (IsRunning-up w faults n t h.sends).node

  pub speaks_from : (n t m u : ℕ) → CanHear w faults n t m u → 1 ≤ t
  speaks_from n t m u h = (IsRunning-up w faults n t h.sends).first

  pub speaks_to : (n t m u : ℕ) → CanHear w faults n t m u → t ≤ w.horizon
  speaks_to n t m u h = (IsRunning-up w faults n t h.sends).last

  -- the least that keeps to itself is the least closed one
  pub closed-keeps : (reach : List ℕ) → IsReachOf w.rules.nodes w.horizon reach → KeepsTo (CanHear w faults) reach → IsClosed w faults reach
  closed-keeps reach form h = record { form = form; each = λ n t m heard. h n t m heard.0 heard.2 heard.1 }

  pub keeps-closed : (reach : List ℕ) → IsClosed w faults reach → KeepsTo (CanHear w faults) reach
  keeps-closed reach h n t m u can near = h.each n t m (u, near, can)

  pub closed-least : (nodes : ℕ) (start r : List ℕ) → nodes ≡ w.rules.nodes → IsReachOf nodes w.horizon start
      → IsLeastFrom (CanHear w faults) nodes w.horizon start r
      → (r ≡ start → IsClosed w faults start) × (IsClosed w faults start → r ≡ start)
  closed-least nodes start r e form h = (
    λ same. closed-keeps start (record { count = form.count ∙ e; within = form.within }) (subst (KeepsTo (CanHear w faults)) same h.keeps),
    λ closed. same-steps r start (h.form.count ∙ sym form.count) (λ n.
        let low = h.covers n in
        let high = h.smallest start form (keeps-closed start closed) (λ k. omega arith) n in
        omega arith),
  )

  pub sharp-least : (nodes : ℕ) (points : List Point) (start r : List ℕ) → nodes ≡ w.rules.nodes
      → IsRaised (SomeBelow (PointAt points) (length points)) (replicate nodes 0) start
      → IsLeastFrom (CanHear w faults) nodes w.horizon start r → IsSharp w faults points r
  sharp-least nodes points start r e raised h = record {
    closed = closed-keeps r (record { count = h.form.count ∙ e; within = h.form.within }) h.keeps;
    covers = λ p c. omega (arith, start-covers nodes w.horizon points start raised p c, h.covers p.node);
    smallest = λ other closed covers.
        h.smallest other (record { count = closed.form.count ∙ sym e; within = closed.form.within }) (keeps-closed other closed)
        (start-smallest nodes w.horizon points start raised other covers);
  }
