-- A fault more that may be added, and is no required edge.
use Rattle.std.proofs.Common.{◌≡◌, ℕ, List, [], sym, subst, inl, inr, arith}
use Rattle.std.specs.List.{Contains}
use Rattle.lf_faults.specs.declared.fault.Parts.{Parts}
use Rattle.lf_faults.specs.declared.spec.Bounds.{Bounds}
use Rattle.lf_faults.specs.Allowed.{CanAdd}
use Rattle.lf_faults.specs.Faults.{inserted}
use Rattle.lf_faults.proofs.Laws.{cases_inserted, still-in}
use Rattle.lf_sim.specs.Runs.{World}
use Rattle.lf_cone.specs.Cones.{AreRequired, IsOutside, Supports}

pub outside : {State Note Fact : Type 0} (w : World State Note Fact) (b : Bounds) (faults : List Parts) (reach : List ℕ) (edges : List Parts) (f : Parts)
    → AreRequired w faults b reach [] edges → CanAdd b faults f → (Contains edges f → ⊥) → IsOutside w faults reach (inserted f faults)
outside w b faults reach edges f required can free = record {
  keeps = still-in f faults;
  adds = λ g there supports. elim (cases_inserted f faults g there) [
    | inl same ↦
        absurd (free ((required.each f).1 (record {
          supports = subst (Supports w faults reach) (sym same) supports;
          allowed = can;
          included = λ c. absurd (omega (arith, c.1));
        })))
    | inr was ↦ was
  ];
}

-- the same, of a set and a wider one that are told by equations
pub outside_of : {State Note Fact : Type 0} (w : World State Note Fact) (b : Bounds) (faults set wider : List Parts) (reach : List ℕ)
    (edges seen : List Parts) (f : Parts) → faults ≡ set → wider ≡ inserted f set → seen ≡ edges
    → AreRequired w faults b reach [] edges → CanAdd b set f → (Contains seen f → ⊥) → IsOutside w faults reach wider
outside_of w b faults set wider reach edges seen f same more as_seen required can free =
    let can_here : CanAdd b faults f = subst (λ s. CanAdd b s f) (sym same) can in
    let more_here : wider ≡ inserted f faults = subst (λ s. wider ≡ inserted f s) (sym same) more in
    let free_here : Contains edges f → ⊥ = subst (λ s. Contains s f → ⊥) as_seen free in
    subst (IsOutside w faults reach) (sym more_here) (outside w b faults reach edges f required can_here free_here)
