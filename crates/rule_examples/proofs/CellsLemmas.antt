-- Runs whose cells send packets of one note each.
use Rattle.std.proofs.Common.{List, ◌≡◌, ℕ, ◌<◌, ◌≤◌, Bool, true, false, refl, sym, ◌∙◌, subst, arith, ◌+◌, inl, inr}
use Rattle.std.specs.Prelude.{IfSome, Option, None, Some}
use Rattle.std.proofs.lemmas.Bool.{cases_lt}
use Rattle.lf_faults.specs.declared.fault.Parts.{Parts}
use Rattle.lf_sim.specs.declared.out.Stepped.{Stepped}
use Rattle.lf_sim.specs.Points.{IsRunning}
use Rattle.lf_sim.specs.Runs.{World, did, is_up, sent}
use Rattle.lf_sim.proofs.Laws.{IsRunning-up, sent-down}
use Rattle.lf_rules.specs.Forms.{is_well_formed}
use Rattle.lf_rule_machine.specs.declared.state.State.{State}
use Rattle.lf_rule_machine.specs.declared.state.Packet.{Packet}
use Rattle.lf_rule_machine.specs.declared.fact.Fact.{Fact}
use Rattle.lf_rule_machine.specs.Instances.{Instance}
use Rattle.lf_rule_machine.specs.Ruleds.{rules_of}
use Rattle.lf_rule_machine.specs.SingleRuns.{AreSingles, IsSingle, IsSingleRun}

-- the numbers below the next one
pub below-more : (P : ℕ → Type 0) (b : ℕ) → ((t : ℕ) → t < b → P t) → P b → (t : ℕ) → t < b + 1 → P t
below-more P b before last t low = elim (cases_lt t b) [
  | inl early ↦ before t early
  | inr late ↦
      let same : b ≡ t = omega (arith, late, low) in
      subst P same last
]

pub cell-known : (o : Option (Stepped State Packet)) (c : Stepped State Packet) → o ≡ Some c → AreSingles c.out → IfSome o (λ x. AreSingles x.out)
cell-known o c is are = subst (λ x. IfSome x (λ y. AreSingles y.out)) (sym is) are

pub cell-singles : (o : Option (Stepped State Packet)) (c : Stepped State Packet) → o ≡ Some c → IfSome o (λ x. AreSingles x.out) → AreSingles c.out
cell-singles None c is are = absurd (cc)
cell-singles (Some x) c is are =
    let same : x ≡ c = cc in
    subst (λ (y : Stepped State Packet). AreSingles y.out) same are

module _ (m : Instance) (w : World State Packet Fact) (faults : List Parts) (formed : is_well_formed m.definition ≡ true) (ruled : w.rules ≡ rules_of m)
    (each : (n t : ℕ) → n < w.rules.nodes → t ≤ w.horizon → AreSingles (did w faults n t).out) where
  by-up : (n to t : ℕ) (p : Packet) (b : Bool) → is_up w faults n t ≡ b → sent w faults n to t ≡ Some p → IsSingle p
  by-up n to t p true up there =
      let runs : IsRunning w faults n t = IsRunning-up w faults n t up in
      each n t runs.node runs.last to p there
  by-up n to t p false down there =
      let nothing_sent : None ≡ Some p = sym (sent-down w faults n to t down) ∙ there in
      absurd (cc)

  pub single-run : IsSingleRun m w faults
  single-run = record { formed = formed; ruled = ruled; singles = λ n to t p there. by-up n to t p (is_up w faults n t) refl there }
