-- Runs whose views remember no note that was lost before it was sent.
use Rattle.std.proofs.Common.{List, [], ◌∷◌, ◌≡◌, ℕ, zero, suc, ◌+◌, ◌<◌, ◌≤◌, Bool, true, false, not, ◌&&◌}
use Rattle.std.proofs.Common.{refl, sym, ap, ◌∙◌, subst, take, length, get_or, add-one}
use Rattle.std.specs.Prelude.{IfSome, Option, Some}
use Rattle.std.specs.List.{fold, list_all}
use Rattle.std.proofs.lemmas.Bool.{and_parts}
use Rattle.std.proofs.lemmas.List.Folds.{list_all_more}
use Rattle.lf_faults.specs.declared.fault.Parts.{Parts}
use Rattle.lf_sim.specs.declared.out.Stepped.{Stepped}
use Rattle.lf_sim.specs.Points.{IsRunning}
use Rattle.lf_sim.specs.Runs.{World, is_up, view}
use Rattle.lf_sim.proofs.Laws.{IsRunning-up, did-down, did-zero}
use Rattle.lf_rules.specs.declared.definition.Definition.{Definition}
use Rattle.lf_rules.specs.declared.rule.Chain.{Chain}
use Rattle.lf_rules.specs.declared.rule.Event.TheVariants as events
use Rattle.lf_rule_machine.specs.declared.state.State.{State}
use Rattle.lf_rule_machine.specs.declared.state.Packet.{Packet}
use Rattle.lf_rule_machine.specs.declared.fact.Fact.{Fact}
use Rattle.lf_rule_machine.specs.Events.{act, pass, same_event}
use Rattle.lf_rule_machine.specs.Instances.{Instance}
use Rattle.lf_rule_machine.specs.Machines.{moment, no_fields, opened}
use Rattle.lf_rule_machine.specs.Moments.{Moment}
use Rattle.lf_rule_machine.specs.Ruleds.{rules_of}
use Rattle.lf_rule_machine.specs.States.{zeros}

-- a state that is known remembers none
pub state-known : (o : Option State) (s : State) → Some s ≡ o → s.replaced ≡ false → IfSome o (λ x. x.replaced ≡ false)
state-known o s is none = subst (λ o. IfSome o (λ x. x.replaced ≡ false)) is none

pub known-state : (o : Option State) (s : State) → o ≡ Some s → IfSome o (λ x. x.replaced ≡ false) → s.replaced ≡ false
known-state o s is none = subst (λ o. IfSome o (λ x. x.replaced ≡ false)) is none

abbrev pub IsNone : Chain → Bool
IsNone chain = not (same_event chain.on events.Start)

not-so : (b : Bool) → not b ≡ true → b ≡ false
not-so true h = absurd (cc)
not-so false h = refl

-- one chain more
pub calm-more : (xs : List Chain) (i : ℕ) (x : Chain) (b : Bool) → i < length xs → x ≡ get_or xs i x → b ≡ same_event x.on events.Start
    → list_all IsNone (take i xs) ≡ true → b ≡ false → list_all IsNone (take (i + 1) xs) ≡ true
calm-more xs i x b within is tested before off =
    list_all_more IsNone xs i x within ∙ ap (λ c. c && IsNone (get_or xs i x)) before ∙ ap IsNone (sym is) ∙ ap not (sym tested ∙ off)

-- chains that aren't gone through at the start do nothing there
module _ (d : Definition) (at : Moment) where
  passed : (chains : List Chain) → list_all IsNone chains ≡ true → (turn : Stepped State Packet) → fold (pass d at events.Start) turn chains ≡ turn
  passed [] none turn = refl
  passed (x ∷ xs) none turn =
      let both = and_parts (IsNone x) (list_all IsNone xs) none in
      let off : same_event x.on events.Start ≡ false = not-so (same_event x.on events.Start) both.0 in
      let here : pass d at events.Start turn x ≡ turn = rw (off) refl in
      ap (λ y. fold (pass d at events.Start) y xs) here ∙ passed xs both.1 turn

  pub act-start : list_all IsNone d.chains ≡ true → (turn : Stepped State Packet) → act d at events.Start turn ≡ turn
  unfolding act
  act-start none turn = passed d.chains none turn

module _ (m : Instance) (w : World State Packet Fact) (faults : List Parts) (ruled : w.rules ≡ rules_of m)
    (zeroed : list_all IsNone m.definition.chains ≡ true)
    (each : (n t : ℕ) → n < w.rules.nodes → t ≤ w.horizon → (view w faults n t).replaced ≡ false) where
  starts : (n : ℕ) → (w.rules.start n).replaced ≡ false
  starts n =
      subst (λ rules. (rules.start n).replaced ≡ false) (sym ruled)
      (ap (λ (x : Stepped State Packet). x.state.replaced) (act-start m.definition (moment m.nodes m.given n 0 0 no_fields) zeroed (opened zeros)))

  by-up : (n t : ℕ) (b : Bool) → is_up w faults n (t + 1) ≡ b → (view w faults n t).replaced ≡ false → (view w faults n (t + 1)).replaced ≡ false
  by-up n t true up before =
      let runs : IsRunning w faults n (t + 1) = IsRunning-up w faults n (t + 1) up in
      each n (t + 1) runs.node runs.last
  by-up n t false down before = ap (λ (x : Stepped State Packet). x.state.replaced) (did-down w faults n t down) ∙ before

  pub kept : (n t : ℕ) → (view w faults n t).replaced ≡ false
  kept n zero = ap (λ (x : Stepped State Packet). x.state.replaced) (did-zero w faults n) ∙ starts n
  kept n (suc t) = subst (λ k. (view w faults n k).replaced ≡ false) (add-one t) (by-up n t (is_up w faults n (t + 1)) refl (kept n t))
