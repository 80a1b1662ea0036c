-- Each rule that is taken is numbered from 1 to how many there are.
use Rattle.std.proofs.Common.{◌≡◌, ℕ, ◌+◌, ◌≤◌, Bool, true, false, List, [], ◌∷◌, ◌++◌, length, take, refl, subst, inl, inr, arith}
use Rattle.std.specs.Prelude.{Option, None, Some, if◌then◌else◌, slice_get}
use Rattle.std.specs.List.{Contains}
use Rattle.std.specs.Option.{option_to_list}
use Rattle.std.proofs.lemmas.List.Elements.{Contains-append_cases}
use Rattle.lf_faults.specs.declared.fault.Parts.{Parts}
use Rattle.lf_faults.specs.Faults.{set_wakes}
use Rattle.lf_list.proofs.Laws.{cases_in, none-in}
use Rattle.lf_protocols.specs.declared.fact.Fact.{Fact}
use Rattle.lf_protocols.specs.declared.note.Note.{Note}
use Rattle.lf_protocols.specs.declared.note.Note.TheVariants as notes
use Rattle.lf_protocols.specs.declared.state.State.{State}
use Rattle.lf_protocols.specs.declared.state.State.TheVariants as states
use Rattle.lf_protocols.specs.declared.protocol.Kind.{Kind}
use Rattle.lf_protocols.specs.declared.protocol.Kind.TheVariants as kinds
use Rattle.lf_protocols.specs.RuledTurns.{begin_by_rules, hear_by_rules}
use Rattle.lf_rule_machine.specs.Choices.{chosen, take_at}
use Rattle.lf_rule_machine.specs.Instances.{Instance}
use Rattle.lf_rule_machine.specs.Machines.{hear_note, moment, no_fields, opened, wake_of}
use Rattle.lf_rule_machine.specs.Moments.{Moment, given_here}
use Rattle.lf_rule_machine.specs.Sets.{is_true}
use Rattle.lf_rule_machine.specs.Values.{value_of}
use Rattle.lf_rule_machine.specs.declared.state.Note.{Note as Message}
use Rattle.lf_rule_machine.specs.declared.state.Packet.{Packet}
use Rattle.lf_rule_machine.specs.declared.state.State.{State as Own}
use Rattle.lf_rules.specs.Forms.{rules_in}
use Rattle.lf_rules.specs.declared.definition.Definition.{Definition}
use Rattle.lf_rules.specs.declared.rule.Chain.{Chain}
use Rattle.lf_rules.specs.declared.rule.Event.{Event}
use Rattle.lf_rules.specs.declared.rule.Event.TheVariants as events
use Rattle.lf_rules.specs.declared.rule.Rule.{Rule}
use Rattle.lf_sim.specs.Runs.{World, inbox, is_up, view}
use Rattle.lf_sim.specs.declared.letter.Letter.{Letter}
use Rattle.lf_sim.specs.declared.out.Stepped.{Stepped}
use Rattle.lf_taken.specs.Numbers.{first_number, number_true, taken_at, taken_in, taken_of, taken_through}
use Rattle.lf_taken.specs.Points.{taken_after, taken_by, taken_up}
use Rattle.lf_taken.specs.Turns.{heard, taken_alone, taken_by_letters, taken_by_note, taken_by_notes, taken_by_one, taken_in_step, taken_in_turn}
use Rattle.lf_stakes.specs.Stakes.{rules_of}
use Rattle.lf_stakes.proofs.RulesLemmas.{rules-up-to}

-- each of the numbers is one of so many rules
abbrev pub AreNumbers : ℕ → List ℕ → Type 0
AreNumbers n xs = (r : ℕ) → Contains xs r → (1 ≤ r) × (r ≤ n)

none : (n : ℕ) → AreNumbers n []
none n r has = absurd (none-in r has)

one : (n k : ℕ) → 1 ≤ k → k ≤ n → AreNumbers n (k ∷ [])
one n k low high r has = elim (cases_in k [] r has) [
  | inl same ↦ subst (λ m. (1 ≤ m) × (m ≤ n)) same (low, high)
  | inr never ↦ absurd (none-in r never)
]

both : (n : ℕ) (xs ys : List ℕ) → AreNumbers n xs → AreNumbers n ys → AreNumbers n (xs ++ ys)
both n xs ys first second r has = elim (Contains-append_cases xs ys r has) [
  | inl early ↦ first r early
  | inr late ↦ second r late
]

if_so : (n : ℕ) (so : Bool) (xs ys : List ℕ) → AreNumbers n xs → AreNumbers n ys → AreNumbers n (if so then xs else ys)
if_so n true xs ys first second = first
if_so n false xs ys first second = second

-- at an event
module _ (d : Definition) (at : Moment) where
  of_first : (s : Own) (rule : Rule) (rules : List Rule) (n k : ℕ) (so : Bool) → is_true (value_of d at s rule.guard) ≡ so → 1 ≤ k → k ≤ n
      → AreNumbers n (option_to_list (number_true d at s (k + 1) rules)) → AreNumbers n (option_to_list (number_true d at s k (rule ∷ rules)))
  of_first s rule rules n k true so low high later = rw so (one n k low high)
  of_first s rule rules n k false so low high later = rw so later

  of_rules : (s : Own) (rules : List Rule) (n k : ℕ) → 1 ≤ k → k + length rules ≤ n + 1 → AreNumbers n (option_to_list (number_true d at s k rules))
  of_rules s [] n k low fit = none n
  of_rules s (rule ∷ rules) n k low fit =
      of_first s rule rules n k (is_true (value_of d at s rule.guard)) refl low (omega (arith, fit))
      (of_rules s rules n (k + 1) (omega arith) (omega (arith, fit)))

  of_chain : (turn : Stepped Own Packet) (i : ℕ) (found : Option Chain) → slice_get d.chains i ≡ found
      → AreNumbers (rules_in d.chains) (taken_of d at turn i found)
  of_chain turn i None there = none (rules_in d.chains)
  of_chain turn i (Some chain) there =
      let fit : rules_in (take i d.chains) + length chain.rules ≤ rules_in d.chains = rules-up-to d.chains i chain there in
      of_rules turn.state chain.rules (rules_in d.chains) (first_number d i) (omega arith) (omega (arith, fit))

  of_chains : (ns : List ℕ) (turn : Stepped Own Packet) → AreNumbers (rules_in d.chains) (taken_through d at turn ns)
  of_chains [] turn = none (rules_in d.chains)
  of_chains (i ∷ is) turn =
      both (rules_in d.chains) (taken_at d at turn i) (taken_through d at (take_at d at turn i) is) (of_chain turn i (slice_get d.chains i) refl)
      (of_chains is (take_at d at turn i))

  at_event : (event : Event) (turn : Stepped Own Packet) → AreNumbers (rules_in d.chains) (taken_in d at event turn)
  unfolding taken_in
  at_event event turn = of_chains (chosen d at.nodes at.me (given_here at) event) turn

-- at a step
module _ (m : Instance) (n t : ℕ) where
  abbrev rules : ℕ
  rules = rules_in m.definition.chains

  by_one : (turn : Stepped Own Packet) (from : ℕ) (note : Option Message) → AreNumbers rules (taken_by_one m n t turn from note)
  by_one turn from None = none rules
  by_one turn from (Some note) = at_event m.definition (moment m.nodes m.given n t from note.fields) (events.Note note.form) turn

  by_notes : (xs : List (Option Message)) (turn : Stepped Own Packet) (from : ℕ) → AreNumbers rules (taken_by_notes m n t turn from xs)
  by_notes [] turn from = none rules
  by_notes (x ∷ xs) turn from =
      let next = hear_note m.definition m.nodes m.given n t from turn x in
      both rules (taken_by_one m n t turn from x) (taken_by_notes m n t next from xs) (by_one turn from x) (by_notes xs next from)

  by_note : (turn : Stepped Own Packet) (from : ℕ) (note : Note) → AreNumbers rules (taken_by_note m n t turn from note)
  by_note turn from (notes.Ruled packet) = by_notes packet.notes turn from
  by_note turn from note = none rules

  by_letters : (xs : List (Letter Note)) (turn : Stepped Own Packet) → AreNumbers rules (taken_by_letters m n t turn xs)
  by_letters [] turn = none rules
  by_letters (x ∷ xs) turn =
      let next = hear_by_rules m n t turn x in
      both rules (taken_by_note m n t turn x.from x.note) (taken_by_letters m n t next xs) (by_note turn x.from x.note) (by_letters xs next)

  alone : (event : Event) (turn : Stepped Own Packet) → AreNumbers rules (taken_alone m n t event turn)
  alone event turn = at_event m.definition (moment m.nodes m.given n t 0 no_fields) event turn

  in_step : (own : Own) (xs : List (Letter Note)) → AreNumbers rules (taken_in_step m n t own xs)
  in_step own xs =
      let first = taken_alone m n t events.Begin (opened own) in
      let begun = begin_by_rules m n t own in
      let last = taken_alone m n t events.End (heard m n t own xs) in
      both rules (first ++ taken_by_letters m n t begun xs) last
      (both rules first (taken_by_letters m n t begun xs) (alone events.Begin (opened own)) (by_letters xs begun))
      (alone events.End (heard m n t own xs))

  in_turn : (wakes : Bool) (own : Own) (xs : List (Letter Note)) → AreNumbers rules (taken_in_turn m n t wakes own xs)
  in_turn wakes own xs =
      let woken = wake_of m.definition m.nodes m.given n t own in
      if_so rules wakes (taken_alone m n t events.Wake (opened own) ++ taken_in_step m n t woken xs) (taken_in_step m n t own xs)
      (both rules (taken_alone m n t events.Wake (opened own)) (taken_in_step m n t woken xs) (alone events.Wake (opened own)) (in_step woken xs))
      (in_step own xs)

by_kind : (k : Kind) (n t : ℕ) (wakes : Bool) (state : State) (xs : List (Letter Note)) → AreNumbers (rules_of k) (taken_by k n t wakes state xs)
by_kind (kinds.Ruled m) n t wakes (states.Ruled own) xs = in_turn m n t wakes own xs
by_kind k n t wakes state xs = none (rules_of k)

-- at a point of a run
pub numbers-after : (k : Kind) (w : World State Note Fact) (faults : List Parts) (n t : ℕ) → AreNumbers (rules_of k) (taken_after k w faults n t)
numbers-after k w faults n t =
    if_so (rules_of k) (is_up w faults n (t + 1)) (taken_up k w faults n t) []
    (by_kind k n (t + 1) (set_wakes w.pause_length faults n (t + 1)) (view w faults n t) (inbox w faults n (t + 1)))
    (none (rules_of k))
