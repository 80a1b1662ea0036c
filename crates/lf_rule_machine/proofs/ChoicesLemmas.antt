-- The chains that a node goes through, by their numbers.
use Rattle.std.proofs.Common.{◌≡◌, ℕ, suc, ◌+◌, Bool, true, false, List, [], ◌∷◌, refl, ap, ◌∙◌, arith}
use Rattle.std.specs.Prelude.{slice_get, Some}
use Rattle.std.specs.List.{fold}
use Rattle.lf_sim.specs.declared.out.Stepped.{Stepped}
use Rattle.lf_rules.specs.declared.rule.Event.{Event}
use Rattle.lf_rules.specs.declared.rule.Chain.{Chain}
use Rattle.lf_rules.specs.declared.definition.Definition.{Definition}
use Rattle.lf_rule_machine.specs.Moments.{Moment, given_here}
use Rattle.lf_rule_machine.specs.declared.state.State.{State}
use Rattle.lf_rule_machine.specs.declared.state.Packet.{Packet}
use Rattle.lf_rule_machine.specs.Events.{is_passed, take_first, pass, act}
use Rattle.lf_rule_machine.specs.Choices.{numbers_of, chosen, take_of, take_at}

module _ (d : Definition) (at : Moment) (event : Event) where
  abbrev is_so : Chain → Bool
  is_so = is_passed at.nodes at.me (given_here at) event

  -- one chain, and then those after it
  chosen-next : (x : Chain) (xs : List Chain) (i : ℕ) (turn : Stepped State Packet) (b : Bool) → is_so x ≡ b → slice_get d.chains i ≡ Some x
      → ((after : Stepped State Packet) → fold (take_at d at) after (numbers_of is_so (i + 1) xs) ≡ fold (pass d at event) after xs)
      → fold (take_at d at) turn (numbers_of is_so i (x ∷ xs)) ≡ fold (pass d at event) turn (x ∷ xs)
  chosen-next x xs i turn true so here next =
      rw so (ap (λ c. fold (take_at d at) (take_of d at turn c) (numbers_of is_so (i + 1) xs)) here ∙ next (take_first d at turn x.rules))
  chosen-next x xs i turn false so here next = rw so (next turn)

  -- from the i-th chain on
  chosen-from : (xs : List Chain) (i : ℕ) (turn : Stepped State Packet) → ((k : ℕ) → slice_get d.chains (i + k) ≡ slice_get xs k)
      → fold (take_at d at) turn (numbers_of is_so i xs) ≡ fold (pass d at event) turn xs
  chosen-from [] i turn same = refl
  chosen-from (x ∷ xs) i turn same =
      let first : i ≡ i + 0 = omega arith in
      chosen-next x xs i turn (is_so x) refl (ap (slice_get d.chains) first ∙ same 0) (λ after. chosen-from xs (i + 1) after (λ k.
      let one_on : i + 1 + k ≡ i + suc k = omega arith in ap (slice_get d.chains) one_on ∙ same (suc k)))

  pub chosen-acts : (turn : Stepped State Packet) → fold (take_at d at) turn (chosen d at.nodes at.me (given_here at) event) ≡ act d at event turn
  unfolding act
  chosen-acts turn = chosen-from d.chains 0 turn (λ k. let e : 0 + k ≡ k = omega arith in ap (slice_get d.chains) e)
