-- The rules whose numbers are told do what the node does.
use Rattle.std.proofs.Common.{◌≡◌, ℕ, zero, suc, ◌+◌, Bool, true, false, List, [], ◌∷◌, ◌++◌, length, take, refl, sym, ap, ◌∙◌, arith, add-one, zero-add}
use Rattle.std.specs.Prelude.{slice_get, Option, None, Some}
use Rattle.std.specs.Option.{option_to_list}
use Rattle.std.specs.List.{fold}
use Rattle.std.proofs.lemmas.List.Sums.{fold-append}
use Rattle.lf_sim.specs.declared.out.Stepped.{Stepped}
use Rattle.lf_rules.specs.declared.rule.Event.{Event}
use Rattle.lf_rules.specs.declared.rule.Rule.{Rule}
use Rattle.lf_rules.specs.declared.rule.Chain.{Chain}
use Rattle.lf_rules.specs.declared.definition.Definition.{Definition}
use Rattle.lf_rules.specs.Forms.{rules_in}
use Rattle.lf_rule_machine.specs.Moments.{Moment, given_here}
use Rattle.lf_rule_machine.specs.declared.state.State.{State}
use Rattle.lf_rule_machine.specs.declared.state.Packet.{Packet}
use Rattle.lf_rule_machine.specs.Sets.{is_true}
use Rattle.lf_rule_machine.specs.Values.{value_of}
use Rattle.lf_rule_machine.specs.Events.{first_true, do_found, act}
use Rattle.lf_rule_machine.specs.Choices.{chosen, take_at}
use Rattle.lf_rule_machine.proofs.Laws.{chosen-acts}
use Rattle.lf_taken.specs.Numbers.{number_true, taken_of, taken_at, taken_through, taken_in}
use Rattle.lf_taken.specs.Readings.{all_rules, do_number}
use Rattle.lf_taken.proofs.NumbersLemmas.{rules-cons}

-- an item of the first of two lists, and of the second
in-first : (xs ys : List Rule) (m : ℕ) (r : Rule) → slice_get xs m ≡ Some r → slice_get (xs ++ ys) m ≡ Some r
in-first [] ys m r there = cc
in-first (x ∷ xs) ys zero r there = there
in-first (x ∷ xs) ys (suc m) r there = in-first xs ys m r there

in-second : (xs ys : List Rule) (m : ℕ) → slice_get (xs ++ ys) (length xs + m) ≡ slice_get ys m
in-second [] ys m = ap (slice_get ys) (zero-add m)
in-second (x ∷ xs) ys m =
    let next : suc (length xs) + m ≡ suc (length xs + m) = omega arith in
    ap (slice_get (x ∷ (xs ++ ys))) next ∙ in-second xs ys m

-- a rule of a chain among all
rule-at : (xs : List Chain) (i : ℕ) (x : Chain) → slice_get xs i ≡ Some x → (m : ℕ) (r : Rule) → slice_get x.rules m ≡ Some r
    → slice_get (all_rules xs) (rules_in (take i xs) + m) ≡ Some r
rule-at [] i x there m r is = cc
rule-at (y ∷ ys) zero x there m r is =
    let same : x ≡ y = cc in
    ap (slice_get (y.rules ++ all_rules ys)) (zero-add m) ∙ in-first y.rules (all_rules ys) m r (ap (λ (c : Chain). slice_get c.rules m) (sym same) ∙ is)
rule-at (y ∷ ys) (suc i) x there m r is =
    let further : rules_in (y ∷ take i ys) + m ≡ length y.rules + (rules_in (take i ys) + m) = omega (arith, rules-cons y (take i ys)) in
    ap (slice_get (y.rules ++ all_rules ys)) further ∙ in-second y.rules (all_rules ys) (rules_in (take i ys) + m) ∙ rule-at ys i x there m r is

module _ (d : Definition) (at : Moment) where
  done-next : (r : Rule) (rs : List Rule) (turn : Stepped State Packet) (i : ℕ) (b : Bool) → is_true (value_of d at turn.state r.guard) ≡ b
      → slice_get (all_rules d.chains) i ≡ Some r
      → fold (do_number d at) turn (option_to_list (number_true d at turn.state (i + 1 + 1) rs)) ≡ do_found d at turn (first_true d at turn.state rs)
      → fold (do_number d at) turn (option_to_list (number_true d at turn.state (i + 1) (r ∷ rs))) ≡ do_found d at turn (first_true d at turn.state (r ∷ rs))
  done-next r rs turn i true so there next = rw so (ap (do_number d at turn) (add-one i) ∙ ap (do_found d at turn) there)
  done-next r rs turn i false so there next = rw so next

  done-one : (rules : List Rule) (turn : Stepped State Packet) (i : ℕ)
      → ((m : ℕ) (r : Rule) → slice_get rules m ≡ Some r → slice_get (all_rules d.chains) (i + m) ≡ Some r)
      → fold (do_number d at) turn (option_to_list (number_true d at turn.state (i + 1) rules)) ≡ do_found d at turn (first_true d at turn.state rules)
  done-one [] turn i here = refl
  done-one (r ∷ rs) turn i here =
      let first : i ≡ i + 0 = omega arith in
      done-next r rs turn i (is_true (value_of d at turn.state r.guard)) refl (ap (slice_get (all_rules d.chains)) first ∙ here 0 r refl)
      (done-one rs turn (i + 1) (λ m x there.
      let one_on : i + 1 + m ≡ i + suc m = omega arith in ap (slice_get (all_rules d.chains)) one_on ∙ here (suc m) x there))

  done-of : (turn : Stepped State Packet) (i : ℕ) (found : Option Chain) → slice_get d.chains i ≡ found
      → fold (do_number d at) turn (taken_of d at turn i found) ≡ take_at d at turn i
  done-of turn i None there = rw there refl
  done-of turn i (Some chain) there = rw there (done-one chain.rules turn (rules_in (take i d.chains)) (rule-at d.chains i chain there))

  done-through : (ns : List ℕ) (turn : Stepped State Packet) → fold (do_number d at) turn (taken_through d at turn ns) ≡ fold (take_at d at) turn ns
  done-through [] turn = refl
  done-through (i ∷ is) turn =
      fold-append (do_number d at) turn (taken_at d at turn i) (taken_through d at (take_at d at turn i) is)
      ∙ ap (λ s. fold (do_number d at) s (taken_through d at (take_at d at turn i) is)) (done-of turn i (slice_get d.chains i) refl)
      ∙ done-through is (take_at d at turn i)

  pub told-acts : (event : Event) (turn : Stepped State Packet) → fold (do_number d at) turn (taken_in d at event turn) ≡ act d at event turn
  unfolding taken_in
  told-acts event turn = done-through (chosen d at.nodes at.me (given_here at) event) turn ∙ chosen-acts d at event turn
