-- What a well-formed definition says of its chains, their rules and what these send.
use Rattle.std.proofs.Common.{◌≡◌, ℕ, ◌≤◌, Bool, true, List, length}
use Rattle.std.specs.Prelude.{◌&&◌, nat_le, slice_get}
use Rattle.std.specs.List.{list_all, list_any}
use Rattle.std.proofs.lemmas.Bool.{and_parts, leb-true}
use Rattle.lf_rules.specs.declared.rule.Event.{Event}
use Rattle.lf_rules.specs.declared.rule.Send.{Send}
use Rattle.lf_rules.specs.declared.rule.Rule.{Rule}
use Rattle.lf_rules.specs.declared.rule.Chain.{Chain}
use Rattle.lf_rules.specs.declared.sort.Scope.{Scope}
use Rattle.lf_rules.specs.declared.sort.Scope.TheVariants as scopes
use Rattle.lf_rules.specs.declared.sort.Sort.TheVariants as sorts
use Rattle.lf_rules.specs.declared.sort.Within.TheVariants as withins
use Rattle.lf_rules.specs.declared.definition.Definition.{Definition}
use Rattle.lf_rules.specs.Trees.{has_it}
use Rattle.lf_rules.specs.Sorts.{is_a}
use Rattle.lf_rules.specs.Forms.{is_chain, is_event, is_rule_in, is_assignment, is_send, are_sent, same_truth, scope_of, sends_of}
use Rattle.lf_rule_machine.specs.Sets.{has}
use Rattle.lf_rule_machine.specs.Values.{fixed_value}
use Rattle.lf_rule_machine.specs.Events.{same_event, is_passed}

last-two : (a b c e f : Bool) → (a && (b && (c && (e && f)))) ≡ true → (e ≡ true) × (f ≡ true)
last-two a b c e f all =
    let after_b = (and_parts b (c && (e && f)) (and_parts a (b && (c && (e && f))) all).1).1 in
    and_parts e f (and_parts c (e && f) after_b).1

last-of-four : (a b c e : Bool) → (a && (b && (c && e))) ≡ true → e ≡ true
last-of-four a b c e all = (and_parts c e (and_parts b (c && e) (and_parts a (b && (c && e)) all).1).1).1

module _ (d : Definition) where
  pub rule-sends : (scope : Scope) (sends : ℕ) (rule : Rule) → is_rule_in d scope sends rule ≡ true
      → (length rule.sends ≤ sends) × (list_all (is_send d scope) rule.sends ≡ true)
  rule-sends scope sends rule formed =
      let parts = last-two (is_a d scope withins.Nothing sorts.Truth rule.guard) (nat_le (length rule.sets) 16) (list_all (is_assignment d scope) rule.sets)
      (nat_le (length rule.sends) sends) (list_all (is_send d scope) rule.sends) formed in
      (leb-true (length rule.sends) sends parts.0, parts.1)

  pub chain-rules : (chain : Chain) → is_chain d chain ≡ true → list_all (is_rule_in d (scope_of chain.on) (sends_of chain.on)) chain.rules ≡ true
  chain-rules chain formed =
      last-of-four (is_a d scopes.Who withins.Nothing sorts.Nodes chain.who) (is_event d chain.on) (nat_le 1 (length chain.rules))
      (list_all (is_rule_in d (scope_of chain.on) (sends_of chain.on)) chain.rules) formed

  pub send-form : (scope : Scope) (x : Send) → is_send d scope x ≡ true → are_sent d scope (slice_get d.notes x.form) x.fields ≡ true
  send-form scope x formed =
      (and_parts (are_sent d scope (slice_get d.notes x.form) x.fields)
      (is_a d scope withins.Nothing sorts.Nodes x.to && same_truth x.each (list_any has_it x.fields)) formed).0

-- a chain that is gone through is on the event
pub passed-event : (nodes me : ℕ) (given : List ℕ) (event : Event) (chain : Chain) → is_passed nodes me given event chain ≡ true
    → same_event chain.on event ≡ true
passed-event nodes me given event chain passed = (and_parts (same_event chain.on event) (has (fixed_value nodes given chain.who) me) passed).0
