-- Which chains a node goes through at an event, known before the event.
use Rattle.std.specs.Prelude.{ℕ, ◌+◌, Bool, List, [], ◌∷◌, Option, None, Some, if◌then◌else◌, slice_get}
use Rattle.lf_sim.specs.declared.out.Stepped.{Stepped}
use Rattle.lf_rules.specs.declared.rule.Event.{Event}
use Rattle.lf_rules.specs.declared.rule.Chain.{Chain}
use Rattle.lf_rules.specs.declared.definition.Definition.{Definition}
use Rattle.lf_rule_machine.specs.Moments.{Moment}
use Rattle.lf_rule_machine.specs.declared.state.State.{State}
use Rattle.lf_rule_machine.specs.declared.state.Packet.{Packet}
use Rattle.lf_rule_machine.specs.Events.{is_passed, take_first}

-- the numbers, from i on, of the chains of which f is so
abbrev pub numbers_of : (Chain → Bool) → ℕ → List Chain → List ℕ
numbers_of f i [] = []
numbers_of f i (x ∷ xs) = if f x then i ∷ numbers_of f (i + 1) xs else numbers_of f (i + 1) xs

-- the numbers of the chains that a node goes through at an event, in order
abbrev pub chosen : Definition → ℕ → ℕ → List ℕ → Event → List ℕ
chosen d nodes me given event = numbers_of (is_passed nodes me given event) 0 d.chains

-- a chain that is gone through, by its number
module _ (d : Definition) (at : Moment) where
  abbrev pub take_of : Stepped State Packet → Option Chain → Stepped State Packet
  take_of turn None = turn
  take_of turn (Some chain) = take_first d at turn chain.rules

  abbrev pub take_at : Stepped State Packet → ℕ → Stepped State Packet
  take_at turn i = take_of turn (slice_get d.chains i)
