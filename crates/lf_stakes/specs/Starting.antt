-- Which rules of a protocol are those of the start, by which a node's state is made before step 1.
use Rattle.std.specs.Prelude.{Bool, true, false, List, [], map}
use Rattle.std.specs.List.{flat_map}
use Rattle.lf_rules.specs.declared.rule.Event.{Event}
use Rattle.lf_rules.specs.declared.rule.Event.TheVariants as events
use Rattle.lf_rules.specs.declared.rule.Chain.{Chain}
use Rattle.lf_protocols.specs.declared.protocol.Kind.{Kind}
use Rattle.lf_protocols.specs.declared.protocol.Kind.TheVariants as kinds

abbrev pub is_start : Event → Bool
is_start events.Start = true
is_start other = false

-- whether each rule of a chain is
abbrev pub chain_starts : Chain → List Bool
chain_starts chain = map (λ rule. is_start chain.on) chain.rules

-- whether each rule is, by its number
abbrev pub starts_of : Kind → List Bool
starts_of (kinds.Ruled m) = flat_map chain_starts m.definition.chains
starts_of other = []
