-- Chains of rules.
use Rattle.std.specs.Prelude.{Bool, true, false, ◌&&◌, ◌==◌, List, [], ◌∷◌, ◌++◌, Option, Some, None}
use Rattle.lf_rules.specs.declared.rule.Chain.{Chain}
use Rattle.lf_rules.specs.declared.rule.Event.{Event}
use Rattle.lf_rules.specs.declared.rule.Event.TheVariants as events
use Rattle.lf_rules.specs.declared.rule.Rule.{Rule}
use Rattle.lf_grammar.specs.declared.token.Token.{Token}
use Rattle.lf_texts.specs.Fronts.{same_tokens}
use Rattle.lf_protocol_file.specs.declared.draft.Who.{Who}
use Rattle.lf_protocol_file.specs.declared.draft.Begun.{Begun}
use Rattle.lf_protocol_file.specs.declared.draft.Draft.{Draft}

abbrev pub same_event : Event → Event → Bool
same_event events.Start events.Start = true
same_event events.Wake events.Wake = true
same_event events.Begin events.Begin = true
same_event events.End events.End = true
same_event (events.Note a) (events.Note b) = a == b
same_event one other = false

-- the same tokens, or none in both
abbrev pub same_text : Option (List Token) → Option (List Token) → Bool
same_text (Some a) (Some b) = same_tokens a b
same_text (Some a) None = false
same_text None (Some b) = false
same_text None None = true

-- a rule on an event, of some nodes, may go on with the chain of the rules above
abbrev pub goes_on : Option Begun → Who → Event → Bool
goes_on None who on = false
goes_on (Some begun) who on = same_event begun.on on && same_text begun.who.tokens who.tokens

abbrev pub chain_of : Begun → Chain
chain_of begun = record { who = begun.who.nodes; on = begun.on; rules = begun.rules }

-- the chain of the rules above is whole
abbrev pub and_chain : Begun → Draft → Draft
and_chain begun d = record d { definition = record d.definition { chains = d.definition.chains ++ chain_of begun ∷ [] } }

abbrev pub with_chain : Option Begun → Draft → Draft
with_chain None d = d
with_chain (Some begun) d = and_chain begun d

abbrev pub with_begun : Option Begun → Draft → Draft
with_begun begun d = record d { begun = begun }

abbrev pub longer : Rule → Begun → Begun
longer rule begun = record begun { rules = begun.rules ++ rule ∷ [] }

-- a rule begins a chain
abbrev pub begins : Who → Event → Rule → Draft → Draft
begins who on rule d = with_begun (Some (record { who = who; on = on; rules = rule ∷ [] })) d

-- a rule goes on with the chain of the rules above, or begins one behind it
abbrev pub continued : Bool → Option Begun → Who → Event → Rule → Draft → Draft
continued true (Some begun) who on rule d = with_begun (Some (longer rule begun)) d
continued true None who on rule d = begins who on rule d
continued false begun who on rule d = begins who on rule (with_chain begun d)

abbrev pub with_rule : Bool → Who → Event → Rule → Draft → Draft
with_rule more who on rule d = continued more d.begun who on rule d

-- the last chain is whole
abbrev pub with_last_chain : Draft → Draft
with_last_chain d = with_begun None (with_chain d.begun d)
