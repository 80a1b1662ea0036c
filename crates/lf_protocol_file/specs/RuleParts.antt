-- Rules.
use Rattle.std.specs.Prelude.{ℕ, Bool, true, false, not, ◌&&◌, if◌then◌else◌, List, [], Option, Some, None, Ok, Err}
use Rattle.toml.specs.Data.{Data, table, Members, no_members, member, get_member}
use Rattle.lf_rules.specs.Terms as terms
use Rattle.lf_rules.specs.declared.expr.Leaf.TheVariants as leaves
use Rattle.lf_rules.specs.declared.rule.Assignment.{Assignment}
use Rattle.lf_rules.specs.declared.rule.Event.{Event}
use Rattle.lf_rules.specs.declared.rule.Event.TheVariants as events
use Rattle.lf_rules.specs.declared.rule.Send.{Send}
use Rattle.lf_rules.specs.declared.sort.Scope.TheVariants as scopes
use Rattle.lf_rules.specs.Forms.{scope_of}
use Rattle.lf_texts.specs.Assignments.{sets_in}
use Rattle.lf_texts.specs.Events.{event_in}
use Rattle.lf_texts.specs.Sends.{sends_in}
use Rattle.lf_texts.specs.Values.{nodes_in, when_in}
use Rattle.lf_texts.specs.declared.events.Heard.{Heard}
use Rattle.lf_texts.specs.declared.values.When.{When}
use Rattle.lf_protocol_file.specs.declared.draft.Who.{Who}
use Rattle.lf_protocol_file.specs.declared.draft.Draft.{Draft}
use Rattle.lf_protocol_file.specs.declared.error.ProtocolError.TheVariants as refusals
use Rattle.lf_protocol_file.specs.declared.fault.Fault.TheVariants as faults
use Rattle.lf_protocol_file.specs.declared.path.Path.TheVariants as paths
use Rattle.lf_protocol_file.specs.declared.section.Listing.TheVariants as listings
use Rattle.lf_protocol_file.specs.declared.section.Part.{Part}
use Rattle.lf_protocol_file.specs.declared.section.Part.TheVariants as parts
use Rattle.lf_protocol_file.specs.Refusals.{shown}
use Rattle.lf_protocol_file.specs.Sections.{is_part, part_name}
use Rattle.lf_protocol_file.specs.Readings.{Valued, Reading, ◌>>=◌, as_value, located}
use Rattle.lf_protocol_file.specs.Texts.{tokens_in}
use Rattle.lf_protocol_file.specs.Drafts.{place_in}
use Rattle.lf_protocol_file.specs.Chains.{goes_on, with_rule}
use Rattle.lf_grammar.specs.declared.token.Token.{Token}

-- each key is one of a rule's, or the first by name that is none is refused
unfoldable pub known_parts : ℕ → Members → Reading (Unit {0})
known_parts number no_members = Ok tt
known_parts number (member key x ms) = if is_part key then known_parts number ms else Err (refusals.Unknown (paths.PartKey number (shown key)))

-- the tokens of a part, where it is there
abbrev pub tokens_at : Option Data → Valued (Option (List Token))
tokens_at None = Ok None
tokens_at (Some x) = tokens_in x >>= λ ts. Ok (Some ts)

unfoldable pub part_tokens : Members → Part → Valued (Option (List Token))
part_tokens ms part = tokens_at (get_member (part_name part) ms)

-- whose rule it is: every node's, where that isn't said
abbrev pub who_by : Draft → Option (List Token) → Valued Who
who_by d None = Ok (record { nodes = terms.Leaf leaves.All; tokens = None })
who_by d (Some ts) = as_value (nodes_in (place_in d [] scopes.Who) ts) >>= λ e. Ok (record { nodes = e; tokens = Some ts })

unfoldable pub who_in : Draft → Members → Valued Who
who_in d ms = part_tokens ms parts.Who >>= λ ts. who_by d ts

-- what it is on, which has to be said
abbrev pub heard_by : Draft → Option (List Token) → Valued Heard
heard_by d None = Err faults.Missing
heard_by d (Some ts) = as_value (event_in (place_in d [] scopes.Plain) ts)

unfoldable pub heard_in : Draft → Members → Valued Heard
heard_in d ms = part_tokens ms parts.On >>= λ ts. heard_by d ts

-- `else` stands only right under a rule of the same nodes on the same event
abbrev pub under : Bool → When → Valued When
under more when = if when.is_else && not more then Err faults.Unfit else Ok when

-- when it is taken: always, where that isn't said
abbrev pub when_by : Draft → Who → Heard → Option (List Token) → Valued When
when_by d who h None = Ok (record { is_else = false; guard = terms.Leaf (leaves.Truth true) })
when_by d who h (Some ts) = as_value (when_in (place_in d h.fields (scope_of h.on)) ts) >>= λ when. under (goes_on d.begun who h.on) when

unfoldable pub condition_in : Draft → Who → Heard → Members → Valued When
condition_in d who h ms = part_tokens ms parts.When >>= λ ts. when_by d who h ts

-- what it sets: nothing, where that isn't said
abbrev pub sets_by : Draft → Heard → Option (List Token) → Valued (List Assignment)
sets_by d h None = Ok []
sets_by d h (Some ts) = as_value (sets_in (place_in d h.fields (scope_of h.on)) ts)

unfoldable pub changes_in : Draft → Heard → Members → Valued (List Assignment)
changes_in d h ms = part_tokens ms parts.Set >>= λ ts. sets_by d h ts

-- a rule on this may send
abbrev pub may_send : Event → Bool
may_send events.Start = false
may_send events.Wake = false
may_send other = true

-- what it sends: nothing, where that isn't said, and nothing at the start and on waking
abbrev pub sends_by : Draft → Heard → Option (List Token) → Valued (List Send)
sends_by d h None = Ok []
sends_by d h (Some ts) = if may_send h.on then as_value (sends_in (place_in d h.fields (scope_of h.on)) ts) else Err faults.Unfit

unfoldable pub letters_in : Draft → Heard → Members → Valued (List Send)
letters_in d h ms = part_tokens ms parts.Send >>= λ ts. sends_by d h ts

-- one more rule, which has a number: its parts, in order
unfoldable pub rule_of : Draft → ℕ → Members → Reading Draft
rule_of d number ms = do
  known ← known_parts number ms
  who ← located (paths.Part number parts.Who) (who_in d ms)
  heard ← located (paths.Part number parts.On) (heard_in d ms)
  when ← located (paths.Part number parts.When) (condition_in d who heard ms)
  sets ← located (paths.Part number parts.Set) (changes_in d heard ms)
  sends ← located (paths.Part number parts.Send) (letters_in d heard ms)
  Ok (with_rule when.is_else who heard.on (record { guard = when.guard; sets = sets; sends = sends }) d)

abbrev pub rule_in : Draft → ℕ → Data → Reading Draft
rule_in d number (table ms) = rule_of d number ms
rule_in d number other = Err (refusals.WrongKind (paths.Item listings.Rules number))
