-- What the items of a file's rules say, one by one, and where the rules that they say stand.
use Rattle.std.specs.Prelude.{◌≡◌, ℕ, ◌+◌, Bool, if◌then◌else◌, List, [], ◌∷◌, ◌++◌, map, length, codes, Some, Ok, Err}
use Rattle.toml.specs.Data.{Data, table, array, Items, no_items, item, Members, get_member}
use Rattle.lf_rules.specs.Terms.{Term}
use Rattle.lf_rules.specs.Terms as terms
use Rattle.lf_rules.specs.declared.expr.Leaf.TheVariants as leaves
use Rattle.lf_rules.specs.declared.rule.Chain.{Chain}
use Rattle.lf_rules.specs.declared.rule.Event.{Event}
use Rattle.lf_rules.specs.declared.rule.Rule.{Rule}
use Rattle.lf_taken.specs.Readings.{all_rules}
use Rattle.lf_protocol_file.specs.declared.error.ProtocolError.TheVariants as refusals
use Rattle.lf_protocol_file.specs.declared.path.Path.TheVariants as paths
use Rattle.lf_protocol_file.specs.declared.section.Listing.TheVariants as listings
use Rattle.lf_protocol_file.specs.declared.section.Part.TheVariants as parts
use Rattle.lf_protocol_file.specs.Readings.{Reading, ◌>>=◌, located}
use Rattle.lf_protocol_file.specs.Texts.{count_items}
use Rattle.lf_protocol_file.specs.declared.draft.Draft.{Draft}
use Rattle.lf_protocol_file.specs.declared.draft.Who.{Who}
use Rattle.lf_protocol_file.specs.declared.declared.Declared.{Declared}
use Rattle.lf_protocol_file.specs.Chains.{with_rule}
use Rattle.lf_protocol_file.specs.Files.{declared_in}
use Rattle.lf_protocol_file.specs.RuleParts.{known_parts, who_in, heard_in, condition_in, changes_in, letters_in}

-- what an item says: whose rule it is, on what, whether it goes on with the rule above, and the rule itself
pub record Spoken : Type 0 where
  pub who : Who
  pub on : Event
  pub is_else : Bool
  pub rule : Rule

-- what the item with a number says, under the rules that are read already
unfoldable pub spoken_of : Draft → ℕ → Members → Reading Spoken
spoken_of d number ms = do
  known ← known_parts number ms
  who ← located (paths.Part number parts.Who) (who_in d ms)
  heard ← located (paths.Part number parts.On) (heard_in d ms)
  when ← located (paths.Part number parts.When) (condition_in d who heard ms)
  sets ← located (paths.Part number parts.Set) (changes_in d heard ms)
  sends ← located (paths.Part number parts.Send) (letters_in d heard ms)
  Ok (record { who = who; on = heard.on; is_else = when.is_else; rule = record { guard = when.guard; sets = sets; sends = sends } })

abbrev pub spoken_in : Draft → ℕ → Data → Reading Spoken
spoken_in d number (table ms) = spoken_of d number ms
spoken_in d number other = Err (refusals.WrongKind (paths.Item listings.Rules number))

-- the draft with the rule that an item says
abbrev pub with_spoken : Spoken → Draft → Draft
with_spoken s d = with_rule s.is_else s.who s.on s.rule d

-- what all items say, in order, from one on, which has the number after this one
abbrev pub spoken_from : Draft → ℕ → Items → Reading (List Spoken)
spoken_from d i no_items = Ok []
spoken_from d i (item x xs) = spoken_in d (i + 1) x >>= λ s. spoken_from (with_spoken s d) (i + 1) xs >>= λ more. Ok (s ∷ more)

-- a rule, with the nodes and the event of its chain
pub record Placed : Type 0 where
  pub nodes : Term
  pub on : Event
  pub rule : Rule

abbrev pub placed_in : Chain → Rule → Placed
placed_in chain rule = record { nodes = chain.who; on = chain.on; rule = rule }

-- the rules of all chains, in order
abbrev pub all_placed : List Chain → List Placed
all_placed [] = []
all_placed (chain ∷ chains) = map (placed_in chain) chain.rules ++ all_placed chains

-- whose rule it is: with `else` that of the nodes of the rule above
abbrev pub nodes_of : Term → Spoken → Term
nodes_of above s = if s.is_else then above else s.who.nodes

-- the rules that items say, under one of these nodes
abbrev pub placed_from : Term → List Spoken → List Placed
placed_from above [] = []
placed_from above (s ∷ more) = record { nodes = nodes_of above s; on = s.on; rule = s.rule } ∷ placed_from (nodes_of above s) more

-- the rules of a file, by their numbers, are what the items of its members say, in order
pub record AreNumbered (ms : Members) (file : Declared) : Type 0 where
  -- the file as far as it is read before its rules, and the items
  pub before : Draft
  pub items : Items
  pub declared : declared_in ms ≡ Ok before
  pub list : get_member (codes "rules") ms ≡ Some (array items)
  -- what each item says
  pub spoken : List Spoken
  pub said : spoken_from before 0 items ≡ Ok spoken
  pub count : length spoken ≡ count_items items
  -- these are the rules, with their nodes and events, and none besides
  pub rules : all_rules file.definition.chains ≡ map (λ s. s.rule) spoken
  pub placed : all_placed file.definition.chains ≡ placed_from (terms.Leaf leaves.All) spoken
