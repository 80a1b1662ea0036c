-- What a promise of a protocol file says of a run: of which nodes, at which steps, which facts.
use Rattle.std.specs.Prelude.{◌≡◌, ℕ, Bool, true, not, ◌&&◌, ◌||◌, ◌==◌, if◌then◌else◌, List, Some, Ok}
use Rattle.std.specs.List.{list_all, list_any, range_with_len}
use Rattle.toml.specs.Data.{Members}
use Rattle.lf_faults.specs.declared.fault.Parts.{Parts}
use Rattle.lf_rules.specs.Terms.{Term}
use Rattle.lf_rules.specs.declared.definition.Definition.{Definition}
use Rattle.lf_rules.specs.declared.definition.Given.{Given}
use Rattle.lf_rules.specs.declared.topic.Topic.{Topic}
use Rattle.lf_rule_machine.specs.declared.state.State.{State as RuleState}
use Rattle.lf_rule_machine.specs.Constants.{given_table}
use Rattle.lf_rule_machine.specs.Machines.{is_told, moment, no_fields}
use Rattle.lf_rule_machine.specs.Sets.{is_true}
use Rattle.lf_rule_machine.specs.Values.{value_of}
use Rattle.lf_rule_machine.specs.declared.fact.Fact.{Fact as Told}
use Rattle.lf_protocols.specs.declared.fact.Fact.{Fact}
use Rattle.lf_protocols.specs.declared.note.Note.{Note}
use Rattle.lf_protocols.specs.declared.state.State.{State}
use Rattle.lf_protocols.specs.declared.state.State.TheVariants as states
use Rattle.lf_sim.specs.Runs.{World, is_up, view}
use Rattle.lf_sim.specs.Settings.{world_of}
use Rattle.lf_outcome.specs.Truth.{reaches}
use Rattle.lf_promises.specs.declared.promise.Many.{Many}
use Rattle.lf_promises.specs.declared.promise.Many.TheVariants as manys
use Rattle.lf_promises.specs.declared.promise.Promise.{Promise, fold-Promise}
use Rattle.lf_promises.specs.declared.promise.Promise.TheOpen.{Promise-F}
use Rattle.lf_own_scenario.specs.declared.scene.Scene.{Scene}
use Rattle.lf_own_scenario.specs.Members.{members}
use Rattle.lf_own_scenario.specs.Quantities.{ruled}
use Rattle.lf_own_scenario.specs.Topics.{topics_in}
use Rattle.lf_protocol_file.specs.declared.declared.Declared.{Declared}
use Rattle.lf_outcome.specs.declared.scenario.Scenario.{Scenario}
use Rattle.lf_own_scenario.specs.Constants.{given_in}
use Rattle.lf_own_scenario.specs.Machines.{kind_of}
use Rattle.lf_own_scenario.specs.Outcomes.{named, said, scene_of}

-- the value of an expression at n on a state of rules, as a rule has it at no step and of no letter
abbrev pub value_on : Definition → Scene → ℕ → State → Term → ℕ
value_on d s n (states.Ruled own) e = value_of d (moment s.nodes s.given n 0 0 no_fields) own e
value_on d s n other e = 0

module _ (w : World State Note Fact) (faults : List Parts) where
  -- n is up at t, and its state after t has the fact
  abbrev pub has_fact : ℕ → Told → ℕ → Bool
  has_fact t fact n = is_up w faults n t && w.rules.shows n (view w faults n t) (ruled fact)

  -- n has it, where it is up
  abbrev pub has_where_up : ℕ → Told → ℕ → Bool
  has_where_up t fact n = not (is_up w faults n t) || w.rules.shows n (view w faults n t) (ruled fact)

  -- of two nodes that have it one is the other
  abbrev pub are_one : ℕ → Told → ℕ → ℕ → Bool
  are_one t fact n m = (n == m) || not (has_fact t fact n && has_fact t fact m)

  -- so many of the nodes have the fact at t: each that is up, none, one at least, one at most
  abbrev pub so_many_have : Many → ℕ → Told → List ℕ → Bool
  so_many_have manys.Each t fact nodes = list_all (has_where_up t fact) nodes
  so_many_have manys.No t fact nodes = list_all (λ n. not (has_fact t fact n)) nodes
  so_many_have manys.Some t fact nodes = list_any (has_fact t fact) nodes
  so_many_have manys.AtMostOne t fact nodes = list_all (λ n. list_all (are_one t fact n) nodes) nodes

  module _ (d : Definition) (s : Scene) (topic : Topic) where
    -- n is up at t, and of its state after t the guard is true
    abbrev pub is_asked : ℕ → ℕ → Bool
    is_asked n t = is_up w faults n t && is_true (value_on d s n (view w faults n t) topic.guard)

    -- what n's state after t has as its key and as its value
    abbrev pub key_at : ℕ → ℕ → ℕ
    key_at n t = value_on d s n (view w faults n t) topic.key

    abbrev pub value_at : ℕ → ℕ → ℕ
    value_at n t = value_on d s n (view w faults n t) topic.value

    -- unless n at t and m at u are both asked and have one key, nothing is said of them; else they have one value
    abbrev pub have_one_value : ℕ → ℕ → ℕ → ℕ → Bool
    have_one_value t n u m = not (is_asked n t && (is_asked m u && (key_at n t == key_at m u))) || (value_at n t == value_at m u)

    -- each two of the nodes have, at each two of the steps
    abbrev pub is_one_value : Bool
    is_one_value =
        list_all (λ t. list_all (λ n. list_all (λ u. list_all (have_one_value t n u) (range_with_len 0 s.nodes)) (range_with_len 1 s.horizon))
        (range_with_len 0 s.nodes)) (range_with_len 1 s.horizon)

  -- one level at t, with what each part is at each step in its place. The steps are 1 to the last
  abbrev pub kept_step : Definition → Scene → Promise-F (ℕ → Bool) → ℕ → Bool
  kept_step d s (Promise-F.All parts) t = list_all (λ part. part t) parts
  kept_step d s (Promise-F.Any parts) t = list_any (λ part. part t) parts
  kept_step d s (Promise-F.Always parts) t = list_all (λ u. list_all (λ part. part u) parts) (range_with_len 1 s.horizon)
  kept_step d s (Promise-F.Ever parts) t = list_any (λ u. list_any (λ part. part u) parts) (range_with_len 1 s.horizon)
  kept_step d s (Promise-F.Nodes many fact of) t = so_many_have many t fact (members s of)
  kept_step d s (Promise-F.Down n) t = not (is_up w faults n t)
  kept_step d s (Promise-F.At n fact) t = has_fact t fact n
  kept_step d s (Promise-F.One topic) t = is_one_value d s topic

  -- the promise is kept at t
  abbrev pub is_kept : Definition → Scene → Promise → ℕ → Bool
  is_kept d s = fold-Promise (ℕ → Bool) (kept_step d s)

  -- n's view after t is a state of rules, which has a fact where the protocol's definition says so of it: by the value of the guard, if it is a named one
  pub record IsOfRules (file : Declared) (nodes : ℕ) (given : List Given) (n t : ℕ) : Type 0 where
    pub own : RuleState
    pub state : view w faults n t ≡ states.Ruled own
    pub facts : (fact : Told) → w.rules.shows n (view w faults n t) (ruled fact)
        ≡ (if fact.denied then not (is_told file.definition nodes (given_table nodes given) n own fact.told)
        else is_told file.definition nodes (given_table nodes given) n own fact.told)

-- the scenario of a table whose outcome is a text: what its constants are, which promise the text is, and in which runs its formula is true.
-- Its protocol has the promise's topics
pub record IsPromised (file : Declared) (ms : Members) (words : List ℕ) (s : Scenario) : Type 0 where
  pub given : List Given
  pub promise : Promise
  pub constants : given_in file s.setting.spec.nodes ms ≡ Ok given
  pub text : said file given words (named words file.outcomes) ≡ Ok promise
  pub protocol : s.setting.machine ≡ kind_of file s.setting.spec.nodes given (topics_in promise)
  -- in the run of each list of faults the formula is true where the promise is kept at the last step, and nowhere else
  pub kept : (faults : List Parts) → reaches (world_of s.setting) faults s.formula
      ≡ is_kept (world_of s.setting) faults file.definition (scene_of s.setting.spec given) promise s.setting.spec.horizon
  -- and facts are what the protocol's definition says
  pub states : (faults : List Parts) (n t : ℕ) → IsOfRules (world_of s.setting) faults file s.setting.spec.nodes given n t
