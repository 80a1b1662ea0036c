-- Scenarios of protocol files.
use Rattle.std.specs.Prelude.{◌≡◌, ◌⊎◌, ℕ, ◌<◌, ◌≤◌, List, [], length, Ok, Err}
use Rattle.toml.specs.Data.{Members}
use Rattle.lf_rules.specs.declared.definition.Given.{Given}
use Rattle.lf_rules.specs.declared.topic.Topic.{Topic}
use Rattle.lf_protocol_file.specs.declared.declared.Declared.{Declared}
use Rattle.lf_scenario.specs.declared.key.Key.TheVariants as keys
use Rattle.lf_scenario.specs.declared.error.ScenarioError.{ScenarioError}
use Rattle.lf_scenario.specs.declared.error.ScenarioError.TheVariants as refusals
use Rattle.lf_scenario.specs.declared.reading.Described.{Described}
use Rattle.lf_outcome.specs.declared.scenario.Scenario.{Scenario}
use Rattle.lf_scenario.specs.Limits.{longest}
use Rattle.lf_scenario.specs.LinkTables.{all_links}
use Rattle.lf_scenario.specs.Scenarios.{Asked, IsDocument, IsScenario}
use Rattle.lf_scenario.specs.Values.{Reading, ◌>>=◌, required}
use Rattle.lf_own_scenario.specs.Keys.{bounded_in, settled_in}
use Rattle.lf_own_scenario.specs.Constants.{given_in}
use Rattle.lf_own_scenario.specs.Machines.{kind_of, with_topics}
use Rattle.lf_own_scenario.specs.Outcomes.{outcome_in}

-- what a scenario says but its outcome and its links, with what the constants are
pub record Settled : Type 0 where
  pub described : Described
  pub given : List Given

-- the same, where its nodes enter what these topics say
abbrev pub asking : Described → List Topic → Described
asking x topics = record { bounds = x.bounds; max_sets = x.max_sets; delays = x.delays; protocol = with_topics x.protocol topics }

module _ (file : Declared) where
  unfoldable pub chosen_in : Members → Reading Settled
  chosen_in ms = do
    bounded ← bounded_in ms
    named ← settled_in file.name ms
    given ← given_in file bounded.bounds.nodes ms
    Ok (record {
      described = record {
        bounds = bounded.bounds;
        max_sets = bounded.max_sets;
        delays = bounded.delays;
        protocol = kind_of file bounded.bounds.nodes given [];
      };
      given = given;
    })

  -- what a table says, key by key. The protocol has the topics of the outcome
  unfoldable pub asked_with : Members → Reading Asked
  asked_with ms = do
    chosen ← chosen_in ms
    demand ← required ms keys.Outcome (outcome_in file chosen.given chosen.described.bounds)
    links ← all_links chosen.described.bounds.nodes chosen.described.delays.least chosen.described.delays.spread ms
    Ok (record { described = asking chosen.described demand.topics; formula = demand.formula; links = links })

  -- the scenario that a table asks for
  pub record IsAskedWith (ms : Members) (s : Scenario) : Type 0 where
    pub asked : Asked
    pub reading : asked_with ms ≡ Ok asked
    pub scenario : IsScenario asked s

  -- the text is refused for this reason: it is too long, it is no document, or the reading of its members refuses it
  abbrev pub IsRefusedWith : List ℕ → ScenarioError → Type 0
  IsRefusedWith text e =
      ((longest < length text) × (e ≡ refusals.TooLong))
      ⊎ ((length text ≤ longest) × ((ms : Members) → IsDocument text ms → ⊥) × (e ≡ refusals.NoDocument))
      ⊎ ((length text ≤ longest) × (ms : Members) × IsDocument text ms × (asked_with ms ≡ Err e))

  -- the text is short enough and a document, and its members ask for the scenario
  pub record IsTextWith (s : Scenario) (text : List ℕ) : Type 0 where
    pub short : length text ≤ longest
    pub members : Members
    pub document : IsDocument text members
    pub asked : IsAskedWith members s
