-- What is read of a text.
use Rattle.std.specs.Prelude.{◌≡◌, ◌⊎◌, ℕ, ◌<◌, ◌≤◌, List, length, None, Some, Ok, Err, IsUtf8}
use Rattle.toml.specs.Data.{Members}
use Rattle.toml.specs.Parse.{parse_document}
use Rattle.lf_latency.specs.declared.links.Links.{Links}
use Rattle.lf_latency.specs.declared.network.Timing.{Timing}
use Rattle.lf_protocols.specs.declared.fact.Fact.{Fact}
use Rattle.lf_outcome.specs.declared.formula.Formula.{Formula}
use Rattle.lf_scenario.specs.declared.key.Key.TheVariants as keys
use Rattle.lf_scenario.specs.declared.error.ScenarioError.{ScenarioError}
use Rattle.lf_scenario.specs.declared.error.ScenarioError.TheVariants as refusals
use Rattle.lf_scenario.specs.Limits.{longest}
use Rattle.lf_scenario.specs.declared.reading.Described.{Described}
use Rattle.lf_outcome.specs.declared.scenario.Scenario.{Scenario}
use Rattle.lf_scenario.specs.Values.{Reading, ◌>>=◌, required}
use Rattle.lf_scenario.specs.Reading.{described_in}
use Rattle.lf_scenario.specs.Outcomes.{outcome_in}
use Rattle.lf_scenario.specs.LinkTables.{all_links}

-- the bytes are a TOML document with these members
pub record IsDocument (bytes : List ℕ) (ms : Members) : Type 0 where
  pub text : IsUtf8 bytes
  pub members : parse_document bytes ≡ Some ms

-- what a table says
pub record Asked : Type 0 where
  pub described : Described
  pub formula : Formula Fact
  pub links : Links

-- the table of keys, with its last two lines
unfoldable pub asked_in : Members → Reading Asked
asked_in ms = do
  described ← described_in ms
  formula ← required ms keys.Outcome (outcome_in described.protocol described.bounds)
  links ← all_links described.bounds.nodes described.delays.least described.delays.spread ms
  Ok (record { described = described; formula = formula; links = links })

-- when its notes arrive
abbrev pub network_of : Asked → Timing
network_of asked = record {
  seed = asked.described.delays.seed;
  links = asked.links;
  nodes = asked.described.bounds.nodes;
  horizon = asked.described.bounds.horizon;
  chosen = None;
}

-- the scenario is the one that is asked for
pub record IsScenario (asked : Asked) (s : Scenario) : Type 0 where
  pub protocol : s.setting.machine ≡ asked.described.protocol
  pub network : s.setting.network ≡ network_of asked
  pub bounds : s.setting.spec ≡ asked.described.bounds
  pub formula : s.formula ≡ asked.formula
  pub max_sets : s.max_sets ≡ asked.described.max_sets

-- the scenario that a table asks for
pub record IsAskedBy (ms : Members) (s : Scenario) : Type 0 where
  pub asked : Asked
  pub reading : asked_in ms ≡ Ok asked
  pub scenario : IsScenario asked s

-- the text is refused for this reason: it is too long, it is no document, or the reading of its members refuses it
abbrev pub IsRefused : List ℕ → ScenarioError → Type 0
IsRefused text e =
    ((longest < length text) × (e ≡ refusals.TooLong))
    ⊎ ((length text ≤ longest) × ((ms : Members) → IsDocument text ms → ⊥) × (e ≡ refusals.NoDocument))
    ⊎ ((length text ≤ longest) × (ms : Members) × IsDocument text ms × (asked_in ms ≡ Err e))

-- the text is short enough and a document, and its members ask for the scenario
pub record IsText (s : Scenario) (text : List ℕ) : Type 0 where
  pub short : length text ≤ longest
  pub members : Members
  pub document : IsDocument text members
  pub asked : IsAskedBy members s
