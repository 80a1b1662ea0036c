-- The whole of what a table says.
use Rattle.std.proofs.Common.{◌≡◌, Ok, refl}
use Rattle.toml.specs.Data.{Members}
use Rattle.lf_latency.specs.declared.links.Links.{Links}
use Rattle.lf_protocols.specs.declared.fact.Fact.{Fact}
use Rattle.lf_outcome.specs.declared.formula.Formula.{Formula}
use Rattle.lf_scenario.specs.declared.key.Key.TheVariants as keys
use Rattle.lf_scenario.specs.declared.reading.Described.{Described}
use Rattle.lf_outcome.specs.declared.scenario.Scenario.{Scenario}
use Rattle.lf_scenario.specs.Values.{required}
use Rattle.lf_scenario.specs.Reading.{described_in}
use Rattle.lf_scenario.specs.Outcomes.{outcome_in}
use Rattle.lf_scenario.specs.LinkTables.{all_links}
use Rattle.lf_scenario.specs.Scenarios.{IsAskedBy, IsScenario, asked_in}

asked_in-steps : (ms : Members) (described : Described) (formula : Formula Fact) (links : Links)
    → described_in ms ≡ Ok described → required ms keys.Outcome (outcome_in described.protocol described.bounds) ≡ Ok formula
    → all_links described.bounds.nodes described.delays.least described.delays.spread ms ≡ Ok links
    → asked_in ms ≡ Ok (record { described = described; formula = formula; links = links })
unfolding asked_in
asked_in-steps ms described formula links first second third = rw (first, second, third) refl

pub asked_in-whole : (ms : Members) (described : Described) (formula : Formula Fact) (links : Links) (s : Scenario)
    → described_in ms ≡ Ok described → required ms keys.Outcome (outcome_in described.protocol described.bounds) ≡ Ok formula
    → all_links described.bounds.nodes described.delays.least described.delays.spread ms ≡ Ok links
    → IsScenario (record { described = described; formula = formula; links = links }) s → IsAskedBy ms s
asked_in-whole ms described formula links s first second third is = record {
  asked = record { described = described; formula = formula; links = links };
  reading = asked_in-steps ms described formula links first second third;
  scenario = is;
}
