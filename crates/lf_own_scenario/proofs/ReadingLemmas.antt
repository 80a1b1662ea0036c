-- The whole of what a table says.
use Rattle.std.proofs.Common.{◌≡◌, List, [], Ok, refl, subst}
use Rattle.toml.specs.Data.{Members}
use Rattle.lf_latency.specs.declared.links.Links.{Links}
use Rattle.lf_rules.specs.declared.definition.Given.{Given}
use Rattle.lf_protocols.specs.declared.protocol.Kind.{Kind}
use Rattle.lf_protocol_file.specs.declared.declared.Declared.{Declared}
use Rattle.lf_scenario.specs.declared.key.Key.TheVariants as keys
use Rattle.lf_outcome.specs.declared.scenario.Scenario.{Scenario}
use Rattle.lf_scenario.specs.LinkTables.{all_links}
use Rattle.lf_scenario.specs.declared.reading.Described.{Described}
use Rattle.lf_scenario.specs.Scenarios.{IsScenario}
use Rattle.lf_scenario.specs.Values.{required}
use Rattle.lf_own_scenario.specs.declared.keys.Bounded.{Bounded}
use Rattle.lf_own_scenario.specs.Constants.{given_in}
use Rattle.lf_own_scenario.specs.Keys.{bounded_in, settled_in}
use Rattle.lf_own_scenario.specs.Machines.{kind_of}
use Rattle.lf_own_scenario.specs.Outcomes.{outcome_in}
use Rattle.lf_own_scenario.specs.declared.outcomes.Demand.{Demand}
use Rattle.lf_own_scenario.specs.Scenarios.{IsAskedWith, Settled, asked_with, asking, chosen_in}

module _ (file : Declared) (ms : Members) where
  pub chosen-whole : (bounded : Bounded) (given : List Given) (kind : Kind)
      → bounded_in ms ≡ Ok bounded → settled_in file.name ms ≡ Ok tt → given_in file bounded.bounds.nodes ms ≡ Ok given
      → kind ≡ kind_of file bounded.bounds.nodes given []
      → chosen_in file ms
      ≡ Ok (record {
        described = record { bounds = bounded.bounds; max_sets = bounded.max_sets; delays = bounded.delays; protocol = kind };
        given = given;
      })
  unfolding chosen_in
  chosen-whole bounded given kind first second third fourth = rw (first, second, third, fourth) refl

  asked-steps : (chosen : Settled) (demand : Demand) (links : Links)
      → chosen_in file ms ≡ Ok chosen → required ms keys.Outcome (outcome_in file chosen.given chosen.described.bounds) ≡ Ok demand
      → all_links chosen.described.bounds.nodes chosen.described.delays.least chosen.described.delays.spread ms ≡ Ok links
      → asked_with file ms ≡ Ok (record { described = asking chosen.described demand.topics; formula = demand.formula; links = links })
  unfolding asked_with
  asked-steps chosen demand links first second third = rw (first, second, third) refl

  pub asked-whole : (chosen : Settled) (demand : Demand) (links : Links) (described : Described) (s : Scenario)
      → chosen_in file ms ≡ Ok chosen → required ms keys.Outcome (outcome_in file chosen.given chosen.described.bounds) ≡ Ok demand
      → all_links chosen.described.bounds.nodes chosen.described.delays.least chosen.described.delays.spread ms ≡ Ok links
      → described ≡ asking chosen.described demand.topics
      → IsScenario (record { described = described; formula = demand.formula; links = links }) s → IsAskedWith file ms s
  asked-whole chosen demand links described s first second third is made = record {
    asked = record { described = asking chosen.described demand.topics; formula = demand.formula; links = links };
    reading = asked-steps chosen demand links first second third;
    scenario = subst (λ (x : Described). IsScenario (record { described = x; formula = demand.formula; links = links }) s) is made;
  }
