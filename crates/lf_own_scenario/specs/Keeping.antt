-- When a promise is kept in the run of a set of faults, and what of nodes.
use Rattle.std.specs.Prelude.{◌≡◌, ℕ, ◌<◌, true, false, List, Option}
use Rattle.lf_faults.specs.declared.fault.Parts.{Parts}
use Rattle.lf_rules.specs.Terms.{Term}
use Rattle.lf_rule_machine.specs.declared.fact.Fact.{Fact as Told}
use Rattle.lf_protocols.specs.declared.fact.Fact.{Fact}
use Rattle.lf_sim.specs.Runs.{World, is_up, view}
use Rattle.lf_outcome.specs.Truth.{reaches}
use Rattle.lf_own_scenario.specs.declared.scene.Scene.{Scene}
use Rattle.lf_own_scenario.specs.Members.{is_in}
use Rattle.lf_own_scenario.specs.Quantities.{ruled}
use Rattle.lf_own_scenario.specs.Topics.{Numbered}
use Rattle.lf_own_scenario.specs.Unfolding.{formula_at}

-- n is one of the nodes of which a promise speaks
pub record IsMeant (s : Scene) (of : Option Term) (n : ℕ) : Type 0 where
  pub is_node : n < s.nodes
  pub within : is_in s of n ≡ true

module _ {State Note : Type 0} (w : World State Note Fact) (faults : List Parts) where
  -- the promise, whose first topic has a number, is kept at t
  abbrev pub IsKept : Scene → ℕ → Numbered → Type 0
  IsKept s t x = reaches w faults (formula_at s x.first x.promise t) ≡ true

  -- n is up at t, and its view after t shows the fact
  pub record UpShows (n t : ℕ) (fact : Told) : Type 0 where
    pub up : is_up w faults n t ≡ true
    pub shown : w.rules.shows n (view w faults n t) (ruled fact) ≡ true

  -- n is up at t, and its view after t doesn't show the fact
  pub record UpLacks (n t : ℕ) (fact : Told) : Type 0 where
    pub up : is_up w faults n t ≡ true
    pub lacking : w.rules.shows n (view w faults n t) (ruled fact) ≡ false
