-- What is counted of each part of a promise.
use Rattle.std.specs.Prelude.{◌≡◌, ℕ, suc, Bool, nat_le, if◌then◌else◌, List, [], length, take, Option, None, Some, Result, Ok, Err, slice_get}
use Rattle.std.specs.List.{count_by, flat_map, range_with_len}
use Rattle.std.specs.Option.{option_and_then, option_to_list}
use Rattle.toml.specs.Data.{Data, string, Members}
use Rattle.lf_faults.specs.declared.fault.Parts.{Parts}
use Rattle.lf_rules.specs.declared.definition.Given.{Given}
use Rattle.lf_sim.specs.Runs.{World}
use Rattle.lf_sim.specs.Settings.{world_of}
use Rattle.lf_protocols.specs.declared.fact.Fact.{Fact}
use Rattle.lf_protocols.specs.declared.note.Note.{Note}
use Rattle.lf_protocols.specs.declared.state.State.{State}
use Rattle.lf_outcome.specs.declared.formula.Formula.{Formula}
use Rattle.lf_outcome.specs.declared.scenario.Scenario.{Scenario}
use Rattle.lf_outcome.specs.Truth.{reaches}
use Rattle.lf_stakes.specs.Entered.{is_entered_in}
use Rattle.lf_promises.specs.declared.promise.Promise.{Promise}
use Rattle.lf_parts.specs.declared.part.Part.{Part}
use Rattle.lf_parts.specs.declared.part.Part.TheVariants as parts
use Rattle.lf_parts.specs.Parts.{parts_of}
use Rattle.lf_parts.specs.Questions.{asked}
use Rattle.lf_doubt.specs.declared.ground.Stake.{Stake}
use Rattle.lf_protocol_file.specs.declared.declared.Declared.{Declared}
use Rattle.lf_scenario.specs.declared.key.Key.TheVariants as keys
use Rattle.lf_scenario.specs.Scenarios.{IsDocument}
use Rattle.lf_scenario.specs.Values.{Reading, ◌>>=◌, required}
use Rattle.lf_own_scenario.specs.declared.error.UnfoldError.{UnfoldError}
use Rattle.lf_own_scenario.specs.declared.scene.Scene.{Scene}
use Rattle.lf_own_scenario.specs.Outcomes.{named, said, scene_of}
use Rattle.lf_own_scenario.specs.Scenarios.{chosen_in}
use Rattle.lf_own_scenario.specs.Spans.{unfolded}

-- a formula that isn't too large
abbrev pub formula_of : Result (Formula Fact) UnfoldError → Option (Formula Fact)
formula_of (Ok formula) = Some formula
formula_of (Err e) = None

-- the formula of the promise that asks of the part with a place, where there is one
abbrev pub asked_formula : Scene → Promise → ℕ → Option (Formula Fact)
asked_formula scene p place = option_and_then (λ question. formula_of (unfolded scene question)) (asked p place)

module _ (w : World State Note Fact) where
  -- in how many of the runs of some sets it is so, of a part with a place, which is told from 1 on
  abbrev pub counted : List (List Parts) → ℕ → Part → (List Parts → Bool) → Stake
  counted sets place part is_so = record { place = suc place; part = part; times = count_by is_so sets; runs = length sets }

  -- of one value: in how many runs some node enters something under its topic; a scenario has at most 256 topics
  abbrev pub entered_stake : List (List Parts) → ℕ → ℕ → Option Stake
  entered_stake sets place topic = if nat_le topic 255 then Some (counted sets place (parts.One topic) (λ faults. is_entered_in w faults topic)) else None

  -- in how many runs a formula is true
  abbrev pub asked_stake : List (List Parts) → ℕ → Part → Option (Formula Fact) → Option Stake
  asked_stake sets place part None = None
  asked_stake sets place part (Some formula) = Some (counted sets place part (λ faults. reaches w faults formula))

  module _ (scene : Scene) (sets : List (List Parts)) where
    -- of the part of a promise with a place: what isn't to be so is counted in all runs, and what is to be so in that of the first set
    abbrev pub stake_of : Promise → ℕ → Part → Option Stake
    stake_of p place (parts.One topic) = entered_stake sets place topic
    stake_of p place parts.No = asked_stake sets place parts.No (asked_formula scene p place)
    stake_of p place parts.AtMostOne = asked_stake sets place parts.AtMostOne (asked_formula scene p place)
    stake_of p place parts.Each = asked_stake (take 1 sets) place parts.Each (asked_formula scene p place)
    stake_of p place parts.Some = asked_stake (take 1 sets) place parts.Some (asked_formula scene p place)
    stake_of p place (parts.At n) = asked_stake (take 1 sets) place (parts.At n) (asked_formula scene p place)

    -- of the part with a place, where there is such a part
    abbrev pub stakes_at : Promise → ℕ → List Stake
    stakes_at p place = option_to_list (option_and_then (stake_of p place) (slice_get (parts_of p) place))

    -- of all parts, from the left
    abbrev pub stakes_of : Promise → List Stake
    stakes_of p = flat_map (stakes_at p) (range_with_len 0 (length (parts_of p)))

    -- of the parts of the promise that words say
    unfoldable pub said_stakes : Declared → List Given → List ℕ → Reading (List Stake)
    said_stakes file given words = said file given words (named words file.outcomes) >>= (λ p. Ok (stakes_of p))

    -- of the parts of an outcome; a list has none
    abbrev pub outcome_stakes : Declared → List Given → Data → Reading (List Stake)
    outcome_stakes file given (string words) = said_stakes file given words
    outcome_stakes file given other = Ok []

  -- of the parts of the outcome of a table
  unfoldable pub stakes_in : Declared → List (List Parts) → Members → Reading (List Stake)
  stakes_in file sets ms = do
    chosen ← chosen_in file ms
    required ms keys.Outcome (λ key d. outcome_stakes (scene_of chosen.described.bounds chosen.given) sets file chosen.given d)

-- the stakes are those of the outcome of a text, in the runs of these sets in the scenario
pub record AreStakes (file : Declared) (text : List ℕ) (s : Scenario) (sets : List (List Parts)) (stakes : List Stake) : Type 0 where
  pub members : Members
  pub document : IsDocument text members
  pub reading : stakes_in (world_of s.setting) file sets members ≡ Ok stakes
