-- The bounds of a scenario's text are within the limits.
use Rattle.std.proofs.Common.{◌≡◌, ℕ, ◌-◌, ◌≤◌, List, true, false, refl, sym, ap, ◌∙◌, subst, arith}
use Rattle.std.specs.Prelude.{Bool, Option, None, Some, Ok, Err, nat_le, ◌&&◌, if◌then◌else◌, pos, negsuc}
use Rattle.std.proofs.lemmas.Bool.Decides.{nat_tests}
use Rattle.toml.specs.Data.{Data, Members, get_member}
use Rattle.toml.specs.Data as datum
use Rattle.lf_faults.specs.Allowed.{IsInLimits}
use Rattle.lf_faults.specs.declared.spec.Bounds.{Bounds}
use Rattle.lf_sim.specs.Settings.{world_of}
use Rattle.lf_certificate.specs.Accepted.{IsBounded}
use Rattle.lf_scenario.specs.declared.key.Key.{Key}
use Rattle.lf_scenario.specs.declared.key.Key.TheVariants as keys
use Rattle.lf_scenario.specs.declared.error.ScenarioError.{ScenarioError}
use Rattle.lf_scenario.specs.declared.error.ScenarioError.TheVariants as refusals
use Rattle.lf_scenario.specs.declared.reading.Described.{Described}
use Rattle.lf_outcome.specs.declared.scenario.Scenario.{Scenario}
use Rattle.lf_scenario.specs.Keys.{key_name}
use Rattle.lf_outcome.specs.Limits.{most_sets}
use Rattle.lf_scenario.specs.Limits.{usual_sets}
use Rattle.lf_scenario.specs.LinkTables.{all_links}
use Rattle.lf_scenario.specs.Outcomes.{outcome_in}
use Rattle.lf_scenario.specs.Reading.{bounds_in, delays_in, described_in, kind_in}
use Rattle.lf_scenario.specs.Scenarios.{Asked, asked_in}
use Rattle.lf_scenario.specs.Values.{Reading, ◌>>=◌, found_or, known, optional, required, whole}
use Rattle.lf_protocol_file.specs.declared.declared.Declared.{Declared}
use Rattle.lf_own_scenario.specs.Keys as own
use Rattle.lf_own_scenario.specs.Keys.{bounded_in, settled_in}
use Rattle.lf_own_scenario.specs.Constants.{given_in}
use Rattle.lf_own_scenario.specs.Outcomes as own_outcomes
use Rattle.lf_own_scenario.specs.Scenarios.{Settled, asked_with, chosen_in}
use Rattle.leastfault.specs.Known.{IsTextOf}

-- a reading that gives something was not refused before
given : {A B : Type 0} (x : Reading A) (next : A → Reading B) (y : B) → x >>= next ≡ Ok y → (a : A) × (x ≡ Ok a) × (next a ≡ Ok y)
given (Ok a) next y is = (a, refl, is)
given (Err e) next y is = absurd (let never : Err e ≡ Ok y = is in cc)

ok_is : {A : Type 0} (x y : A) → ◌≡◌ {A = Reading A} (Ok x) (Ok y) → x ≡ y
ok_is x y is = let both : Ok x ≡ Ok y = is in cc

abbrev IsWithin : ℕ → ℕ → ℕ → Type 0
IsWithin low high n = (low ≤ n) × (n ≤ high)

tested : (low high n m : ℕ) (e : ScenarioError) (t : Bool) → (nat_le low m && nat_le m high) ≡ t → (if t then Ok m else Err e) ≡ Ok n → IsWithin low high n
tested low high n m e true within is = let same : m ≡ n = ok_is m n is in grind (arith, nat_tests)
tested low high n m e false within is = absurd (let never : Err e ≡ Ok n = is in cc)

whole_within : (low high n : ℕ) (key : Key) (d : Data) → whole low high key d ≡ Ok n → IsWithin low high n
whole_within low high n key (datum.integer (pos m)) is =
    tested low high n m (refusals.OutOfRange key) (nat_le low m && nat_le m high) refl is
whole_within low high n key (datum.integer (negsuc m)) is = absurd (let never : Err (refusals.OutOfRange key) ≡ Ok n = is in cc)
whole_within low high n key (datum.string x) is = absurd (let never : Err (refusals.WrongKind key) ≡ Ok n = is in cc)
whole_within low high n key (datum.float x) is = absurd (let never : Err (refusals.WrongKind key) ≡ Ok n = is in cc)
whole_within low high n key (datum.boolean x) is = absurd (let never : Err (refusals.WrongKind key) ≡ Ok n = is in cc)
whole_within low high n key (datum.datetime x) is = absurd (let never : Err (refusals.WrongKind key) ≡ Ok n = is in cc)
whole_within low high n key (datum.array x) is = absurd (let never : Err (refusals.WrongKind key) ≡ Ok n = is in cc)
whole_within low high n key (datum.table x) is = absurd (let never : Err (refusals.WrongKind key) ≡ Ok n = is in cc)

module _ (low high n : ℕ) (key : Key) where
  found_required : (e : ScenarioError) (o : Option Data) → found_or (Err e) (whole low high key) o ≡ Ok n → IsWithin low high n
  found_required e None is = absurd (let never : Err e ≡ Ok n = is in cc)
  found_required e (Some d) is = whole_within low high n key d is

  found_optional : (default : ℕ) (o : Option Data) → IsWithin low high default → found_or (Ok default) (whole low high key) o ≡ Ok n → IsWithin low high n
  found_optional default None fits is = subst (IsWithin low high) (ok_is default n is) fits
  found_optional default (Some d) fits is = whole_within low high n key d is

  required_within : (ms : Members) → required ms key (whole low high) ≡ Ok n → IsWithin low high n
  unfolding required
  required_within ms is = found_required (refusals.Missing key) (get_member (key_name key) ms) is

  optional_within : (ms : Members) (default : ℕ) → IsWithin low high default → optional ms key (whole low high) default ≡ Ok n → IsWithin low high n
  unfolding optional
  optional_within ms default fits is = found_optional default (get_member (key_name key) ms) fits is

bounds_within : (ms : Members) (b : Bounds) → bounds_in ms ≡ Ok b → IsInLimits b
unfolding bounds_in
bounds_within ms b is =
    let nodes = given (required ms keys.Nodes (whole 2 8)) _ b is in
    let horizon = given (required ms keys.Horizon (whole 1 48)) _ b nodes.2 in
    let last_omission = given (required ms keys.LastOmission (whole 0 (horizon.0 - 1))) _ b horizon.2 in
    let crashes = given (required ms keys.Crashes (whole 0 nodes.0)) _ b last_omission.2 in
    let budget = given (required ms keys.Budget (whole 0 6)) _ b crashes.2 in
    let pauses = given (optional ms keys.Pauses (whole 0 nodes.0) 0) _ b budget.2 in
    let pause_length = given (optional ms keys.PauseLength (whole 1 8) 1) _ b pauses.2 in
    let in_nodes = required_within 2 8 nodes.0 keys.Nodes ms nodes.1 in
    let in_horizon = required_within 1 48 horizon.0 keys.Horizon ms horizon.1 in
    let in_omission = required_within 0 (horizon.0 - 1) last_omission.0 keys.LastOmission ms last_omission.1 in
    let in_crashes = required_within 0 nodes.0 crashes.0 keys.Crashes ms crashes.1 in
    let in_budget = required_within 0 6 budget.0 keys.Budget ms budget.1 in
    let in_pauses = optional_within 0 nodes.0 pauses.0 keys.Pauses ms 0 (omega arith, omega arith) pauses.1 in
    let in_length = optional_within 1 8 pause_length.0 keys.PauseLength ms 1 (omega arith, omega arith) pause_length.1 in
    subst IsInLimits (ok_is _ b pause_length.2) (record {
      nodes = in_nodes;
      horizon = in_horizon;
      last_omission = omega (arith, in_horizon.0, in_omission.1);
      crashes = in_crashes.1;
      budget = in_budget.1;
      pauses = in_pauses.1;
      pause_length = in_length;
    })

described_bounds : (ms : Members) (d : Described) → described_in ms ≡ Ok d → bounds_in ms ≡ Ok d.bounds
unfolding described_in
described_bounds ms d is =
    let all = given (known ms) _ d is in
    let bounds = given (bounds_in ms) _ d all.2 in
    let max_sets = given (optional ms keys.MaxSets (whole 1 most_sets) usual_sets) _ d bounds.2 in
    let delays = given (delays_in ms) _ d max_sets.2 in
    let kind = given (kind_in bounds.0.nodes ms) _ d delays.2 in
    bounds.1 ∙ ap (λ (x : Described). Ok x.bounds) (ok_is _ d kind.2)

asked_bounds : (ms : Members) (a : Asked) → asked_in ms ≡ Ok a → bounds_in ms ≡ Ok a.described.bounds
unfolding asked_in
asked_bounds ms a is =
    let described = given (described_in ms) _ a is in
    let formula = given (required ms keys.Outcome (outcome_in described.0.protocol described.0.bounds)) _ a described.2 in
    let links = given (all_links described.0.bounds.nodes described.0.delays.least described.0.delays.spread ms) _ a formula.2 in
    described_bounds ms described.0 described.1 ∙ ap (λ (x : Asked). Ok x.described.bounds) (ok_is _ a links.2)

-- the same where the protocol is a file's
module _ (file : Declared) where
  settled_bounds : (ms : Members) (x : Settled) → chosen_in file ms ≡ Ok x → bounds_in ms ≡ Ok x.described.bounds
  unfolding chosen_in bounded_in
  settled_bounds ms x is =
      let bounded = given (bounded_in ms) _ x is in
      let all = given (own.known ms) _ bounded.0 bounded.1 in
      let bounds = given (bounds_in ms) _ bounded.0 all.2 in
      let max_sets = given (optional ms keys.MaxSets (whole 1 most_sets) usual_sets) _ bounded.0 bounds.2 in
      let delays = given (delays_in ms) _ bounded.0 max_sets.2 in
      let same = ok_is _ bounded.0 delays.2 in
      let named = given (settled_in file.name ms) _ x bounded.2 in
      let values = given (given_in file bounded.0.bounds.nodes ms) _ x named.2 in
      rw (← same) bounds.1 ∙ ap (λ (y : Settled). Ok y.described.bounds) (ok_is _ x values.2)

  own_bounds : (ms : Members) (a : Asked) → asked_with file ms ≡ Ok a → bounds_in ms ≡ Ok a.described.bounds
  unfolding asked_with
  own_bounds ms a is =
      let chosen = given (chosen_in file ms) _ a is in
      let formula = given (required ms keys.Outcome (own_outcomes.outcome_in file chosen.0.given chosen.0.described.bounds)) _ a chosen.2 in
      let links = given (all_links chosen.0.described.bounds.nodes chosen.0.described.delays.least chosen.0.described.delays.spread ms) _ a formula.2 in
      settled_bounds ms chosen.0 chosen.1 ∙ ap (λ (x : Asked). Ok x.described.bounds) (ok_is _ a links.2)

-- the bounds of a scenario with a text are within the limits, and are those of its world
bounded : (s : Scenario) (ms : Members) (b : Bounds) → bounds_in ms ≡ Ok b → s.setting.spec ≡ b → IsBounded (world_of s.setting) s.setting.spec
bounded s ms b reads is = record {
  limits = subst IsInLimits (sym is) (bounds_within ms b reads);
  nodes = s.setting.nodes_agree;
  horizon = refl;
  pause_length = refl;
}

pub text_is_bounded : (known : Option Declared) (s : Scenario) (text : List ℕ) → IsTextOf known s text → IsBounded (world_of s.setting) s.setting.spec
text_is_bounded None s text reads =
    bounded s reads.members reads.asked.asked.described.bounds (asked_bounds reads.members reads.asked.asked reads.asked.reading)
    reads.asked.scenario.bounds
text_is_bounded (Some file) s text reads =
    bounded s reads.members reads.asked.asked.described.bounds (own_bounds file reads.members reads.asked.asked reads.asked.reading)
    reads.asked.scenario.bounds
