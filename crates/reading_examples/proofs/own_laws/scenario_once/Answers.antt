use Rattle.std.proofs.Common.{◌≡◌, ◌≢◌, ℕ, List, Result, Ok, Err, MatchResult, IfErr}
use Rattle.lf_own_scenario.specs.Scenarios.{IsRefusedWith, IsTextWith}
use Rattle.lf_scenario.specs.declared.error.ScenarioError.{ScenarioError}
use Rattle.lf_scenario.specs.declared.error.ScenarioError.TheVariants as refusals
use Rattle.lf_outcome.specs.declared.scenario.Scenario.{Scenario}
use Rattle.lf_protocol_file.specs.declared.declared.Declared.{Declared}
use Rattle.reading_examples.proofs.own_laws.scenario_once.Goals as goal

-- what a reading is
IsReading : Declared → List ℕ → Result Scenario ScenarioError → Type 0
IsReading file text r = MatchResult r (λ s. IsTextWith file s text) (λ e. e ≢ refusals.Memory → IsRefusedWith file text e)

all_one : (file : Declared) (text : List ℕ) (r : Result Scenario ScenarioError)
    → ((e f : ScenarioError) → IsRefusedWith file text e → IsRefusedWith file text f → e ≡ f) → IsReading file text r
    → IfErr r (λ e. e ≢ refusals.Memory → (other : ScenarioError) → IsRefusedWith file text other → e ≡ other)
unfolding IsReading
all_one file text (Ok s) law is = tt
all_one file text (Err e) law is = λ fits other refused. law e other (is fits) refused

all_none : (file : Declared) (text : List ℕ) (r : Result Scenario ScenarioError)
    → ((e : ScenarioError) (s : Scenario) → IsRefusedWith file text e → ¬ (IsTextWith file s text)) → IsReading file text r
    → IfErr r (λ e. e ≢ refusals.Memory → (s : Scenario) → ¬ (IsTextWith file s text))
unfolding IsReading
all_none file text (Ok s) law is = tt
all_none file text (Err e) law is = λ fits s. law e s (is fits)

pub returns-clause-one : goal.returns-clause-one
unfolding IsReading
returns-clause-one c =
    all_one c.args.file.now c.args.text.now c.read_with.result (c.refusals_are_one.ensures.one c.args.file.now c.args.text.now) c.read_with.ensures.reading

pub returns-clause-none : goal.returns-clause-none
unfolding IsReading
returns-clause-none c =
    all_none c.args.file.now c.args.text.now c.read_with.result (c.refusals_are_one.ensures.none c.args.file.now c.args.text.now)
    c.read_with.ensures.reading
