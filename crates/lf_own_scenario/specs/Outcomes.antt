-- The outcome of a scenario of a protocol file: a text in the protocol's words, or a formula as a list.
use Rattle.std.specs.Prelude.{ℕ, if◌then◌else◌, find, List, [], ◌∷◌, Option, None, Some, Result, Ok, Err}
use Rattle.std.specs.Borrow.{Bor}
use Rattle.std.specs.Str.{bytes_eq}
use Rattle.toml.specs.Data.{Data, string, array}
use Rattle.lf_faults.specs.declared.spec.Bounds.{Bounds}
use Rattle.lf_rules.specs.declared.definition.Constant.{Constant}
use Rattle.lf_rules.specs.declared.definition.Definition.{Definition}
use Rattle.lf_rules.specs.declared.definition.Given.{Given}
use Rattle.lf_rules.specs.declared.topic.Topic.{Topic}
use Rattle.lf_rules.specs.declared.sort.Scope.TheVariants as scopes
use Rattle.lf_rules.specs.declared.sort.Within.TheVariants as withins
use Rattle.lf_rule_machine.specs.Constants.{given_table}
use Rattle.lf_grammar.specs.Places.{Context}
use Rattle.lf_texts.specs.declared.error.TextError.{TextError}
use Rattle.lf_texts.specs.declared.error.TextError.TheVariants as faults
use Rattle.lf_texts.specs.Fronts.{text_in}
use Rattle.lf_promises.specs.declared.promise.Promise.{Promise}
use Rattle.lf_promises.specs.Promises.{promise_of}
use Rattle.lf_protocols.specs.declared.fact.Fact.{Fact}
use Rattle.lf_outcome.specs.declared.formula.Formula.{Formula}
use Rattle.lf_own_scenario.specs.declared.error.UnfoldError.{UnfoldError}
use Rattle.lf_own_scenario.specs.declared.scene.Scene.{Scene}
use Rattle.lf_own_scenario.specs.Spans.{unfolded}
use Rattle.lf_protocol_file.specs.declared.declared.Declared.{Declared}
use Rattle.lf_protocol_file.specs.declared.declared.Outcome.{Outcome}
use Rattle.lf_scenario.specs.declared.key.Key.{Key}
use Rattle.lf_scenario.specs.declared.error.ScenarioError.{ScenarioError}
use Rattle.lf_scenario.specs.declared.error.ScenarioError.TheVariants as refusals
use Rattle.lf_scenario.specs.Values.{Reading, ◌>>=◌}
use Rattle.lf_scenario.specs.Outcomes.{list_formula}
use Rattle.lf_own_scenario.specs.Machines.{kind_of}
use Rattle.lf_own_scenario.specs.Topics.{topics_in}
use Rattle.lf_own_scenario.specs.declared.outcomes.Demand.{Demand}
use Rattle.lf_own_scenario.specs.Zeros.{promise_divides}

abbrev pub seen_promise : Option (Bor Promise) → Option Promise
seen_promise None = None
seen_promise (Some p) = Some p.now

-- the promise of the outcome with a name
abbrev pub promise_of_found : Option Outcome → Option Promise
promise_of_found None = None
promise_of_found (Some outcome) = Some outcome.promise

abbrev pub named : List ℕ → List Outcome → Option Promise
named name outcomes = promise_of_found (find (λ outcome. bytes_eq name outcome.name) outcomes)

-- an outcome whose text can't stand there is refused
abbrev pub text_refusal : TextError → ScenarioError
text_refusal faults.Unfit = refusals.Outcome
text_refusal faults.PastLimit = refusals.Outcome
text_refusal faults.Memory = refusals.Memory

abbrev pub as_outcome : {A : Type 0} → Result A TextError → Reading A
as_outcome (Ok x) = Ok x
as_outcome (Err e) = Err (text_refusal e)

abbrev pub wanted : {A : Type 0} → Option A → Reading A
wanted None = Err refusals.Outcome
wanted (Some x) = Ok x

-- constants with what they are in a scenario
abbrev pub with_values : List Constant → List Given → List Constant
with_values [] vs = []
with_values (x ∷ xs) [] = []
with_values (x ∷ xs) (v ∷ vs) = record { name = x.name; sort = x.sort; value = v } ∷ with_values xs vs

-- what the text of an outcome may name of a protocol: its variables, named expressions and facts, and its constants, which are what they are in the scenario
abbrev pub told_in : Definition → List Given → Definition
told_in d given = record { variables = d.variables; notes = []; given = with_values d.given given; lets = d.lets; facts = d.facts; chains = []; trace = [] }

abbrev pub told_place : Declared → Definition → Context
told_place file d = record { definition = d; fields = []; names = file.names; scope = scopes.Who; within = withins.Nothing }

-- the promise that a text is in a scenario with these constants
unfoldable pub promise_in : Declared → List Given → List ℕ → Reading Promise
promise_in file given text = do
  ts ← as_outcome (text_in text)
  wanted (promise_of (told_place file (told_in file.definition given)) ts)

-- what a promise depends on
abbrev pub scene_of : Bounds → List Given → Scene
scene_of b given = record { nodes = b.nodes; horizon = b.horizon; given = given_table b.nodes given }

abbrev pub unfolded_to : Result (Formula Fact) UnfoldError → Reading (Formula Fact)
unfolded_to (Ok formula) = Ok formula
unfolded_to (Err e) = Err refusals.Outcome

-- a formula that asks about topics
abbrev pub asking : List Topic → Formula Fact → Demand
asking topics formula = record { formula = formula; topics = topics }

-- what a promise demands: its formula, which divides by no constant that is 0, and its topics
unfoldable pub demand_of : Bounds → List Given → Promise → Reading Demand
demand_of b given promise =
    if promise_divides given promise then Err refusals.Outcome
    else unfolded_to (unfolded (scene_of b given) promise) >>= (λ formula. Ok (asking (topics_in promise) formula))

-- a text is the name of an outcome, or a promise itself
abbrev pub said : Declared → List Given → List ℕ → Option Promise → Reading Promise
said file given text (Some promise) = Ok promise
said file given text None = promise_in file given text

abbrev pub text_demand : Declared → List Given → Bounds → List ℕ → Reading Demand
text_demand file given b text = said file given text (named text file.outcomes) >>= demand_of b given

-- a list demands a formula alone
abbrev pub list_demand : Declared → List Given → Bounds → Data → Reading Demand
list_demand file given b d = list_formula (kind_of file b.nodes given []) b d >>= (λ formula. Ok (asking [] formula))

-- what the key `outcome` takes
abbrev pub outcome_in : Declared → List Given → Bounds → Key → Data → Reading Demand
outcome_in file given b key (string text) = text_demand file given b text
outcome_in file given b key (array ds) = list_demand file given b (array ds)
outcome_in file given b key _ = Err (refusals.WrongKind key)
