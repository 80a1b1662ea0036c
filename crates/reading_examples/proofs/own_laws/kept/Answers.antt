use Rattle.std.proofs.Common.{◌≡◌, ◌≢◌, ℕ, List, Some, codes, Result, Ok, Err, MatchResult, IfOk, sym, subst, ◌∙◌}
use Rattle.std.proofs.lemmas.Option.{same_Some}
use Rattle.toml.specs.Data.{Members, string, get_member}
use Rattle.toml.specs.View.{table_view}
use Rattle.lf_own_scenario.specs.Kept.{IsPromised}
use Rattle.lf_own_scenario.specs.Scenarios.{IsAskedWith, IsRefusedWith, IsTextWith}
use Rattle.lf_scenario.specs.declared.error.ScenarioError.{ScenarioError}
use Rattle.lf_scenario.specs.declared.error.ScenarioError.TheVariants as refusals
use Rattle.lf_outcome.specs.declared.scenario.Scenario.{Scenario}
use Rattle.lf_scenario.specs.Scenarios.{IsDocument}
use Rattle.lf_protocol_file.specs.declared.declared.Declared.{Declared}
use Rattle.reading_examples.proofs.own_laws.kept.Goals as goal

-- a text is a document of one table of members
asked_by : (file : Declared) (text : List ℕ) (ms : Members) (s : Scenario) → IsDocument text ms → IsTextWith file s text → IsAskedWith file ms s
asked_by file text ms s is has = subst (λ x. IsAskedWith file x s) (same_Some has.members ms (sym has.document.members ∙ is.members)) has.asked

all_promised : (file : Declared) (text : List ℕ) (ms : Members) (words : List ℕ) (r : Result Scenario ScenarioError)
    → ((s : Scenario) → IsAskedWith file ms s → IsPromised file ms words s) → IsDocument text ms
    → MatchResult r (λ s. IsTextWith file s text) (λ e. e ≢ refusals.Memory → IsRefusedWith file text e) → IfOk r (IsPromised file ms words)
all_promised file text ms words (Ok s) law is has = law s (asked_by file text ms s is has)
all_promised file text ms words (Err e) law is has = tt

pub returns : goal.returns
returns c =
    all_promised c.args.file.now c.args.text.now (table_view c.args.table.now) c.args.words.now c.read_with.result
    (λ s. c.outcomes_are_kept.ensures c.args.file.now (table_view c.args.table.now) c.args.words.now s c.requires.outcome) c.requires.document
    c.read_with.ensures.reading
