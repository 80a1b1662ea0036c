-- What is shown for each kind of promise holds of all promises.
use Rattle.std.specs.Prelude.{ℕ, List, Option}
use Rattle.std.specs.List.{AllByRecursion}
use Rattle.lf_rules.specs.declared.topic.Topic.{Topic}
use Rattle.lf_rules.specs.Terms.{Term}
use Rattle.lf_rule_machine.specs.declared.fact.Fact.{Fact}
use Rattle.lf_promises.specs.declared.promise.Many.{Many}
use Rattle.lf_promises.specs.declared.promise.Promise.{Promise}
use Rattle.lf_promises.specs.declared.promise.Promise.TheVariants as promises

-- what holds of a promise of which it holds of each part, by kind
pub record Steps (Q : Promise → Type 0) : Type 0 where
  pub all : (parts : List Promise) → AllByRecursion Q parts → Q (promises.All parts)
  pub any : (parts : List Promise) → AllByRecursion Q parts → Q (promises.Any parts)
  pub always : (parts : List Promise) → AllByRecursion Q parts → Q (promises.Always parts)
  pub ever : (parts : List Promise) → AllByRecursion Q parts → Q (promises.Ever parts)
  pub nodes : (many : Many) (fact : Fact) (of : Option Term) → Q (promises.Nodes many fact of)
  pub down : (n : ℕ) → Q (promises.Down n)
  pub shows : (n : ℕ) (fact : Fact) → Q (promises.At n fact)
  pub one : (topic : Topic) → Q (promises.One topic)
