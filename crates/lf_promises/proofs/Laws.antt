-- What crates above may cite of this one beside its contracts: the facts that a promise names, by what it is, what is read, and induction.
use Rattle.std.proofs.Common.{◌≡◌, ℕ, true, List, Option, Some}
use Rattle.std.specs.List.{list_all}
use Rattle.lf_rules.specs.Terms.{Term}
use Rattle.lf_rules.specs.declared.definition.Definition.{Definition}
use Rattle.lf_rule_machine.specs.declared.fact.Fact.{Fact}
use Rattle.lf_promises.specs.declared.promise.Many.{Many}
use Rattle.lf_promises.specs.declared.promise.Promise.{Promise}
use Rattle.lf_promises.specs.declared.promise.Promise.TheVariants as promises
use Rattle.lf_grammar.specs.declared.token.Token.{Token}
use Rattle.lf_grammar.specs.Places.{Context}
use Rattle.lf_promises.specs.Facts.{has_told, names_facts}
use Rattle.lf_promises.specs.Inductions.{Steps}
use Rattle.lf_promises.specs.Promises.{promise_of}
use Rattle.lf_promises.specs.Topics.{asks_sorted}
use Rattle.lf_promises.proofs.FactLemmas as facts
use Rattle.lf_promises.proofs.Inductions as inductions
use Rattle.lf_promises.proofs.TopicLemmas as topics

module _ (d : Definition) where
  -- a promise that all parts are kept names facts of the definition alone where each part does
  pub facts-All : (parts : List Promise) → names_facts d (promises.All parts) ≡ list_all (names_facts d) parts
  facts-All = facts.facts-All d

  -- and so does one that some part is kept
  pub facts-Any : (parts : List Promise) → names_facts d (promises.Any parts) ≡ list_all (names_facts d) parts
  facts-Any = facts.facts-Any d

  -- one that the parts are kept at every step
  pub facts-Always : (parts : List Promise) → names_facts d (promises.Always parts) ≡ list_all (names_facts d) parts
  facts-Always = facts.facts-Always d

  -- and one that a part is kept at some step
  pub facts-Ever : (parts : List Promise) → names_facts d (promises.Ever parts) ≡ list_all (names_facts d) parts
  facts-Ever = facts.facts-Ever d

  -- one about so many nodes does where the definition has what the fact is about
  pub facts-Nodes : (many : Many) (fact : Fact) (of : Option Term) → names_facts d (promises.Nodes many fact of) ≡ has_told d fact.told
  facts-Nodes = facts.facts-Nodes d

  -- and so does one about a single node
  pub facts-At : (n : ℕ) (fact : Fact) → names_facts d (promises.At n fact) ≡ has_told d fact.told
  facts-At = facts.facts-At d

-- the promise that tokens are names facts of its definition alone
pub promise-named : (at : Context) (ts : List Token) (p : Promise) → promise_of at ts ≡ Some p → names_facts at.definition p ≡ true
promise-named = facts.promise-fine

-- and the topics that it asks of have a value and a key of some sort, and a truth as their guard
pub promise-asked : (at : Context) (ts : List Token) (p : Promise) → promise_of at ts ≡ Some p → asks_sorted at.definition p ≡ true
promise-asked = topics.promise-asked

-- what holds of each kind of promise whose parts have it holds of every promise
pub by_induction : (Q : Promise → Type 0) → Steps Q → (p : Promise) → Q p
by_induction = inductions.by_induction
