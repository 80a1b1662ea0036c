-- Promises name facts of a definition alone, whatever its rules are.
use Rattle.std.proofs.Common.{◌≡◌, ℕ, Bool, true, List, [], ◌∷◌, refl, sym, ap, subst, ◌∙◌, ◌&&◌}
use Rattle.std.specs.Prelude.{Option}
use Rattle.std.specs.List.{AllByRecursion, list_all}
use Rattle.lf_rules.specs.Terms.{Term}
use Rattle.lf_rules.specs.declared.rule.Chain.{Chain}
use Rattle.lf_rules.specs.declared.topic.Topic.{Topic}
use Rattle.lf_rules.specs.declared.definition.Definition.{Definition}
use Rattle.lf_rule_machine.specs.declared.fact.Fact.{Fact}
use Rattle.lf_rule_machine.specs.declared.fact.Told.{Told}
use Rattle.lf_rule_machine.specs.declared.fact.Told.TheVariants as tolds
use Rattle.lf_promises.specs.declared.promise.Many.{Many}
use Rattle.lf_promises.specs.declared.promise.Promise.{Promise, fold-roll-Promise}
use Rattle.lf_promises.specs.declared.promise.Promise.TheVariants.{rolls-Down, rolls-One}
use Rattle.lf_promises.specs.declared.promise.Promise.TheVariants as promises
use Rattle.lf_promises.specs.declared.promise.Promise.TheOpen.{Promise-F}
use Rattle.lf_promises.specs.Facts.{facts_step, has_told, names_facts}
use Rattle.lf_promises.specs.Inductions.{Steps}
use Rattle.lf_promises.proofs.Laws.{by_induction, facts-All, facts-Any, facts-Always, facts-Ever, facts-Nodes, facts-At}
use Rattle.lf_protocol_file.specs.declared.declared.Declared.{Declared}
use Rattle.lf_protocol_file.specs.declared.declared.Outcome.{Outcome}
use Rattle.lf_protocol_file.specs.Written.{are_named}

module _ (d e : Definition) (facts : e.facts ≡ d.facts) (variables : e.variables ≡ d.variables) where
  has-same : (t : Told) → has_told e t ≡ has_told d t
  has-same (tolds.Named guard) = ap (λ fs. has_told (record d { facts = fs }) (tolds.Named guard)) facts
  has-same (tolds.Word variable word) = ap (λ vs. has_told (record d { variables = vs }) (tolds.Word variable word)) variables
  has-same (tolds.Flag variable) = ap (λ vs. has_told (record d { variables = vs }) (tolds.Flag variable)) variables
  has-same tolds.Clamped = refl
  has-same tolds.Replaced = refl

  abbrev Same : Promise → Type 0
  Same p = names_facts e p ≡ names_facts d p

  all-same : (parts : List Promise) → AllByRecursion Same parts → list_all (names_facts e) parts ≡ list_all (names_facts d) parts
  all-same [] same = refl
  all-same (p ∷ ps) same = ap (λ b. b && list_all (names_facts e) ps) same.0 ∙ ap (λ b. names_facts d p && b) (all-same ps same.1)

  down-is : (f : Definition) (n : ℕ) → names_facts f (promises.Down n) ≡ true
  down-is f n = ap (names_facts f) (sym (rolls-Down n)) ∙ fold-roll-Promise Bool (facts_step f) (Promise-F.Down n)

  one-is : (f : Definition) (topic : Topic) → names_facts f (promises.One topic) ≡ true
  one-is f topic = ap (names_facts f) (sym (rolls-One topic)) ∙ fold-roll-Promise Bool (facts_step f) (Promise-F.One topic)

  steps : Steps Same
  steps = record {
    all = λ parts same. facts-All e parts ∙ all-same parts same ∙ sym (facts-All d parts);
    any = λ parts same. facts-Any e parts ∙ all-same parts same ∙ sym (facts-Any d parts);
    always = λ parts same. facts-Always e parts ∙ all-same parts same ∙ sym (facts-Always d parts);
    ever = λ parts same. facts-Ever e parts ∙ all-same parts same ∙ sym (facts-Ever d parts);
    nodes = λ many fact of. facts-Nodes e many fact of ∙ has-same fact.told ∙ sym (facts-Nodes d many fact of);
    down = λ n. down-is e n ∙ sym (down-is d n);
    shows = λ n fact. facts-At e n fact ∙ has-same fact.told ∙ sym (facts-At d n fact);
    one = λ topic. one-is e topic ∙ sym (one-is d topic);
  }

  names-same : (p : Promise) → names_facts e p ≡ names_facts d p
  names-same p = by_induction Same steps p

  pub named-same : (outcomes : List Outcome) → are_named e outcomes ≡ are_named d outcomes
  named-same [] = refl
  named-same (x ∷ xs) = ap (λ b. b && are_named e xs) (names-same x.promise) ∙ ap (λ b. names_facts d x.promise && b) (named-same xs)
