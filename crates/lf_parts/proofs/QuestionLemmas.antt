-- Questions name facts of the definition alone, where the promise does.
use Rattle.std.proofs.Common.{◌≡◌, ℕ, zero, suc, Bool, true, List, [], ◌∷◌, Option, Some, refl, sym, ap, ◌∙◌, slice_get}
use Rattle.std.specs.List.{AllByRecursion, flat_map, list_all}
use Rattle.std.proofs.lemmas.Bool.{and_from, and_parts}
use Rattle.std.proofs.lemmas.List.Folds.{list_all-append}
use Rattle.std.proofs.lemmas.Option.{option_and_then_some}
use Rattle.lf_rules.specs.declared.definition.Definition.{Definition}
use Rattle.lf_rules.specs.Terms.{Term}
use Rattle.lf_rule_machine.specs.declared.fact.Fact.{Fact}
use Rattle.lf_promises.specs.declared.promise.Many.TheVariants as manys
use Rattle.lf_promises.specs.declared.promise.Promise.{Promise}
use Rattle.lf_promises.specs.declared.promise.Promise.TheVariants as promises
use Rattle.lf_promises.specs.Facts.{has_told, names_facts}
use Rattle.lf_promises.specs.Inductions.{Steps}
use Rattle.lf_promises.proofs.Laws.{facts-All, facts-Any, facts-Always, facts-Ever, facts-Nodes, facts-At, by_induction}
use Rattle.lf_parts.specs.declared.leaf.Leaf.{Leaf}
use Rattle.lf_parts.specs.declared.leaf.Leaf.TheVariants as kinds
use Rattle.lf_parts.specs.Leaves.{leaves}
use Rattle.lf_parts.specs.Questions.{asked, question, some_ever}
use Rattle.lf_parts.proofs.LeafLemmas.{leaves-All, leaves-Any, leaves-Always, leaves-Ever, leaves-Nodes, leaves-Down, leaves-At, leaves-One}

module _ (d : Definition) where
  -- a leaf names a fact of the definition, if any
  abbrev leaf_fits : Leaf → Bool
  leaf_fits (kinds.Nodes many fact of) = has_told d fact.told
  leaf_fits (kinds.At n fact) = has_told d fact.told
  leaf_fits (kinds.One topic) = true

  abbrev all_fit : List Leaf → Type 0
  all_fit xs = list_all leaf_fits xs ≡ true

  -- a promise whose facts are all of the definition has such leaves
  record Fits (p : Promise) : Type 0 where
    pub fits : names_facts d p ≡ true → all_fit (leaves p)

  each-fits : (ps : List Promise) → AllByRecursion Fits ps → list_all (names_facts d) ps ≡ true → all_fit (flat_map leaves ps)
  each-fits [] are named = refl
  each-fits (p ∷ ps) are named =
      let both = and_parts (names_facts d p) (list_all (names_facts d) ps) named in
      list_all-append leaf_fits (leaves p) (flat_map leaves ps)
      ∙ and_from (list_all leaf_fits (leaves p)) (list_all leaf_fits (flat_map leaves ps)) (are.0.fits both.0) (each-fits ps are.1 both.1)

  one-fits : (x : Leaf) → leaf_fits x ≡ true → all_fit (x ∷ [])
  one-fits x is = and_from (leaf_fits x) true is refl

  steps : Steps Fits
  steps = record {
    all = λ ps are. record { fits = λ named. ap (list_all leaf_fits) (leaves-All ps) ∙ each-fits ps are (sym (facts-All d ps) ∙ named) };
    any = λ ps are. record { fits = λ named. ap (list_all leaf_fits) (leaves-Any ps) ∙ each-fits ps are (sym (facts-Any d ps) ∙ named) };
    always = λ ps are. record { fits = λ named. ap (list_all leaf_fits) (leaves-Always ps) ∙ each-fits ps are (sym (facts-Always d ps) ∙ named) };
    ever = λ ps are. record { fits = λ named. ap (list_all leaf_fits) (leaves-Ever ps) ∙ each-fits ps are (sym (facts-Ever d ps) ∙ named) };
    nodes = λ many fact of. record {
      fits = λ named. ap (list_all leaf_fits) (leaves-Nodes many fact of)
          ∙ one-fits (kinds.Nodes many fact of) (sym (facts-Nodes d many fact of) ∙ named);
    };
    down = λ n. record { fits = λ named. ap (list_all leaf_fits) (leaves-Down n) };
    shows = λ n fact. record {
      fits = λ named. ap (list_all leaf_fits) (leaves-At n fact)
          ∙ one-fits (kinds.At n fact) (sym (facts-At d n fact) ∙ named);
    };
    one = λ topic. record { fits = λ named. ap (list_all leaf_fits) (leaves-One topic) };
  }

  leaves-fit : (p : Promise) → names_facts d p ≡ true → all_fit (leaves p)
  leaves-fit p named = let is = by_induction Fits steps p in is.fits named

  found-fits : (xs : List Leaf) (i : ℕ) (x : Leaf) → all_fit xs → slice_get xs i ≡ Some x → leaf_fits x ≡ true
  found-fits [] i x all there = absurd cc
  found-fits (y ∷ ys) zero x all there =
      let same : y ≡ x = cc in
      let both = and_parts (leaf_fits y) (list_all leaf_fits ys) all in
      ap leaf_fits (sym same) ∙ both.0
  found-fits (y ∷ ys) (suc i) x all there =
      let both = and_parts (leaf_fits y) (list_all leaf_fits ys) all in found-fits ys i x both.1 there

  -- the question of a leaf names its fact
  some_ever-named : (fact : Fact) (of : Option Term) → has_told d fact.told ≡ true → names_facts d (some_ever fact of) ≡ true
  some_ever-named fact of is =
      facts-Ever d (promises.Nodes manys.Some fact of ∷ [])
      ∙ and_from (names_facts d (promises.Nodes manys.Some fact of)) true (facts-Nodes d manys.Some fact of ∙ is) refl

  is-named : (p q : Promise) → Some p ≡ Some q → names_facts d p ≡ true → names_facts d q ≡ true
  is-named p q found named = let same : q ≡ p = cc in ap (names_facts d) same ∙ named

  question-named : (x : Leaf) (q : Promise) → leaf_fits x ≡ true → question x ≡ Some q → names_facts d q ≡ true
  question-named (kinds.Nodes manys.Each fact of) q is found =
      is-named (promises.Nodes manys.Each fact of) q found (facts-Nodes d manys.Each fact of ∙ is)
  question-named (kinds.Nodes manys.No fact of) q is found = is-named (some_ever fact of) q found (some_ever-named fact of is)
  question-named (kinds.Nodes manys.Some fact of) q is found =
      is-named (promises.Nodes manys.Some fact of) q found (facts-Nodes d manys.Some fact of ∙ is)
  question-named (kinds.Nodes manys.AtMostOne fact of) q is found = is-named (some_ever fact of) q found (some_ever-named fact of is)
  question-named (kinds.At n fact) q is found = is-named (promises.At n fact) q found (facts-At d n fact ∙ is)
  question-named (kinds.One topic) q is found = absurd cc

  pub questions-named : (p q : Promise) (i : ℕ) → names_facts d p ≡ true → asked p i ≡ Some q → names_facts d q ≡ true
  questions-named p q i named found =
      option_and_then_some question (slice_get (leaves p) i) q found
      (λ x there is. question-named x q (found-fits (leaves p) i x (leaves-fit p named) there) is)
