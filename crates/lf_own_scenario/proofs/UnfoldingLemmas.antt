-- The formula of a promise, by what the promise is.
use Rattle.std.proofs.Common.{◌≡◌, ◌⊎◌, ℕ, ◌+◌, ◌<◌, Bool, true, List, [], ◌∷◌, ◌++◌, append_assoc}
use Rattle.std.proofs.Common.{length, length-append, add-zero, refl, sym, ap, ◌∙◌, map, take, inl, inr, arith}
use Rattle.std.specs.List.{AllByRecursion, flat_map, list_all, range_with_len}
use Rattle.std.proofs.lemmas.List.Folds.{list_all-map}
use Rattle.lf_rules.specs.Terms.{Term}
use Rattle.lf_rules.specs.declared.topic.Topic.{Topic}
use Rattle.std.specs.Prelude.{Option, nat_lt, get_or}
use Rattle.lf_rule_machine.specs.declared.fact.Fact.{Fact as Told}
use Rattle.lf_protocols.specs.declared.fact.Fact.{Fact}
use Rattle.lf_outcome.specs.declared.formula.Formula.{Formula}
use Rattle.lf_outcome.specs.declared.formula.Formula.TheVariants as kind
use Rattle.lf_promises.specs.declared.promise.Many.{Many}
use Rattle.lf_promises.specs.declared.promise.Promise.{Promise, fold-roll-Promise}
use Rattle.lf_promises.specs.declared.promise.Promise.TheVariants.{rolls-All, rolls-Any, rolls-Always, rolls-Ever, rolls-Nodes, rolls-Down, rolls-At, rolls-One}
use Rattle.lf_promises.specs.declared.promise.Promise.TheVariants as promises
use Rattle.lf_promises.specs.declared.promise.Promise.TheOpen.{Promise-F}
use Rattle.lf_promises.proofs.Laws.{by_induction}
use Rattle.lf_own_scenario.specs.declared.scene.Scene.{Scene}
use Rattle.lf_own_scenario.specs.Members.{members}
use Rattle.lf_own_scenario.specs.Quantities.{ruled, so_many}
use Rattle.lf_own_scenario.specs.Topics.{topics_in, count_topics, count_all}
use Rattle.lf_own_scenario.specs.Unfolding.{Part, count_parts, each_at, unfold_step, part_of, formula_at, formulas_at, names_step, names_nodes}
use Rattle.lf_own_scenario.proofs.TopicLemmas.{topics-All, topics-Any, topics-Always, topics-Ever, topics-Nodes, topics-Down, topics-At, topics-One, taken}

-- ---- the formula of a promise

module _ (s : Scene) where
  -- a part comes to as many topics as it has
  abbrev Counts : Promise → Type 0
  Counts p = (part_of s p).topics ≡ count_topics p

  parts-count : (parts : List Promise) → AllByRecursion Counts parts → count_parts (map (part_of s) parts) ≡ count_all parts
  parts-count [] each_counts = refl
  parts-count (p ∷ ps) each_counts =
      ap (λ k. k + count_parts (map (part_of s) ps)) each_counts.0 ∙ ap (λ k. count_topics p + k) (parts-count ps each_counts.1)
      ∙ sym (length-append (topics_in p) (flat_map topics_in ps))

  abbrev topics_of : Part → ℕ
  topics_of x = x.topics

  part-counts : (p : Promise) → Counts p
  part-counts = by_induction Counts (record {
    all = λ parts each_counts.
        ap (λ p. topics_of (part_of s p)) (sym (rolls-All parts)) ∙ ap topics_of (fold-roll-Promise Part (unfold_step s) (Promise-F.All parts))
        ∙ parts-count parts each_counts ∙ ap length (sym (topics-All parts));
    any = λ parts each_counts.
        ap (λ p. topics_of (part_of s p)) (sym (rolls-Any parts)) ∙ ap topics_of (fold-roll-Promise Part (unfold_step s) (Promise-F.Any parts))
        ∙ parts-count parts each_counts ∙ ap length (sym (topics-Any parts));
    always = λ parts each_counts.
        ap (λ p. topics_of (part_of s p)) (sym (rolls-Always parts)) ∙ ap topics_of (fold-roll-Promise Part (unfold_step s) (Promise-F.Always parts))
        ∙ parts-count parts each_counts ∙ ap length (sym (topics-Always parts));
    ever = λ parts each_counts.
        ap (λ p. topics_of (part_of s p)) (sym (rolls-Ever parts)) ∙ ap topics_of (fold-roll-Promise Part (unfold_step s) (Promise-F.Ever parts))
        ∙ parts-count parts each_counts ∙ ap length (sym (topics-Ever parts));
    nodes = λ many fact of.
        ap (λ p. topics_of (part_of s p)) (sym (rolls-Nodes many fact of))
        ∙ ap topics_of (fold-roll-Promise Part (unfold_step s) (Promise-F.Nodes many fact of)) ∙ ap length (sym (topics-Nodes many fact of));
    down = λ n.
        ap (λ p. topics_of (part_of s p)) (sym (rolls-Down n)) ∙ ap topics_of (fold-roll-Promise Part (unfold_step s) (Promise-F.Down n))
        ∙ ap length (sym (topics-Down n));
    shows = λ n fact.
        ap (λ p. topics_of (part_of s p)) (sym (rolls-At n fact)) ∙ ap topics_of (fold-roll-Promise Part (unfold_step s) (Promise-F.At n fact))
        ∙ ap length (sym (topics-At n fact));
    one = λ topic.
        ap (λ p. topics_of (part_of s p)) (sym (rolls-One topic)) ∙ ap topics_of (fold-roll-Promise Part (unfold_step s) (Promise-F.One topic))
        ∙ ap length (sym (topics-One topic));
  })

  each-of : (parts : List Promise) (first t : ℕ) → each_at (map (part_of s) parts) first t ≡ formulas_at s first parts t
  each-of [] first t = refl
  each-of (p ∷ ps) first t =
      ap (λ k. formula_at s first p t ∷ each_at (map (part_of s) ps) (first + k) t) (part-counts p)
      ∙ ap (λ fs. formula_at s first p t ∷ fs) (each-of ps (first + count_topics p) t)

  always-of : (parts : List Promise) (first : ℕ) (ts : List ℕ)
      → flat_map (each_at (map (part_of s) parts) first) ts ≡ flat_map (formulas_at s first parts) ts
  always-of parts first ts = ap (λ (f : ℕ → List (Formula Fact)). flat_map f ts) (λ i t. each-of parts first t i)

  -- the formula that a part comes to
  abbrev comes : ℕ → ℕ → Part → Formula Fact
  comes first t x = x.formula first t

  pub formula-All : (first : ℕ) (parts : List Promise) (t : ℕ) → formula_at s first (promises.All parts) t ≡ kind.All (formulas_at s first parts t)
  formula-All first parts t =
      ap (λ p. formula_at s first p t) (sym (rolls-All parts)) ∙ ap (comes first t) (fold-roll-Promise Part (unfold_step s) (Promise-F.All parts))
      ∙ ap kind.All (each-of parts first t)

  pub formula-Any : (first : ℕ) (parts : List Promise) (t : ℕ) → formula_at s first (promises.Any parts) t ≡ kind.Any (formulas_at s first parts t)
  formula-Any first parts t =
      ap (λ p. formula_at s first p t) (sym (rolls-Any parts)) ∙ ap (comes first t) (fold-roll-Promise Part (unfold_step s) (Promise-F.Any parts))
      ∙ ap kind.Any (each-of parts first t)

  pub formula-Always : (first : ℕ) (parts : List Promise) (t : ℕ) → formula_at s first (promises.Always parts) t
      ≡ kind.All (flat_map (formulas_at s first parts) (range_with_len 1 s.horizon))
  formula-Always first parts t =
      ap (λ p. formula_at s first p t) (sym (rolls-Always parts))
      ∙ ap (comes first t) (fold-roll-Promise Part (unfold_step s) (Promise-F.Always parts))
      ∙ ap kind.All (always-of parts first (range_with_len 1 s.horizon))

  pub formula-Ever : (first : ℕ) (parts : List Promise) (t : ℕ) → formula_at s first (promises.Ever parts) t
      ≡ kind.Any (flat_map (formulas_at s first parts) (range_with_len 1 s.horizon))
  formula-Ever first parts t =
      ap (λ p. formula_at s first p t) (sym (rolls-Ever parts))
      ∙ ap (comes first t) (fold-roll-Promise Part (unfold_step s) (Promise-F.Ever parts))
      ∙ ap kind.Any (always-of parts first (range_with_len 1 s.horizon))

  pub formula-Nodes : (first : ℕ) (many : Many) (fact : Told) (of : Option Term) (t : ℕ)
      → formula_at s first (promises.Nodes many fact of) t ≡ so_many many t fact (members s of)
  formula-Nodes first many fact of t =
      ap (λ p. formula_at s first p t) (sym (rolls-Nodes many fact of))
      ∙ ap (comes first t) (fold-roll-Promise Part (unfold_step s) (Promise-F.Nodes many fact of))

  pub formula-Down : (first n t : ℕ) → formula_at s first (promises.Down n) t ≡ kind.Down n t
  formula-Down first n t =
      ap (λ p. formula_at s first p t) (sym (rolls-Down n)) ∙ ap (comes first t) (fold-roll-Promise Part (unfold_step s) (Promise-F.Down n))

  pub formula-At : (first n : ℕ) (fact : Told) (t : ℕ) → formula_at s first (promises.At n fact) t ≡ kind.Shows n t (ruled fact)
  formula-At first n fact t =
      ap (λ p. formula_at s first p t) (sym (rolls-At n fact)) ∙ ap (comes first t) (fold-roll-Promise Part (unfold_step s) (Promise-F.At n fact))

  pub formula-One : (first : ℕ) (topic : Topic) (t : ℕ) → formula_at s first (promises.One topic) t ≡ kind.One s.nodes s.horizon first
  formula-One first topic t =
      ap (λ p. formula_at s first p t) (sym (rolls-One topic)) ∙ ap (comes first t) (fold-roll-Promise Part (unfold_step s) (Promise-F.One topic))

  -- parts, one more
  pub formulas-more : (first : ℕ) (parts : List Promise) (p : Promise) (t : ℕ)
      → formulas_at s first (parts ++ p ∷ []) t ≡ formulas_at s first parts t ++ formula_at s (first + count_all parts) p t ∷ []
  formulas-more first [] p t = ap (λ k. formula_at s k p t ∷ []) (sym (add-zero first))
  formulas-more first (x ∷ xs) p t =
      let place : (first + count_topics x) + count_all xs ≡ first + count_all (x ∷ xs) =
      omega (arith, length-append (topics_in x) (flat_map topics_in xs)) in
      ap (λ fs. formula_at s first x t ∷ fs) (formulas-more (first + count_topics x) xs p t
      ∙ ap (λ k. formulas_at s (first + count_topics x) xs t ++ formula_at s k p t ∷ []) place)

  -- parts in turn, as a loop takes them
  module _ (parts : List Promise) (i : ℕ) (part : Promise) (there : i < length parts) (is : part ≡ get_or parts i part) where
    pub formulas-on : (first next t : ℕ) (before sofar now : List (Formula Fact)) (formula : Formula Fact)
        → sofar ≡ before ++ formulas_at s first (take i parts) t → next ≡ first + count_all (take i parts) → formula ≡ formula_at s next part t
        → now ≡ sofar ++ formula ∷ [] → now ≡ before ++ formulas_at s first (take (i + 1) parts) t
    formulas-on first next t before sofar now formula put numbered made pushed =
        let own : formula ≡ formula_at s (first + count_all (take i parts)) part t = made ∙ ap (λ k. formula_at s k part t) numbered in
        pushed ∙ ap (λ fs. fs ++ formula ∷ []) put ∙ append_assoc before (formulas_at s first (take i parts) t) (formula ∷ [])
        ∙ ap (λ f. before ++ (formulas_at s first (take i parts) t ++ f ∷ [])) own
        ∙ ap (λ fs. before ++ fs) (sym (formulas-more first (take i parts) part t)
        ∙ ap (λ ps. formulas_at s first ps t) (sym (taken parts i part there is)))

-- whether the nodes are there that it names
module _ (nodes : ℕ) where
  pub names-All : (parts : List Promise) → names_nodes nodes (promises.All parts) ≡ list_all (names_nodes nodes) parts
  names-All parts =
      ap (names_nodes nodes) (sym (rolls-All parts)) ∙ fold-roll-Promise Bool (names_step nodes) (Promise-F.All parts)
      ∙ list_all-map (λ b. b) (names_nodes nodes) parts

  pub names-Any : (parts : List Promise) → names_nodes nodes (promises.Any parts) ≡ list_all (names_nodes nodes) parts
  names-Any parts =
      ap (names_nodes nodes) (sym (rolls-Any parts)) ∙ fold-roll-Promise Bool (names_step nodes) (Promise-F.Any parts)
      ∙ list_all-map (λ b. b) (names_nodes nodes) parts

  pub names-Always : (parts : List Promise) → names_nodes nodes (promises.Always parts) ≡ list_all (names_nodes nodes) parts
  names-Always parts =
      ap (names_nodes nodes) (sym (rolls-Always parts)) ∙ fold-roll-Promise Bool (names_step nodes) (Promise-F.Always parts)
      ∙ list_all-map (λ b. b) (names_nodes nodes) parts

  pub names-Ever : (parts : List Promise) → names_nodes nodes (promises.Ever parts) ≡ list_all (names_nodes nodes) parts
  names-Ever parts =
      ap (names_nodes nodes) (sym (rolls-Ever parts)) ∙ fold-roll-Promise Bool (names_step nodes) (Promise-F.Ever parts)
      ∙ list_all-map (λ b. b) (names_nodes nodes) parts

  pub names-Nodes : (many : Many) (fact : Told) (of : Option Term) → names_nodes nodes (promises.Nodes many fact of) ≡ true
  names-Nodes many fact of =
      ap (names_nodes nodes) (sym (rolls-Nodes many fact of)) ∙ fold-roll-Promise Bool (names_step nodes) (Promise-F.Nodes many fact of)

  pub names-Down : (n : ℕ) → names_nodes nodes (promises.Down n) ≡ nat_lt n nodes
  names-Down n = ap (names_nodes nodes) (sym (rolls-Down n)) ∙ fold-roll-Promise Bool (names_step nodes) (Promise-F.Down n)

  pub names-At : (n : ℕ) (fact : Told) → names_nodes nodes (promises.At n fact) ≡ nat_lt n nodes
  names-At n fact = ap (names_nodes nodes) (sym (rolls-At n fact)) ∙ fold-roll-Promise Bool (names_step nodes) (Promise-F.At n fact)

  pub names-One : (topic : Topic) → names_nodes nodes (promises.One topic) ≡ true
  names-One topic = ap (names_nodes nodes) (sym (rolls-One topic)) ∙ fold-roll-Promise Bool (names_step nodes) (Promise-F.One topic)

  -- a promise with parts
  pub names-parts : (p : Promise) (parts : List Promise)
      → (p ≡ promises.All parts) ⊎ ((p ≡ promises.Any parts) ⊎ ((p ≡ promises.Always parts) ⊎ (p ≡ promises.Ever parts)))
      → names_nodes nodes p ≡ list_all (names_nodes nodes) parts
  names-parts p parts (inl is) = ap (names_nodes nodes) is ∙ names-All parts
  names-parts p parts (inr (inl is)) = ap (names_nodes nodes) is ∙ names-Any parts
  names-parts p parts (inr (inr (inl is))) = ap (names_nodes nodes) is ∙ names-Always parts
  names-parts p parts (inr (inr (inr is))) = ap (names_nodes nodes) is ∙ names-Ever parts
