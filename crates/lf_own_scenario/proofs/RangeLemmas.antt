-- The formulas of promises are in range.
use Rattle.std.proofs.Common.{◌≡◌, ℕ, ◌<◌, ◌≤◌, ◌+◌, Bool, true, false, not, ◌==◌, ◌&&◌, cond, List, [], ◌∷◌}
use Rattle.std.proofs.Common.{length, length-append, refl, sym, ap, ◌∙◌, subst, map, arith}
use Rattle.std.specs.Prelude.{Option, Ok, Err, nat_le, nat_lt}
use Rattle.std.specs.List.{AllByRecursion, flat_map, list_all, range_with_len}
use Rattle.std.proofs.lemmas.Bool.{and_from, and_parts, eq-eqb, lt-ltb, ltb-true, le-leb, leb-true}
use Rattle.std.proofs.lemmas.List.Folds.{list_all-map}
use Rattle.lf_faults.specs.Allowed.{IsInLimits}
use Rattle.lf_faults.specs.declared.spec.Bounds.{Bounds}
use Rattle.lf_rules.specs.Terms.{Term}
use Rattle.lf_rules.specs.declared.topic.Topic.{Topic}
use Rattle.lf_rule_machine.specs.declared.fact.Fact.{Fact as Shown}
use Rattle.lf_rule_machine.specs.Instances.{Instance}
use Rattle.lf_protocols.specs.declared.fact.Fact.{Fact}
use Rattle.lf_protocols.specs.declared.protocol.Kind.{Kind}
use Rattle.lf_protocols.specs.declared.protocol.Kind.TheVariants as kinds
use Rattle.lf_protocols.specs.Protocols.{topics_of}
use Rattle.lf_outcome.specs.declared.formula.Formula.{Formula, fold-roll-Formula}
use Rattle.lf_outcome.specs.declared.formula.Formula.TheVariants.{rolls-All, rolls-Any, rolls-Down, rolls-Shows, rolls-One}
use Rattle.lf_outcome.specs.declared.formula.Formula.TheVariants as kind
use Rattle.lf_outcome.specs.declared.formula.Formula.TheOpen.{Formula-F}
use Rattle.lf_outcome.specs.Measures.{depth_of, atoms_of}
use Rattle.lf_outcome.specs.Named.{shows_or_down}
use Rattle.lf_outcome.specs.Unfolding.{unfolded as said_by}
use Rattle.lf_outcome.proofs.Laws.{depth-unfolded, atoms-unfolded}
use Rattle.lf_promises.specs.Facts.{has_told, names_facts}
use Rattle.lf_promises.specs.Fronts.{opposite}
use Rattle.lf_promises.specs.declared.promise.Many.{Many}
use Rattle.lf_promises.specs.declared.promise.Many.TheVariants as manys
use Rattle.lf_promises.specs.declared.promise.Promise.{Promise}
use Rattle.lf_promises.specs.Inductions.{Steps}
use Rattle.lf_promises.proofs.Laws.{by_induction, facts-All, facts-Any, facts-Always, facts-Ever, facts-Nodes, facts-At}
use Rattle.lf_own_scenario.specs.declared.error.UnfoldError.TheVariants as refusals
use Rattle.lf_own_scenario.specs.declared.scene.Scene.{Scene}
use Rattle.lf_own_scenario.specs.Elements.{Member}
use Rattle.lf_own_scenario.specs.Members.{is_in, members, others}
use Rattle.lf_own_scenario.specs.Quantities.{ruled, shows, each, any_of, all_but_one, where_any, so_many}
use Rattle.lf_own_scenario.specs.Topics.{topics_in, count_topics, count_all}
use Rattle.lf_own_scenario.specs.Unfolding.{formula_at, formulas_at, names_nodes, limited, asked_of}
use Rattle.lf_own_scenario.specs.Spans.{spanned_at, unfolded}
use Rattle.lf_own_scenario.proofs.SpanLemmas.{spanned-says}
use Rattle.lf_own_scenario.proofs.Laws.{all-from, kept-at, range-at, all-flat, names-All, names-Any, names-Always, names-Ever, names-Down, names-At}
use Rattle.lf_own_scenario.proofs.Laws.{formula-All, formula-Any, formula-Always, formula-Ever, formula-Nodes, formula-Down, formula-At, formula-One}
use Rattle.lf_own_scenario.proofs.Laws.{topics-All, topics-Any, topics-Always, topics-Ever, topics-One}
use Rattle.lf_outcome.specs.Formulas.{is_point, is_fact_of, range_step, is_in_range, IsFormulaOf}
use Rattle.lf_outcome.specs.Limits.{deepest, most_atoms}
use Rattle.lf_own_scenario.proofs.FactMembers.{own-fact}

module _ (k : Kind) (nodes horizon : ℕ) where
  abbrev fits : Formula Fact → Bool
  fits = is_in_range k nodes horizon

  -- what is in range, by its kind
  fits-All : (parts : List (Formula Fact)) → list_all fits parts ≡ true → fits (kind.All parts) ≡ true
  fits-All parts h =
      ap fits (sym (rolls-All parts)) ∙ fold-roll-Formula Fact Bool (range_step k nodes horizon) (Formula-F.All parts)
      ∙ list_all-map (λ b. b) fits parts ∙ h

  fits-Any : (parts : List (Formula Fact)) → list_all fits parts ≡ true → fits (kind.Any parts) ≡ true
  fits-Any parts h =
      ap fits (sym (rolls-Any parts)) ∙ fold-roll-Formula Fact Bool (range_step k nodes horizon) (Formula-F.Any parts)
      ∙ list_all-map (λ b. b) fits parts ∙ h

  -- a step of the run
  pub record IsStep (t : ℕ) : Type 0 where
    pub first : 1 ≤ t
    pub last : t ≤ horizon

  point : (n t : ℕ) → n < nodes → IsStep t → is_point nodes horizon n t ≡ true
  point n t below step =
      and_from (nat_lt n nodes) (nat_le 1 t && nat_le t horizon) (lt-ltb n nodes below)
      (and_from (nat_le 1 t) (nat_le t horizon) (le-leb 1 t step.first) (le-leb t horizon step.last))

  fits-Down : (n t : ℕ) → n < nodes → IsStep t → fits (kind.Down n t) ≡ true
  fits-Down n t below step =
      ap fits (sym (rolls-Down n t)) ∙ fold-roll-Formula Fact Bool (range_step k nodes horizon) (Formula-F.Down n t) ∙ point n t below step

  fits-Shows : (n t : ℕ) (fact : Fact) → n < nodes → IsStep t → is_fact_of k fact ≡ true → fits (kind.Shows n t fact) ≡ true
  fits-Shows n t fact below step own =
      ap fits (sym (rolls-Shows n t fact)) ∙ fold-roll-Formula Fact Bool (range_step k nodes horizon) (Formula-F.Shows n t fact)
      ∙ and_from (is_point nodes horizon n t) (is_fact_of k fact) (point n t below step) own

  fits-One : (topic : ℕ) → topic < topics_of k → fits (kind.One nodes horizon topic) ≡ true
  fits-One topic below =
      ap fits (sym (rolls-One nodes horizon topic)) ∙ fold-roll-Formula Fact Bool (range_step k nodes horizon) (Formula-F.One nodes horizon topic)
      ∙ and_from (nodes == nodes) ((horizon == horizon) && nat_lt topic (topics_of k)) (eq-eqb nodes nodes refl)
      (and_from (horizon == horizon) (nat_lt topic (topics_of k)) (eq-eqb horizon horizon refl) (lt-ltb topic (topics_of k) below))

  -- so many of some nodes that there are
  abbrev AreNodes : List ℕ → Type 0
  AreNodes ns = (n : ℕ) → Member ns n → n < nodes

  module _ (t : ℕ) (step : IsStep t) (fact : Fact) (own : is_fact_of k fact ≡ true) where
    fits-node : (n : ℕ) → n < nodes → fits (shows_or_down t fact n) ≡ true
    fits-node n below =
        fits-Any (kind.Down n t ∷ kind.Shows n t fact ∷ [])
        (and_from (fits (kind.Down n t)) (fits (kind.Shows n t fact) && true) (fits-Down n t below step)
        (and_from (fits (kind.Shows n t fact)) true (fits-Shows n t fact below step own) refl))

    fits-each : (ns : List ℕ) → AreNodes ns → fits (each t fact ns) ≡ true
    unfolding each
    fits-each ns there =
        fits-All (map (shows_or_down t fact) ns)
        (list_all-map fits (shows_or_down t fact) ns
        ∙ all-from (λ n. fits (shows_or_down t fact n)) ns (λ n m. fits-node n (there n m)))

    fits-any : (ns : List ℕ) → AreNodes ns → fits (any_of t fact ns) ≡ true
    unfolding any_of
    fits-any ns there =
        fits-Any (map (shows t fact) ns)
        (list_all-map fits (shows t fact) ns ∙ all-from (λ n. fits (shows t fact n)) ns (λ n m. fits-Shows n t fact (there n m) step own))

    others-there : (ns : List ℕ) (but : ℕ) → AreNodes ns → AreNodes (others ns but)
    unfolding others
    others-there ns but there n m = let found = kept-at (λ j. not (j == but)) ns n m in there n found.0

    fits-ways : (ns : List ℕ) → AreNodes ns → list_all fits (all_but_one t fact ns) ≡ true
    unfolding all_but_one
    fits-ways ns there =
        list_all-map fits (λ n. each t fact (others ns n)) ns
        ∙ all-from (λ n. fits (each t fact (others ns n))) ns (λ n m. fits-each (others ns n) (others-there ns n there))

    fits-where : (ns : List ℕ) (ways : List (Formula Fact)) → list_all fits ways ≡ true → fits (where_any ns ways) ≡ true
    fits-where [] ways h = fits-All [] refl
    fits-where (n ∷ ns) ways h = fits-Any ways h

-- the nodes of which a promise speaks
members-there : (s : Scene) (of : Option Term) (n : ℕ) → Member (members s of) n → n < s.nodes
unfolding members
members-there s of n m =
    let kept = kept-at (is_in s of) (range_with_len 0 s.nodes) n m in
    let found = range-at s.nodes 0 n kept.0 in
    omega (arith, found.1)

module _ (m : Instance) (s : Scene) where
  abbrev k : Kind
  k = kinds.Ruled m

  abbrev in_range : Formula Fact → Bool
  in_range = is_in_range k s.nodes s.horizon

  module _ (t : ℕ) (step : IsStep k s.nodes s.horizon t) (fact : Shown) (there : has_told m.definition fact.told ≡ true) (ns : List ℕ)
      (nodes : AreNodes k s.nodes s.horizon ns) where
    fits-so_many : (many : Many) → in_range (so_many many t fact ns) ≡ true
    fits-so_many manys.Each = fits-each k s.nodes s.horizon t step (ruled fact) (own-fact m fact there) ns nodes
    fits-so_many manys.No = fits-each k s.nodes s.horizon t step (ruled (opposite fact)) (own-fact m (opposite fact) there) ns nodes
    fits-so_many manys.Some = fits-any k s.nodes s.horizon t step (ruled fact) (own-fact m fact there) ns nodes
    fits-so_many manys.AtMostOne =
        let own = own-fact m (opposite fact) there in
        fits-where k s.nodes s.horizon t step (ruled (opposite fact)) own ns (all_but_one t (ruled (opposite fact)) ns)
        (fits-ways k s.nodes s.horizon t step (ruled (opposite fact)) own ns nodes)

  -- a promise that names nodes and facts that there are is a formula in range at each step, where the machine has its topics under their numbers
  abbrev Fits : Promise → Type 0
  Fits p =
      (first t : ℕ) → first + count_topics p ≤ length m.topics → IsStep k s.nodes s.horizon t → names_nodes s.nodes p ≡ true
      → names_facts m.definition p ≡ true → in_range (formula_at s first p t) ≡ true

  parts-fit : (parts : List Promise) → AllByRecursion Fits parts → (first t : ℕ) → first + count_all parts ≤ length m.topics
      → IsStep k s.nodes s.horizon t → list_all (names_nodes s.nodes) parts ≡ true → list_all (names_facts m.definition) parts ≡ true
      → list_all in_range (formulas_at s first parts t) ≡ true
  parts-fit [] each_fits first t there step nodes facts = refl
  parts-fit (p ∷ ps) each_fits first t there step nodes facts =
      let ns = and_parts (names_nodes s.nodes p) (list_all (names_nodes s.nodes) ps) nodes in
      let fs = and_parts (names_facts m.definition p) (list_all (names_facts m.definition) ps) facts in
      let both : count_all (p ∷ ps) ≡ count_topics p + count_all ps = length-append (topics_in p) (flat_map topics_in ps) in
      and_from (in_range (formula_at s first p t)) (list_all in_range (formulas_at s (first + count_topics p) ps t))
      (each_fits.0 first t (omega (arith, both, there)) step ns.0 fs.0)
      (parts-fit ps each_fits.1 (first + count_topics p) t (omega (arith, both, there)) step ns.1 fs.1)

  -- its parts at all steps
  always-fit : (parts : List Promise) → AllByRecursion Fits parts → (first : ℕ) → first + count_all parts ≤ length m.topics
      → list_all (names_nodes s.nodes) parts ≡ true → list_all (names_facts m.definition) parts ≡ true
      → list_all in_range (flat_map (formulas_at s first parts) (range_with_len 1 s.horizon)) ≡ true
  always-fit parts each_fits first there nodes facts =
      all-flat in_range (formulas_at s first parts) (range_with_len 1 s.horizon)
      ∙ all-from (λ u. list_all in_range (formulas_at s first parts u)) (range_with_len 1 s.horizon)
      (λ u at. let found = range-at s.horizon 1 u at in
      parts-fit parts each_fits first u there (record { first = found.0; last = omega (arith, found.1) }) nodes facts)

  abbrev under : ℕ → List Topic → ℕ
  under first topics = first + length topics

  steps : Steps Fits
  steps = record {
    all = λ parts each_fits first t there step nodes facts.
        ap in_range (formula-All s first parts t)
        ∙ fits-All k s.nodes s.horizon (formulas_at s first parts t)
        (parts-fit parts each_fits first t (subst (λ ts. under first ts ≤ length m.topics) (topics-All parts) there) step
        (sym (names-All s.nodes parts) ∙ nodes) (sym (facts-All m.definition parts) ∙ facts));
    any = λ parts each_fits first t there step nodes facts.
        ap in_range (formula-Any s first parts t)
        ∙ fits-Any k s.nodes s.horizon (formulas_at s first parts t)
        (parts-fit parts each_fits first t (subst (λ ts. under first ts ≤ length m.topics) (topics-Any parts) there) step
        (sym (names-Any s.nodes parts) ∙ nodes) (sym (facts-Any m.definition parts) ∙ facts));
    always = λ parts each_fits first t there step nodes facts.
        ap in_range (formula-Always s first parts t)
        ∙ fits-All k s.nodes s.horizon (flat_map (formulas_at s first parts) (range_with_len 1 s.horizon))
        (always-fit parts each_fits first (subst (λ ts. under first ts ≤ length m.topics) (topics-Always parts) there)
        (sym (names-Always s.nodes parts) ∙ nodes) (sym (facts-Always m.definition parts) ∙ facts));
    ever = λ parts each_fits first t there step nodes facts.
        ap in_range (formula-Ever s first parts t)
        ∙ fits-Any k s.nodes s.horizon (flat_map (formulas_at s first parts) (range_with_len 1 s.horizon))
        (always-fit parts each_fits first (subst (λ ts. under first ts ≤ length m.topics) (topics-Ever parts) there)
        (sym (names-Ever s.nodes parts) ∙ nodes) (sym (facts-Ever m.definition parts) ∙ facts));
    nodes = λ many fact of first t there step nodes facts.
        ap in_range (formula-Nodes s first many fact of t)
        ∙ fits-so_many t step fact (sym (facts-Nodes m.definition many fact of) ∙ facts) (members s of) (members-there s of) many;
    down = λ n first t there step nodes facts.
        ap in_range (formula-Down s first n t)
        ∙ fits-Down k s.nodes s.horizon n t (ltb-true n s.nodes (sym (names-Down s.nodes n) ∙ nodes)) step;
    shows = λ n fact first t there step nodes facts.
        ap in_range (formula-At s first n fact t)
        ∙ fits-Shows k s.nodes s.horizon n t (ruled fact) (ltb-true n s.nodes (sym (names-At s.nodes n fact) ∙ nodes)) step
        (own-fact m fact (sym (facts-At m.definition n fact) ∙ facts));
    one = λ topic first t there step nodes facts.
        ap in_range (formula-One s first topic t)
        ∙ fits-One k s.nodes s.horizon first
        (let within : first + 1 ≤ length m.topics = subst (λ ts. under first ts ≤ length m.topics) (topics-One topic) there in omega (arith, within));
  }

  pub promise-fits : (p : Promise) → Fits p
  promise-fits = by_induction Fits steps

-- a formula that is handed on is within the limits
module _ (f g : Formula Fact) where
  record IsLimited : Type 0 where
    pub same : f ≡ g
    pub depth : depth_of f ≤ deepest
    pub atoms : atoms_of f ≤ most_atoms

  limited-by : (t : Bool) → t ≡ (nat_le (depth_of f) 8 && nat_le (atoms_of f) 4096) → cond t (Ok f) (Err refusals.TooLarge) ≡ Ok g → IsLimited
  limited-by true is h =
      let parts = and_parts (nat_le (depth_of f) 8) (nat_le (atoms_of f) 4096) (sym is) in
      record { same = cc; depth = leb-true (depth_of f) 8 parts.0; atoms = leb-true (atoms_of f) 4096 parts.1 }
  limited-by false is h = absurd cc

  is-limited : limited f ≡ Ok g → IsLimited
  unfolding limited
  is-limited h = limited-by (nat_le (depth_of f) 8 && nat_le (atoms_of f) 4096) refl h

module _ (s : Scene) (p : Promise) (f : Formula Fact) where
  asked-by : (t : Bool) → cond t (limited (spanned_at s 0 p s.horizon)) (Err refusals.TooLarge) ≡ Ok f → IsLimited (spanned_at s 0 p s.horizon) f
  asked-by true h = is-limited (spanned_at s 0 p s.horizon) f h
  asked-by false h = absurd cc

  is-asked : asked_of (count_topics p) (spanned_at s 0 p s.horizon) ≡ Ok f → IsLimited (spanned_at s 0 p s.horizon) f
  unfolding asked_of
  is-asked h = asked-by (nat_le (count_topics p) 256) h

  record IsUnfolded : Type 0 where
    pub nodes : names_nodes s.nodes p ≡ true
    pub limits : IsLimited (spanned_at s 0 p s.horizon) f

  unfolded-by : (t : Bool) → t ≡ names_nodes s.nodes p → cond t (asked_of (count_topics p) (spanned_at s 0 p s.horizon)) (Err refusals.NoNode) ≡ Ok f
      → IsUnfolded
  unfolded-by true is h = record { nodes = sym is; limits = is-asked h }
  unfolded-by false is h = absurd cc

  is-unfolded : unfolded s p ≡ Ok f → IsUnfolded
  unfolding unfolded
  is-unfolded h = unfolded-by (names_nodes s.nodes p) refl h

-- the formula of a promise is one of the scenario
module _ (m : Instance) (s : Scene) (p : Promise) (f : Formula Fact) where
  range-of : m.topics ≡ topics_in p → 1 ≤ s.horizon → names_facts m.definition p ≡ true → IsUnfolded s p f
      → is_in_range (kinds.Ruled m) s.nodes s.horizon (said_by f) ≡ true
  range-of own some facts is =
      let same : length m.topics ≡ count_topics p = ap length own in
      ap (λ g. is_in_range (kinds.Ruled m) s.nodes s.horizon (said_by g)) (sym is.limits.same)
      ∙ ap (is_in_range (kinds.Ruled m) s.nodes s.horizon) (spanned-says s 0 p s.horizon)
      ∙ promise-fits m s p 0 s.horizon (omega (arith, same)) (record { first = some; last = omega arith }) is.nodes facts

pub formula-of : (m : Instance) (b : Bounds) (s : Scene) (p : Promise) (f : Formula Fact) → IsInLimits b → s.nodes ≡ b.nodes → s.horizon ≡ b.horizon
    → m.topics ≡ topics_in p → names_facts m.definition p ≡ true → unfolded s p ≡ Ok f → IsFormulaOf (kinds.Ruled m) b f
formula-of m b s p f limits nodes horizon own facts is =
    let found = is-unfolded s p f is in
    let inside = range-of m s p f own (omega (arith, limits.horizon.0, horizon)) facts found in
    record {
      range =
          ap (λ h. is_in_range (kinds.Ruled m) b.nodes h (said_by f)) (sym horizon)
          ∙ ap (λ n. is_in_range (kinds.Ruled m) n s.horizon (said_by f)) (sym nodes) ∙ inside;
      depth = let deep = ap depth_of found.limits.same in let said = depth-unfolded f 0 in omega (arith, deep, said, found.limits.depth);
      atoms = let many = ap atoms_of found.limits.same in let said = atoms-unfolded f 0 in omega (arith, many, said, found.limits.atoms);
    }
