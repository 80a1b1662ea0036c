-- What promises say of nodes and steps.
use Rattle.std.proofs.Common.{◌≡◌, ◌↔◌, ℕ, ◌≤◌, Bool, true, false, not, ◌==◌, ◌&&◌, ◌||◌, if◌then◌else◌, List, [], ◌∷◌, refl, sym, ap, ◌∙◌, map, filter, arith}
use Rattle.std.specs.Prelude.{Option, All}
use Rattle.std.specs.List.{range_with_len, list_all, list_any, flat_map, Any}
use Rattle.std.proofs.lemmas.Bool.{and_parts, and_from}
use Rattle.std.proofs.lemmas.List.Folds.{list_all-map, Any-from_list_any, list_any-from_Any}
use Rattle.std.proofs.lemmas.List.Sums.{AllPass-from_list_all, list_all-from_AllPass}
use Rattle.lf_faults.specs.declared.fault.Parts.{Parts}
use Rattle.lf_rules.specs.Terms.{Term}
use Rattle.lf_rules.specs.declared.topic.Topic.{Topic}
use Rattle.lf_rules.specs.declared.definition.Definition.{Definition}
use Rattle.lf_rule_machine.specs.declared.state.State.{State as RuleState}
use Rattle.lf_rule_machine.specs.declared.fact.Fact.{Fact as Told}
use Rattle.lf_rule_machine.specs.Machines.{is_told, shows_of}
use Rattle.lf_protocols.specs.declared.fact.Fact.{Fact}
use Rattle.lf_sim.specs.Runs.{World, is_up, view}
use Rattle.lf_outcome.specs.declared.formula.Formula.{Formula}
use Rattle.lf_outcome.specs.declared.formula.Formula.TheVariants as kind
use Rattle.lf_outcome.specs.Named.{shows_or_down}
use Rattle.lf_outcome.specs.Entries.{NoTwoDiffer}
use Rattle.lf_outcome.proofs.Laws.{single-pairs}
use Rattle.lf_outcome.specs.Truth.{is_single, reaches}
use Rattle.lf_own_scenario.proofs.ReachLemmas as reaching
use Rattle.lf_promises.specs.Fronts.{opposite}
use Rattle.lf_promises.specs.declared.promise.Promise.{Promise}
use Rattle.lf_promises.specs.declared.promise.Promise.TheVariants as promises
use Rattle.lf_promises.specs.declared.promise.Many.TheVariants as manys
use Rattle.lf_own_scenario.specs.Elements.{Member}
use Rattle.lf_own_scenario.specs.declared.scene.Scene.{Scene}
use Rattle.lf_own_scenario.specs.Members.{is_in, members, others}
use Rattle.lf_own_scenario.specs.Quantities.{ruled, shows, each, any_of, all_but_one, where_any}
use Rattle.lf_own_scenario.specs.Topics.{Numbered, from, numbered}
use Rattle.lf_own_scenario.specs.Unfolding.{formula_at, formulas_at}
use Rattle.lf_own_scenario.specs.Keeping.{IsKept, IsMeant, UpShows, UpLacks}
use Rattle.lf_own_scenario.proofs.MemberLemmas.{all-at, all-from, any-at, any-from, kept-at, kept-from, range-at, range-from}
use Rattle.lf_own_scenario.proofs.MemberLemmas.{all-flat, any-flat, but_one-then, but_one-from}
use Rattle.lf_own_scenario.proofs.UnfoldingLemmas.{formula-All, formula-Any, formula-Always, formula-Ever, formula-Nodes, formula-Down, formula-At, formula-One}

list_any-map : {X Y : Type 0} (p : X → Bool) (h : Y → X) (ys : List Y) → list_any p (map h ys) ≡ list_any (λ y. p (h y)) ys
list_any-map p h [] = refl
list_any-map p h (y ∷ ys) = ap (λ b. p (h y) || b) (list_any-map p h ys)

-- a test that is another test
same_test : {P : Type 0} (a b : Bool) → a ≡ b → (b ≡ true) ↔ P → (a ≡ true) ↔ P
same_test a b e law = ((λ h. law.0 (sym e ∙ h)), (λ p. e ∙ law.1 p))

either-then : (u s : Bool) → (not u || ((u && s) || false)) ≡ true → u ≡ true → s ≡ true
either-then true true h up = refl
either-then true false h up = h
either-then false s h up = absurd cc

either-from : (u s : Bool) → (u ≡ true → s ≡ true) → (not u || ((u && s) || false)) ≡ true
either-from true true h = refl
either-from true false h = h refl
either-from false s h = refl

lacks-up : (u s : Bool) → (not u || ((u && s) || false)) ≡ false → u ≡ true
lacks-up true s h = refl
lacks-up false s h = sym h

lacks-shown : (u s : Bool) → (not u || ((u && s) || false)) ≡ false → s ≡ false
lacks-shown true true h = h
lacks-shown true false h = refl
lacks-shown false true h = h
lacks-shown false false h = refl

lacks-from : (u s : Bool) → u ≡ true → s ≡ false → (not u || ((u && s) || false)) ≡ false
lacks-from true true up lacking = lacking
lacks-from true false up lacking = refl
lacks-from false s up lacking = absurd cc

not-then : (b : Bool) → not b ≡ true → b ≡ false
not-then true h = sym h
not-then false h = refl

module _ {State Note : Type 0} (w : World State Note Fact) (faults : List Parts) where
  -- the truth of a formula by its kind
  reach-All : (fs : List (Formula Fact)) → reaches w faults (kind.All fs) ≡ list_all (reaches w faults) fs
  reach-All = reaching.reach-All w faults

  reach-Any : (fs : List (Formula Fact)) → reaches w faults (kind.Any fs) ≡ list_any (reaches w faults) fs
  reach-Any = reaching.reach-Any w faults

  reach-Down : (n t : ℕ) → reaches w faults (kind.Down n t) ≡ not (is_up w faults n t)
  reach-Down = reaching.reach-Down w faults

  reach-Shows : (n t : ℕ) (f : Fact) → reaches w faults (kind.Shows n t f) ≡ (is_up w faults n t && w.rules.shows n (view w faults n t) f)
  reach-Shows = reaching.reach-Shows w faults

  reach-node : (n t : ℕ) (f : Fact)
      → reaches w faults (shows_or_down t f n)
      ≡ (not (is_up w faults n t) || ((is_up w faults n t && w.rules.shows n (view w faults n t) f) || false))
  reach-node n t f =
      reach-Any (kind.Down n t ∷ kind.Shows n t f ∷ [])
      ∙ ap (λ b. b || (reaches w faults (kind.Shows n t f) || false)) (reach-Down n t)
      ∙ ap (λ b. not (is_up w faults n t) || (b || false)) (reach-Shows n t f)

  module _ (s : Scene) (parts : List Promise) (first : ℕ) where
    kept : ℕ → Numbered → Bool
    kept t x = reaches w faults (formula_at s x.first x.promise t)

    abbrev own : List Numbered
    own = numbered first parts

    module _ (t : ℕ) where
      all-test : reaches w faults (formula_at s first (promises.All parts) t) ≡ list_all (kept t) own
      unfolding kept
      all-test =
          ap (reaches w faults) (formula-All s first parts t) ∙ reach-All (formulas_at s first parts t)
          ∙ list_all-map (reaches w faults) (λ x. formula_at s x.first x.promise t) own

      pub all-kept : IsKept w faults s t (from first (promises.All parts)) ↔ All (IsKept w faults s t) own
      unfolding kept
      all-kept = (
        (λ h. AllPass-from_list_all (kept t) own (sym all-test ∙ h)),
        (λ h. all-test ∙ list_all-from_AllPass (kept t) own h),
      )

      any-test : reaches w faults (formula_at s first (promises.Any parts) t) ≡ list_any (kept t) own
      unfolding kept
      any-test =
          ap (reaches w faults) (formula-Any s first parts t) ∙ reach-Any (formulas_at s first parts t)
          ∙ list_any-map (reaches w faults) (λ x. formula_at s x.first x.promise t) own

      pub any-kept : IsKept w faults s t (from first (promises.Any parts)) ↔ Any (IsKept w faults s t) own
      unfolding kept
      any-kept = (
        (λ h. Any-from_list_any (kept t) own (sym any-test ∙ h)),
        (λ h. any-test ∙ list_any-from_Any (kept t) own h),
      )

      always-test : reaches w faults (formula_at s first (promises.Always parts) t) ≡ list_all (λ u. list_all (kept u) own) (range_with_len 1 s.horizon)
      unfolding kept
      always-test =
          ap (reaches w faults) (formula-Always s first parts t)
          ∙ reach-All (flat_map (formulas_at s first parts) (range_with_len 1 s.horizon))
          ∙ all-flat (reaches w faults) (formulas_at s first parts) (range_with_len 1 s.horizon)
          ∙ ap (λ (f : ℕ → Bool). list_all f (range_with_len 1 s.horizon))
          (λ i u. list_all-map (reaches w faults) (λ x. formula_at s x.first x.promise u) own i)

      pub always-kept : IsKept w faults s t (from first (promises.Always parts)) ↔ ((u : ℕ) → 1 ≤ u → u ≤ s.horizon → All (IsKept w faults s u) own)
      unfolding kept
      always-kept = (
        (λ h u low high. AllPass-from_list_all (kept u) own
            (all-at (λ v. list_all (kept v) own) (range_with_len 1 s.horizon) u (sym always-test ∙ h) (range-from s.horizon 1 u low (omega arith)))),
        (λ h. always-test ∙ all-from (λ v. list_all (kept v) own) (range_with_len 1 s.horizon)
            (λ u m. let found = range-at s.horizon 1 u m in list_all-from_AllPass (kept u) own (h u found.0 (omega (arith, found.1))))),
      )

      ever-test : reaches w faults (formula_at s first (promises.Ever parts) t) ≡ list_any (λ u. list_any (kept u) own) (range_with_len 1 s.horizon)
      unfolding kept
      ever-test =
          ap (reaches w faults) (formula-Ever s first parts t)
          ∙ reach-Any (flat_map (formulas_at s first parts) (range_with_len 1 s.horizon))
          ∙ any-flat (reaches w faults) (formulas_at s first parts) (range_with_len 1 s.horizon)
          ∙ ap (λ (f : ℕ → Bool). list_any f (range_with_len 1 s.horizon))
          (λ i u. list_any-map (reaches w faults) (λ x. formula_at s x.first x.promise u) own i)

      pub ever-kept : IsKept w faults s t (from first (promises.Ever parts)) ↔ ((u : ℕ) × (1 ≤ u) × (u ≤ s.horizon) × Any (IsKept w faults s u) own)
      unfolding kept
      ever-kept = (
        (λ h.
            let found = any-at (λ v. list_any (kept v) own) (range_with_len 1 s.horizon) (sym ever-test ∙ h) in
            let step = range-at s.horizon 1 found.0 found.1 in
            (found.0, step.0, omega (arith, step.1), Any-from_list_any (kept found.0) own found.2)),
        (λ h. ever-test ∙ any-from (λ v. list_any (kept v) own) (range_with_len 1 s.horizon) h.0
            (range-from s.horizon 1 h.0 h.1 (omega (arith, h.2))) (list_any-from_Any (kept h.0) own h.3)),
      )

  module _ (s : Scene) (of : Option Term) where
    meant-at : (n : ℕ) → Member (members s of) n → IsMeant s of n
    unfolding members
    meant-at n m =
        let found = kept-at (is_in s of) (range_with_len 0 s.nodes) n m in
        let place = range-at s.nodes 0 n found.0 in
        record { is_node = omega (arith, place.1); within = found.1 }

    meant-from : (n : ℕ) → IsMeant s of n → Member (members s of) n
    unfolding members
    meant-from n meant =
        kept-from (is_in s of) (range_with_len 0 s.nodes) n (range-from s.nodes 0 n (omega arith) (omega (arith, meant.is_node))) meant.within

    module _ (t : ℕ) (f : Fact) where
      each-test : (ns : List ℕ) → reaches w faults (each t f ns) ≡ list_all (λ n. reaches w faults (shows_or_down t f n)) ns
      unfolding each
      each-test ns = reach-All (map (shows_or_down t f) ns) ∙ list_all-map (reaches w faults) (shows_or_down t f) ns

      each-law : (reaches w faults (each t f (members s of)) ≡ true)
          ↔ ((n : ℕ) → IsMeant s of n → is_up w faults n t ≡ true → w.rules.shows n (view w faults n t) f ≡ true)
      each-law = (
        (λ h n meant up. either-then (is_up w faults n t) (w.rules.shows n (view w faults n t) f)
            (sym (reach-node n t f)
            ∙ all-at (λ k. reaches w faults (shows_or_down t f k)) (members s of) n (sym (each-test (members s of)) ∙ h) (meant-from n meant)) up),
        (λ h. each-test (members s of) ∙ all-from (λ k. reaches w faults (shows_or_down t f k)) (members s of)
            (λ n m. reach-node n t f ∙ either-from (is_up w faults n t) (w.rules.shows n (view w faults n t) f) (h n (meant-at n m)))),
      )

      ways-test : (ns : List ℕ) → reaches w faults (kind.Any (all_but_one t f ns))
          ≡ list_any (λ k. list_all (λ n. reaches w faults (shows_or_down t f n)) (filter (λ j. not (j == k)) ns)) ns
      unfolding all_but_one others
      ways-test ns =
          reach-Any (map (λ n. each t f (others ns n)) ns) ∙ list_any-map (reaches w faults) (λ n. each t f (others ns n)) ns
          ∙ ap (λ (g : ℕ → Bool). list_any g ns) (λ i k. each-test (others ns k) i)

      ways-law : (ns : List ℕ) → (reaches w faults (where_any ns (all_but_one t f ns)) ≡ true)
          ↔ ((n m : ℕ) → Member ns n → Member ns m → reaches w faults (shows_or_down t f n) ≡ false → reaches w faults (shows_or_down t f m) ≡ false → n ≡ m)
      ways-law [] = ((λ h n m n_in. absurd n_in), (λ h. reach-All []))
      ways-law (x ∷ xs) = (
        (λ h. but_one-then (λ n. reaches w faults (shows_or_down t f n)) (x ∷ xs) (sym (ways-test (x ∷ xs)) ∙ h)),
        (λ h. ways-test (x ∷ xs) ∙ but_one-from (λ n. reaches w faults (shows_or_down t f n)) x xs h),
      )

    module _ (t : ℕ) (fact : Told) where
      lacks-at : (n : ℕ) → UpLacks w faults n t fact → reaches w faults (shows_or_down t (ruled fact) n) ≡ false
      lacks-at n lacks =
          reach-node n t (ruled fact) ∙ lacks-from (is_up w faults n t) (w.rules.shows n (view w faults n t) (ruled fact)) lacks.up lacks.lacking

      lacks-when : (n : ℕ) → reaches w faults (shows_or_down t (ruled fact) n) ≡ false → UpLacks w faults n t fact
      lacks-when n h =
          let test = sym (reach-node n t (ruled fact)) ∙ h in
          record {
            up = lacks-up (is_up w faults n t) (w.rules.shows n (view w faults n t) (ruled fact)) test;
            lacking = lacks-shown (is_up w faults n t) (w.rules.shows n (view w faults n t) (ruled fact)) test;
          }

      most-law : (reaches w faults (where_any (members s of) (all_but_one t (ruled fact) (members s of))) ≡ true)
          ↔ ((n m : ℕ) → IsMeant s of n → IsMeant s of m → UpLacks w faults n t fact → UpLacks w faults m t fact → n ≡ m)
      most-law =
          let law = ways-law t (ruled fact) (members s of) in (
            (λ h n m n_meant m_meant n_lacks m_lacks. law.0 h n m (meant-from n n_meant) (meant-from m m_meant) (lacks-at n n_lacks) (lacks-at m m_lacks)),
            (λ h. law.1 (λ n m n_in m_in n_fails m_fails. h n m (meant-at n n_in) (meant-at m m_in) (lacks-when n n_fails) (lacks-when m m_fails))),
          )

      some-test : (ns : List ℕ) → reaches w faults (any_of t (ruled fact) ns) ≡ list_any (λ n. reaches w faults (kind.Shows n t (ruled fact))) ns
      unfolding any_of
      some-test ns = reach-Any (map (shows t (ruled fact)) ns) ∙ list_any-map (reaches w faults) (shows t (ruled fact)) ns

      shows-when : (n : ℕ) → reaches w faults (kind.Shows n t (ruled fact)) ≡ true → UpShows w faults n t fact
      shows-when n h =
          let both = and_parts (is_up w faults n t) (w.rules.shows n (view w faults n t) (ruled fact)) (sym (reach-Shows n t (ruled fact)) ∙ h) in
          record { up = both.0; shown = both.1 }

      shows-at : (n : ℕ) → UpShows w faults n t fact → reaches w faults (kind.Shows n t (ruled fact)) ≡ true
      shows-at n h = reach-Shows n t (ruled fact) ∙ and_from (is_up w faults n t) (w.rules.shows n (view w faults n t) (ruled fact)) h.up h.shown

      some-law : (reaches w faults (any_of t (ruled fact) (members s of)) ≡ true) ↔ ((n : ℕ) × IsMeant s of n × UpShows w faults n t fact)
      some-law = (
        (λ h.
            let found = any-at (λ n. reaches w faults (kind.Shows n t (ruled fact))) (members s of) (sym (some-test (members s of)) ∙ h) in
            (found.0, meant-at found.0 found.1, shows-when found.0 found.2)),
        (λ h. some-test (members s of)
            ∙ any-from (λ n. reaches w faults (kind.Shows n t (ruled fact))) (members s of) h.0 (meant-from h.0 h.1) (shows-at h.0 h.2)),
      )

      pub each-keeps : (first : ℕ) → IsKept w faults s t (from first (promises.Nodes manys.Each fact of))
          ↔ ((n : ℕ) → IsMeant s of n → is_up w faults n t ≡ true → w.rules.shows n (view w faults n t) (ruled fact) ≡ true)
      each-keeps first =
          same_test (reaches w faults (formula_at s first (promises.Nodes manys.Each fact of) t)) (reaches w faults (each t (ruled fact) (members s of)))
          (ap (reaches w faults) (formula-Nodes s first manys.Each fact of t)) (each-law t (ruled fact))

      pub no-keeps : (first : ℕ) → IsKept w faults s t (from first (promises.Nodes manys.No fact of))
          ↔ ((n : ℕ) → IsMeant s of n → is_up w faults n t ≡ true → w.rules.shows n (view w faults n t) (ruled (opposite fact)) ≡ true)
      no-keeps first =
          same_test (reaches w faults (formula_at s first (promises.Nodes manys.No fact of) t))
          (reaches w faults (each t (ruled (opposite fact)) (members s of)))
          (ap (reaches w faults) (formula-Nodes s first manys.No fact of t)) (each-law t (ruled (opposite fact)))

      pub some-keeps : (first : ℕ) → IsKept w faults s t (from first (promises.Nodes manys.Some fact of)) ↔ ((n : ℕ) × IsMeant s of n × UpShows w faults n t fact)
      some-keeps first =
          same_test (reaches w faults (formula_at s first (promises.Nodes manys.Some fact of) t)) (reaches w faults (any_of t (ruled fact) (members s of)))
          (ap (reaches w faults) (formula-Nodes s first manys.Some fact of t)) some-law

    pub most-keeps : (t : ℕ) (fact : Told) (first : ℕ) → IsKept w faults s t (from first (promises.Nodes manys.AtMostOne fact of))
        ↔ ((n m : ℕ) → IsMeant s of n → IsMeant s of m → UpLacks w faults n t (opposite fact) → UpLacks w faults m t (opposite fact) → n ≡ m)
    most-keeps t fact first =
        same_test (reaches w faults (formula_at s first (promises.Nodes manys.AtMostOne fact of) t))
        (reaches w faults (where_any (members s of) (all_but_one t (ruled (opposite fact)) (members s of))))
        (ap (reaches w faults) (formula-Nodes s first manys.AtMostOne fact of t)) (most-law t (opposite fact))

  pub down-keeps : (s : Scene) (n first t : ℕ) → IsKept w faults s t (from first (promises.Down n)) ↔ (is_up w faults n t ≡ false)
  down-keeps s n first t =
      let test = ap (reaches w faults) (formula-Down s first n t) ∙ reach-Down n t in
      ((λ h. not-then (is_up w faults n t) (sym test ∙ h)), (λ h. test ∙ ap not h))

  pub at-keeps : (s : Scene) (of : Option Term) (n : ℕ) (fact : Told) (first t : ℕ) → IsKept w faults s t (from first (promises.At n fact)) ↔ UpShows w faults n t fact
  at-keeps s of n fact first t =
      let test = ap (reaches w faults) (formula-At s first n fact t) in
      ((λ h. shows-when s of t fact n (sym test ∙ h)), (λ h. test ∙ shows-at s of t fact n h))

  reach-One : (nodes last topic : ℕ) → reaches w faults (kind.One nodes last topic) ≡ is_single w faults nodes last topic
  reach-One = reaching.reach-One w faults

  pub one-keeps : (s : Scene) (topic : Topic) (first t : ℕ)
      → IsKept w faults s t (from first (promises.One topic)) ↔ NoTwoDiffer w faults s.nodes s.horizon first
  one-keeps s topic first t =
      same_test (reaches w faults (formula_at s first (promises.One topic) t)) (is_single w faults s.nodes s.horizon first)
      (ap (reaches w faults) (formula-One s first topic t) ∙ reach-One s.nodes s.horizon first) (single-pairs w faults s.nodes s.horizon first)

opposite-test : (d b : Bool) → (if not d then not b else b) ≡ not (if d then not b else b)
opposite-test true true = refl
opposite-test true false = refl
opposite-test false b = refl

pub opposites : (d : Definition) (nodes : ℕ) (given : List (List ℕ)) (n : ℕ) (state : RuleState) (fact : Told)
    → shows_of d nodes given n state (opposite fact) ≡ not (shows_of d nodes given n state fact)
opposites d nodes given n state fact = opposite-test fact.denied (is_told d nodes given n state fact.told)
