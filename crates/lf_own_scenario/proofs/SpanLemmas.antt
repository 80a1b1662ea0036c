-- The formula of a promise as it is made, by what the promise is, and what it says.
use Rattle.std.proofs.Common.{◌≡◌, ◌⊎◌, ℕ, zero, suc, ◌+◌, ◌-◌, ◌<◌, ◌≤◌, Bool, true, false, ◌&&◌, List, [], ◌∷◌, ◌++◌, append_assoc}
use Rattle.std.proofs.Common.{length, length-append, add-zero, refl, sym, ap, ◌∙◌, subst, map, take, inl, inr, arith}
use Rattle.std.specs.List.{AllByRecursion, flat_map, list_all, range_with_len}
use Rattle.std.proofs.lemmas.Bool.{and_parts, false≢true, leb-true}
use Rattle.std.proofs.lemmas.List.Folds.{list_all-map}
use Rattle.lf_rules.specs.Terms.{Term}
use Rattle.lf_rules.specs.declared.topic.Topic.{Topic}
use Rattle.std.specs.Prelude.{Option, get_or, nat_le}
use Rattle.lf_rule_machine.specs.declared.fact.Fact.{Fact as Told}
use Rattle.lf_protocols.specs.declared.fact.Fact.{Fact}
use Rattle.lf_outcome.specs.declared.formula.Formula.{Formula}
use Rattle.lf_outcome.specs.declared.formula.Formula.TheVariants as kind
use Rattle.lf_outcome.specs.Measures.{depth_of, atoms_of}
use Rattle.lf_outcome.specs.Named.{shows_or_down}
use Rattle.lf_outcome.specs.Unfolding.{joined, later, unfold_at, unfolded}
use Rattle.lf_outcome.proofs.Laws.{unfold-All, unfold-Any, unfold-Down, unfold-Shows, unfold-One, unfolded-Over, later-none, depth-unfolded, atoms-unfolded}
use Rattle.lf_promises.specs.Fronts.{opposite}
use Rattle.lf_promises.specs.declared.promise.Many.{Many}
use Rattle.lf_promises.specs.declared.promise.Many.TheVariants as manys
use Rattle.lf_promises.specs.declared.promise.Promise.{Promise, fold-roll-Promise}
use Rattle.lf_promises.specs.declared.promise.Promise.TheVariants.{rolls-All, rolls-Any, rolls-Always, rolls-Ever, rolls-Nodes, rolls-Down, rolls-At, rolls-One}
use Rattle.lf_promises.specs.declared.promise.Promise.TheVariants as promises
use Rattle.lf_promises.specs.declared.promise.Promise.TheOpen.{Promise-F}
use Rattle.lf_promises.proofs.Laws.{by_induction}
use Rattle.lf_own_scenario.specs.declared.scene.Scene.{Scene}
use Rattle.lf_own_scenario.specs.Members.{members, others}
use Rattle.lf_own_scenario.specs.Quantities.{ruled, shows, each, any_of, all_but_one, where_any, so_many}
use Rattle.lf_own_scenario.specs.Topics.{topics_in, count_topics, count_all}
use Rattle.lf_own_scenario.specs.Spans.{Spanned, all_spanned, all_steady, count_spanned, each_spanned, is_span, is_steady, over_steps}
use Rattle.lf_own_scenario.specs.Spans.{span_step, spanned_at, spanned_part, steady_step}
use Rattle.lf_own_scenario.specs.Unfolding.{formula_at, formulas_at}
use Rattle.lf_own_scenario.proofs.UnfoldingLemmas.{formula-All, formula-Any, formula-Always, formula-Ever, formula-Nodes, formula-Down, formula-At, formula-One}
use Rattle.lf_own_scenario.proofs.TopicLemmas.{topics-All, topics-Any, topics-Always, topics-Ever, topics-Nodes, topics-Down, topics-At, topics-One, taken}

-- ---- promises of one step

pub steady-All : (parts : List Promise) → is_steady (promises.All parts) ≡ list_all is_steady parts
steady-All parts =
    ap is_steady (sym (rolls-All parts)) ∙ fold-roll-Promise Bool steady_step (Promise-F.All parts) ∙ list_all-map (λ b. b) is_steady parts

pub steady-Any : (parts : List Promise) → is_steady (promises.Any parts) ≡ list_all is_steady parts
steady-Any parts =
    ap is_steady (sym (rolls-Any parts)) ∙ fold-roll-Promise Bool steady_step (Promise-F.Any parts) ∙ list_all-map (λ b. b) is_steady parts

pub steady-Always : (parts : List Promise) → is_steady (promises.Always parts) ≡ false
steady-Always parts = ap is_steady (sym (rolls-Always parts)) ∙ fold-roll-Promise Bool steady_step (Promise-F.Always parts)

pub steady-Ever : (parts : List Promise) → is_steady (promises.Ever parts) ≡ false
steady-Ever parts = ap is_steady (sym (rolls-Ever parts)) ∙ fold-roll-Promise Bool steady_step (Promise-F.Ever parts)

pub steady-Nodes : (many : Many) (fact : Told) (of : Option Term) → is_steady (promises.Nodes many fact of) ≡ true
steady-Nodes many fact of = ap is_steady (sym (rolls-Nodes many fact of)) ∙ fold-roll-Promise Bool steady_step (Promise-F.Nodes many fact of)

pub steady-Down : (n : ℕ) → is_steady (promises.Down n) ≡ true
steady-Down n = ap is_steady (sym (rolls-Down n)) ∙ fold-roll-Promise Bool steady_step (Promise-F.Down n)

pub steady-At : (n : ℕ) (fact : Told) → is_steady (promises.At n fact) ≡ true
steady-At n fact = ap is_steady (sym (rolls-At n fact)) ∙ fold-roll-Promise Bool steady_step (Promise-F.At n fact)

pub steady-One : (topic : Topic) → is_steady (promises.One topic) ≡ true
steady-One topic = ap is_steady (sym (rolls-One topic)) ∙ fold-roll-Promise Bool steady_step (Promise-F.One topic)

-- a promise with parts, but all or some at all steps
pub steady-parts : (p : Promise) (parts : List Promise) → (p ≡ promises.All parts) ⊎ (p ≡ promises.Any parts) → is_steady p ≡ list_all is_steady parts
steady-parts p parts (inl is) = ap is_steady is ∙ steady-All parts
steady-parts p parts (inr is) = ap is_steady is ∙ steady-Any parts

-- ---- the formula of a promise

module _ (s : Scene) where
  -- a part comes to as many topics as it has
  abbrev Counts : Promise → Type 0
  Counts p = (spanned_part s p).topics ≡ count_topics p

  parts-count : (parts : List Promise) → AllByRecursion Counts parts → count_spanned (map (spanned_part s) parts) ≡ count_all parts
  parts-count [] each_counts = refl
  parts-count (p ∷ ps) each_counts =
      ap (λ k. k + count_spanned (map (spanned_part s) ps)) each_counts.0 ∙ ap (λ k. count_topics p + k) (parts-count ps each_counts.1)
      ∙ sym (length-append (topics_in p) (flat_map topics_in ps))

  abbrev topics_of : Spanned → ℕ
  topics_of x = x.topics

  part-counts : (p : Promise) → Counts p
  part-counts = by_induction Counts (record {
    all = λ parts each_counts.
        ap (λ p. topics_of (spanned_part s p)) (sym (rolls-All parts)) ∙ ap topics_of (fold-roll-Promise Spanned (span_step s) (Promise-F.All parts))
        ∙ parts-count parts each_counts ∙ ap length (sym (topics-All parts));
    any = λ parts each_counts.
        ap (λ p. topics_of (spanned_part s p)) (sym (rolls-Any parts)) ∙ ap topics_of (fold-roll-Promise Spanned (span_step s) (Promise-F.Any parts))
        ∙ parts-count parts each_counts ∙ ap length (sym (topics-Any parts));
    always = λ parts each_counts.
        ap (λ p. topics_of (spanned_part s p)) (sym (rolls-Always parts)) ∙ ap topics_of (fold-roll-Promise Spanned (span_step s) (Promise-F.Always parts))
        ∙ parts-count parts each_counts ∙ ap length (sym (topics-Always parts));
    ever = λ parts each_counts.
        ap (λ p. topics_of (spanned_part s p)) (sym (rolls-Ever parts)) ∙ ap topics_of (fold-roll-Promise Spanned (span_step s) (Promise-F.Ever parts))
        ∙ parts-count parts each_counts ∙ ap length (sym (topics-Ever parts));
    nodes = λ many fact of.
        ap (λ p. topics_of (spanned_part s p)) (sym (rolls-Nodes many fact of))
        ∙ ap topics_of (fold-roll-Promise Spanned (span_step s) (Promise-F.Nodes many fact of)) ∙ ap length (sym (topics-Nodes many fact of));
    down = λ n.
        ap (λ p. topics_of (spanned_part s p)) (sym (rolls-Down n)) ∙ ap topics_of (fold-roll-Promise Spanned (span_step s) (Promise-F.Down n))
        ∙ ap length (sym (topics-Down n));
    shows = λ n fact.
        ap (λ p. topics_of (spanned_part s p)) (sym (rolls-At n fact)) ∙ ap topics_of (fold-roll-Promise Spanned (span_step s) (Promise-F.At n fact))
        ∙ ap length (sym (topics-At n fact));
    one = λ topic.
        ap (λ p. topics_of (spanned_part s p)) (sym (rolls-One topic)) ∙ ap topics_of (fold-roll-Promise Spanned (span_step s) (Promise-F.One topic))
        ∙ ap length (sym (topics-One topic));
  })

  abbrev steady_of : Spanned → Bool
  steady_of x = x.steady

  -- a part is of one step where its promise is
  abbrev Stays : Promise → Type 0
  Stays p = steady_of (spanned_part s p) ≡ is_steady p

  parts-stay : (parts : List Promise) → AllByRecursion Stays parts → all_steady (map (spanned_part s) parts) ≡ list_all is_steady parts
  parts-stay [] each_stays = refl
  parts-stay (p ∷ ps) each_stays =
      ap (λ b. b && all_steady (map (spanned_part s) ps)) each_stays.0 ∙ ap (λ b. is_steady p && b) (parts-stay ps each_stays.1)

  part-stays : (p : Promise) → Stays p
  part-stays = by_induction Stays (record {
    all = λ parts each_stays.
        ap (λ p. steady_of (spanned_part s p)) (sym (rolls-All parts)) ∙ ap steady_of (fold-roll-Promise Spanned (span_step s) (Promise-F.All parts))
        ∙ parts-stay parts each_stays ∙ sym (steady-All parts);
    any = λ parts each_stays.
        ap (λ p. steady_of (spanned_part s p)) (sym (rolls-Any parts)) ∙ ap steady_of (fold-roll-Promise Spanned (span_step s) (Promise-F.Any parts))
        ∙ parts-stay parts each_stays ∙ sym (steady-Any parts);
    always = λ parts each_stays.
        ap (λ p. steady_of (spanned_part s p)) (sym (rolls-Always parts)) ∙ ap steady_of (fold-roll-Promise Spanned (span_step s) (Promise-F.Always parts))
        ∙ sym (steady-Always parts);
    ever = λ parts each_stays.
        ap (λ p. steady_of (spanned_part s p)) (sym (rolls-Ever parts)) ∙ ap steady_of (fold-roll-Promise Spanned (span_step s) (Promise-F.Ever parts))
        ∙ sym (steady-Ever parts);
    nodes = λ many fact of.
        ap (λ p. steady_of (spanned_part s p)) (sym (rolls-Nodes many fact of))
        ∙ ap steady_of (fold-roll-Promise Spanned (span_step s) (Promise-F.Nodes many fact of))
        ∙ sym (steady-Nodes many fact of);
    down = λ n.
        ap (λ p. steady_of (spanned_part s p)) (sym (rolls-Down n)) ∙ ap steady_of (fold-roll-Promise Spanned (span_step s) (Promise-F.Down n))
        ∙ sym (steady-Down n);
    shows = λ n fact.
        ap (λ p. steady_of (spanned_part s p)) (sym (rolls-At n fact)) ∙ ap steady_of (fold-roll-Promise Spanned (span_step s) (Promise-F.At n fact))
        ∙ sym (steady-At n fact);
    one = λ topic.
        ap (λ p. steady_of (spanned_part s p)) (sym (rolls-One topic)) ∙ ap steady_of (fold-roll-Promise Spanned (span_step s) (Promise-F.One topic))
        ∙ sym (steady-One topic);
  })

  all-stay : (parts : List Promise) → all_steady (map (spanned_part s) parts) ≡ list_all is_steady parts
  all-stay [] = refl
  all-stay (p ∷ ps) = ap (λ b. b && all_steady (map (spanned_part s) ps)) (part-stays p) ∙ ap (λ b. is_steady p && b) (all-stay ps)

  each-of : (parts : List Promise) (first t : ℕ) → each_spanned (map (spanned_part s) parts) first t ≡ all_spanned s first parts t
  each-of [] first t = refl
  each-of (p ∷ ps) first t =
      ap (λ k. spanned_at s first p t ∷ each_spanned (map (spanned_part s) ps) (first + k) t) (part-counts p)
      ∙ ap (λ fs. spanned_at s first p t ∷ fs) (each-of ps (first + count_topics p) t)

  always-of : (parts : List Promise) (first : ℕ) (ts : List ℕ)
      → flat_map (each_spanned (map (spanned_part s) parts) first) ts ≡ flat_map (all_spanned s first parts) ts
  always-of parts first ts = ap (λ (f : ℕ → List (Formula Fact)). flat_map f ts) (λ i t. each-of parts first t i)

  -- the formula that a part comes to
  abbrev comes : ℕ → ℕ → Spanned → Formula Fact
  comes first t x = x.formula first t

  pub spanned-All : (first : ℕ) (parts : List Promise) (t : ℕ) → spanned_at s first (promises.All parts) t ≡ kind.All (all_spanned s first parts t)
  spanned-All first parts t =
      ap (λ p. spanned_at s first p t) (sym (rolls-All parts)) ∙ ap (comes first t) (fold-roll-Promise Spanned (span_step s) (Promise-F.All parts))
      ∙ ap kind.All (each-of parts first t)

  pub spanned-Any : (first : ℕ) (parts : List Promise) (t : ℕ) → spanned_at s first (promises.Any parts) t ≡ kind.Any (all_spanned s first parts t)
  spanned-Any first parts t =
      ap (λ p. spanned_at s first p t) (sym (rolls-Any parts)) ∙ ap (comes first t) (fold-roll-Promise Spanned (span_step s) (Promise-F.Any parts))
      ∙ ap kind.Any (each-of parts first t)

  -- parts at all steps
  abbrev pub spans : Bool → ℕ → List Promise → Formula Fact
  spans every first parts =
      over_steps every s.horizon (is_span s.horizon (list_all is_steady parts)) (all_spanned s first parts 0)
      (flat_map (all_spanned s first parts) (range_with_len 1 s.horizon))

  spans-of : (every : Bool) (first : ℕ) (parts : List Promise)
      → over_steps every s.horizon (is_span s.horizon (all_steady (map (spanned_part s) parts))) (each_spanned (map (spanned_part s) parts) first 0)
      (flat_map (each_spanned (map (spanned_part s) parts) first) (range_with_len 1 s.horizon)) ≡ spans every first parts
  spans-of every first parts =
      let at = each_spanned (map (spanned_part s) parts) first 0 in
      let each = flat_map (each_spanned (map (spanned_part s) parts) first) (range_with_len 1 s.horizon) in
      ap (λ b. over_steps every s.horizon (is_span s.horizon b) at each) (all-stay parts)
      ∙ ap (λ fs. over_steps every s.horizon (is_span s.horizon (list_all is_steady parts)) fs each) (each-of parts first 0)
      ∙ ap (over_steps every s.horizon (is_span s.horizon (list_all is_steady parts)) (all_spanned s first parts 0))
      (always-of parts first (range_with_len 1 s.horizon))

  pub spanned-Always : (first : ℕ) (parts : List Promise) (t : ℕ) → spanned_at s first (promises.Always parts) t ≡ spans true first parts
  spanned-Always first parts t =
      ap (λ p. spanned_at s first p t) (sym (rolls-Always parts))
      ∙ ap (comes first t) (fold-roll-Promise Spanned (span_step s) (Promise-F.Always parts)) ∙ spans-of true first parts

  pub spanned-Ever : (first : ℕ) (parts : List Promise) (t : ℕ) → spanned_at s first (promises.Ever parts) t ≡ spans false first parts
  spanned-Ever first parts t =
      ap (λ p. spanned_at s first p t) (sym (rolls-Ever parts))
      ∙ ap (comes first t) (fold-roll-Promise Spanned (span_step s) (Promise-F.Ever parts)) ∙ spans-of false first parts

  pub spanned-Nodes : (first : ℕ) (many : Many) (fact : Told) (of : Option Term) (t : ℕ)
      → spanned_at s first (promises.Nodes many fact of) t ≡ so_many many t fact (members s of)
  spanned-Nodes first many fact of t =
      ap (λ p. spanned_at s first p t) (sym (rolls-Nodes many fact of))
      ∙ ap (comes first t) (fold-roll-Promise Spanned (span_step s) (Promise-F.Nodes many fact of))

  pub spanned-Down : (first n t : ℕ) → spanned_at s first (promises.Down n) t ≡ kind.Down n t
  spanned-Down first n t =
      ap (λ p. spanned_at s first p t) (sym (rolls-Down n)) ∙ ap (comes first t) (fold-roll-Promise Spanned (span_step s) (Promise-F.Down n))

  pub spanned-At : (first n : ℕ) (fact : Told) (t : ℕ) → spanned_at s first (promises.At n fact) t ≡ kind.Shows n t (ruled fact)
  spanned-At first n fact t =
      ap (λ p. spanned_at s first p t) (sym (rolls-At n fact)) ∙ ap (comes first t) (fold-roll-Promise Spanned (span_step s) (Promise-F.At n fact))

  pub spanned-One : (first : ℕ) (topic : Topic) (t : ℕ) → spanned_at s first (promises.One topic) t ≡ kind.One s.nodes s.horizon first
  spanned-One first topic t =
      ap (λ p. spanned_at s first p t) (sym (rolls-One topic)) ∙ ap (comes first t) (fold-roll-Promise Spanned (span_step s) (Promise-F.One topic))

  -- parts, one more
  pub all_spanned-more : (first : ℕ) (parts : List Promise) (p : Promise) (t : ℕ)
      → all_spanned s first (parts ++ p ∷ []) t ≡ all_spanned s first parts t ++ spanned_at s (first + count_all parts) p t ∷ []
  all_spanned-more first [] p t = ap (λ k. spanned_at s k p t ∷ []) (sym (add-zero first))
  all_spanned-more first (x ∷ xs) p t =
      let place : (first + count_topics x) + count_all xs ≡ first + count_all (x ∷ xs) =
      omega (arith, length-append (topics_in x) (flat_map topics_in xs)) in
      ap (λ fs. spanned_at s first x t ∷ fs) (all_spanned-more (first + count_topics x) xs p t
      ∙ ap (λ k. all_spanned s (first + count_topics x) xs t ++ spanned_at s k p t ∷ []) place)

  -- parts in turn, as a loop takes them
  module _ (parts : List Promise) (i : ℕ) (part : Promise) (there : i < length parts) (is : part ≡ get_or parts i part) where
    pub all_spanned-on : (first next t : ℕ) (before sofar now : List (Formula Fact)) (formula : Formula Fact)
        → sofar ≡ before ++ all_spanned s first (take i parts) t → next ≡ first + count_all (take i parts) → formula ≡ spanned_at s next part t
        → now ≡ sofar ++ formula ∷ [] → now ≡ before ++ all_spanned s first (take (i + 1) parts) t
    all_spanned-on first next t before sofar now formula put numbered made pushed =
        let own : formula ≡ spanned_at s (first + count_all (take i parts)) part t = made ∙ ap (λ k. spanned_at s k part t) numbered in
        pushed ∙ ap (λ fs. fs ++ formula ∷ []) put ∙ append_assoc before (all_spanned s first (take i parts) t) (formula ∷ [])
        ∙ ap (λ f. before ++ (all_spanned s first (take i parts) t ++ f ∷ [])) own
        ∙ ap (λ fs. before ++ fs) (sym (all_spanned-more first (take i parts) part t)
        ∙ ap (λ ps. all_spanned s first ps t) (sym (taken parts i part there is)))

-- ---- what the formula says at each of its steps

-- what is said of a part is said where it is of one step, or at step 0
abbrev How : ℕ → Bool → Type 0
How k steady = (k ≡ 0) ⊎ (steady ≡ true)

how-first : (k : ℕ) (a b : Bool) → How k (a && b) → How k a
how-first k a b (inl e) = inl e
how-first k a b (inr e) = inr (and_parts a b e).0

how-rest : (k : ℕ) (a b : Bool) → How k (a && b) → How k b
how-rest k a b (inl e) = inl e
how-rest k a b (inr e) = inr (and_parts a b e).1

at-none : (k : ℕ) (b : Bool) → b ≡ false → How k b → k ≡ 0
at-none k b isnt (inl e) = e
at-none k b isnt (inr e) = absurd (false≢true (sym isnt ∙ e))

map-said : {X : Type 0} (k : ℕ) (g h : X → Formula Fact) → ((x : X) → unfold_at (g x) k ≡ h x) → (xs : List X)
    → map (λ f. unfold_at f k) (map g xs) ≡ map h xs
map-said k g h same [] = refl
map-said k g h same (x ∷ xs) = ap (λ f. f ∷ map (λ f. unfold_at f k) (map g xs)) (same x) ∙ ap (λ fs. h x ∷ fs) (map-said k g h same xs)

map-both : {X Y : Type 0} (m : X → Y) (xs ys : List X) → map m (xs ++ ys) ≡ map m xs ++ map m ys
map-both m [] ys = refl
map-both m (x ∷ xs) ys = ap (λ zs. m x ∷ zs) (map-both m xs ys)

map-flat : {X Y : Type 0} (m : X → Y) (g : ℕ → List X) (ts : List ℕ) → map m (flat_map g ts) ≡ flat_map (λ t. map m (g t)) ts
map-flat m g [] = refl
map-flat m g (t ∷ ts) = map-both m (g t) (flat_map g ts) ∙ ap (λ ys. map m (g t) ++ ys) (map-flat m g ts)

flat-same : {X : Type 0} (g h : ℕ → List X) → ((t : ℕ) → g t ≡ h t) → (ts : List ℕ) → flat_map g ts ≡ flat_map h ts
flat-same g h same [] = refl
flat-same g h same (t ∷ ts) = ap (λ ys. ys ++ flat_map g ts) (same t) ∙ ap (λ ys. h t ++ ys) (flat-same g h same ts)

-- the same of each step up to a limit
flat-within : {X : Type 0} (g h : ℕ → List X) (limit : ℕ) → ((t : ℕ) → t ≤ limit → g t ≡ h t) → (n a : ℕ) → a + n ≤ limit + 1
    → flat_map g (range_with_len a n) ≡ flat_map h (range_with_len a n)
flat-within g h limit same zero a low = refl
flat-within g h limit same (suc n) a low =
    ap (λ ys. ys ++ flat_map g (range_with_len (a + 1) n)) (same a (omega (arith, low)))
    ∙ ap (λ ys. h a ++ ys) (flat-within g h limit same n (a + 1) (omega (arith, low)))

-- so many of some nodes, counted from a step
module _ (t k u : ℕ) (at : u ≡ later k t) (fact : Fact) where
  shows-said : (n : ℕ) → unfold_at (shows t fact n) k ≡ shows u fact n
  shows-said n = unfold-Shows n t fact k ∙ ap (λ v. kind.Shows n v fact) (sym at)

  node-said : (n : ℕ) → unfold_at (shows_or_down t fact n) k ≡ shows_or_down u fact n
  node-said n =
      unfold-Any (kind.Down n t ∷ kind.Shows n t fact ∷ []) k
      ∙ ap (λ f. kind.Any (f ∷ unfold_at (kind.Shows n t fact) k ∷ [])) (unfold-Down n t k ∙ ap (kind.Down n) (sym at))
      ∙ ap (λ f. kind.Any (kind.Down n u ∷ f ∷ [])) (shows-said n)

  each-said : (ns : List ℕ) → unfold_at (each t fact ns) k ≡ each u fact ns
  unfolding each
  each-said ns = unfold-All (map (shows_or_down t fact) ns) k ∙ ap kind.All (map-said k (shows_or_down t fact) (shows_or_down u fact) node-said ns)

  any-said : (ns : List ℕ) → unfold_at (any_of t fact ns) k ≡ any_of u fact ns
  unfolding any_of
  any-said ns = unfold-Any (map (shows t fact) ns) k ∙ ap kind.Any (map-said k (shows t fact) (shows u fact) shows-said ns)

  ways-said : (ns : List ℕ) → unfold_at (where_any ns (all_but_one t fact ns)) k ≡ where_any ns (all_but_one u fact ns)
  unfolding all_but_one
  ways-said [] = unfold-All [] k
  ways-said (n ∷ ns) =
      unfold-Any (all_but_one t fact (n ∷ ns)) k
      ∙ ap kind.Any (map-said k (λ j. each t fact (others (n ∷ ns) j)) (λ j. each u fact (others (n ∷ ns) j))
      (λ j. each-said (others (n ∷ ns) j)) (n ∷ ns))

so_many-said : (t k u : ℕ) → u ≡ later k t → (many : Many) (fact : Told) (ns : List ℕ) → unfold_at (so_many many t fact ns) k ≡ so_many many u fact ns
so_many-said t k u at manys.Each fact ns = each-said t k u at (ruled fact) ns
so_many-said t k u at manys.No fact ns = each-said t k u at (ruled (opposite fact)) ns
so_many-said t k u at manys.Some fact ns = any-said t k u at (ruled fact) ns
so_many-said t k u at manys.AtMostOne fact ns = ways-said t k u at (ruled (opposite fact)) ns

joined-said : (every : Bool) (fs : List (Formula Fact)) (k : ℕ) → unfold_at (joined every fs) k ≡ joined every (map (λ f. unfold_at f k) fs)
joined-said true fs k = unfold-All fs k
joined-said false fs k = unfold-Any fs k

module _ (s : Scene) where
  -- the formula of a promise says, counted from k, what the promise is at that step
  abbrev Says : Promise → Type 0
  Says p = (first t k u : ℕ) → u ≡ later k t → How k (is_steady p) → unfold_at (spanned_at s first p t) k ≡ formula_at s first p u

  parts-say : (parts : List Promise) → AllByRecursion Says parts → (first t k u : ℕ) → u ≡ later k t → How k (list_all is_steady parts)
      → map (λ f. unfold_at f k) (all_spanned s first parts t) ≡ formulas_at s first parts u
  parts-say [] says first t k u at how = refl
  parts-say (p ∷ ps) says first t k u at how =
      let next = first + count_topics p in
      ap (λ f. f ∷ map (λ f. unfold_at f k) (all_spanned s next ps t))
      (says.0 first t k u at (how-first k (is_steady p) (list_all is_steady ps) how))
      ∙ ap (λ fs. formula_at s first p u ∷ fs) (parts-say ps says.1 next t k u at (how-rest k (is_steady p) (list_all is_steady ps) how))

  over-says : (every : Bool) (parts : List Promise) → AllByRecursion Says parts → (first : ℕ) (span : Bool)
      → is_span s.horizon (list_all is_steady parts) ≡ span
      → unfolded (over_steps every s.horizon span (all_spanned s first parts 0) (flat_map (all_spanned s first parts) (range_with_len 1 s.horizon)))
      ≡ joined every (flat_map (formulas_at s first parts) (range_with_len 1 s.horizon))
  over-says every parts says first true is =
      let at : ℕ → List (Formula Fact) = λ u. map (λ f. unfold_at f u) (all_spanned s first parts 0) in
      let all : s.horizon + 1 - 1 ≡ s.horizon = omega arith in
      let both = and_parts (nat_le s.horizon 4294967295) (list_all is_steady parts) is in
      let short = leb-true s.horizon 4294967295 both.0 in
      unfolded-Over every 1 s.horizon (all_spanned s first parts 0) ∙ ap (λ n. joined every (flat_map at (range_with_len 1 n))) all
      ∙ ap (joined every) (flat-within at (formulas_at s first parts) 4294967295
      (λ u low. parts-say parts says first 0 u u (omega (arith, low)) (inr both.1)) s.horizon 1 (omega (arith, short)))
  over-says every parts says first false is =
      let each = flat_map (all_spanned s first parts) (range_with_len 1 s.horizon) in
      joined-said every each 0
      ∙ ap (joined every) (map-flat (λ f. unfold_at f 0) (all_spanned s first parts) (range_with_len 1 s.horizon)
      ∙ flat-same (λ t. map (λ f. unfold_at f 0) (all_spanned s first parts t)) (formulas_at s first parts)
      (λ t. parts-say parts says first t 0 t (sym (later-none t)) (inl refl)) (range_with_len 1 s.horizon))

  promise-says : (p : Promise) → Says p
  promise-says = by_induction Says (record {
    all = λ parts says first t k u at how.
        ap (λ f. unfold_at f k) (spanned-All s first parts t) ∙ unfold-All (all_spanned s first parts t) k
        ∙ ap kind.All (parts-say parts says first t k u at (subst (How k) (steady-All parts) how)) ∙ sym (formula-All s first parts u);
    any = λ parts says first t k u at how.
        ap (λ f. unfold_at f k) (spanned-Any s first parts t) ∙ unfold-Any (all_spanned s first parts t) k
        ∙ ap kind.Any (parts-say parts says first t k u at (subst (How k) (steady-Any parts) how)) ∙ sym (formula-Any s first parts u);
    always = λ parts says first t k u at how.
        ap (unfold_at (spanned_at s first (promises.Always parts) t)) (at-none k (is_steady (promises.Always parts)) (steady-Always parts) how)
        ∙ ap (λ f. unfolded f) (spanned-Always s first parts t) ∙ over-says true parts says first (is_span s.horizon (list_all is_steady parts)) refl
        ∙ sym (formula-Always s first parts u);
    ever = λ parts says first t k u at how.
        ap (unfold_at (spanned_at s first (promises.Ever parts) t)) (at-none k (is_steady (promises.Ever parts)) (steady-Ever parts) how)
        ∙ ap (λ f. unfolded f) (spanned-Ever s first parts t) ∙ over-says false parts says first (is_span s.horizon (list_all is_steady parts)) refl
        ∙ sym (formula-Ever s first parts u);
    nodes = λ many fact of first t k u at how.
        ap (λ f. unfold_at f k) (spanned-Nodes s first many fact of t) ∙ so_many-said t k u at many fact (members s of)
        ∙ sym (formula-Nodes s first many fact of u);
    down = λ n first t k u at how.
        ap (λ f. unfold_at f k) (spanned-Down s first n t) ∙ unfold-Down n t k ∙ ap (kind.Down n) (sym at) ∙ sym (formula-Down s first n u);
    shows = λ n fact first t k u at how.
        ap (λ f. unfold_at f k) (spanned-At s first n fact t) ∙ shows-said t k u at (ruled fact) n ∙ sym (formula-At s first n fact u);
    one = λ topic first t k u at how.
        ap (λ f. unfold_at f k) (spanned-One s first topic t) ∙ unfold-One s.nodes s.horizon first k ∙ sym (formula-One s first topic u);
  })

  -- without Over it is the promise, step by step,
  pub spanned-says : (first : ℕ) (p : Promise) (t : ℕ) → unfolded (spanned_at s first p t) ≡ formula_at s first p t
  spanned-says first p t = promise-says p first t 0 t (sym (later-none t)) (inl refl)

  -- and as large as that
  pub spanned-depth : (first : ℕ) (p : Promise) (t : ℕ) → depth_of (spanned_at s first p t) ≡ depth_of (formula_at s first p t)
  spanned-depth first p t = sym (depth-unfolded (spanned_at s first p t) 0) ∙ ap depth_of (spanned-says first p t)

  pub spanned-atoms : (first : ℕ) (p : Promise) (t : ℕ) → atoms_of (spanned_at s first p t) ≡ atoms_of (formula_at s first p t)
  spanned-atoms first p t = sym (atoms-unfolded (spanned_at s first p t) 0) ∙ ap atoms_of (spanned-says first p t)
