-- How large the formula of a promise is: the same at every step, and counted from its parts.
use Rattle.std.proofs.Common.{◌≡◌, ◌≢◌, ◌⊎◌, ℕ, zero, suc, ◌+◌, ◌-◌, ◌*◌, ◌<◌, ◌≤◌, Bool, true, false, not, ◌==◌, ◌&&◌, cond, List, [], ◌∷◌, ◌++◌, length}
use Rattle.std.proofs.Common.{refl, sym, ap, ◌∙◌, inl, inr, map, filter, max, min, sum, arith}
use Rattle.std.specs.Prelude.{Option, nat_le}
use Rattle.std.specs.List.{AllByRecursion, fold, flat_map, range_with_len}
use Rattle.std.proofs.Math.Nat.{suc-mul}
use Rattle.std.proofs.lemmas.Bool.{eqb-true, eq-eqb, le-leb, lt-leb, leb-true, leb-false}
use Rattle.lf_rules.specs.Terms.{Term}
use Rattle.lf_rules.specs.declared.topic.Topic.{Topic}
use Rattle.lf_rule_machine.specs.declared.fact.Fact.{Fact as Told}
use Rattle.lf_protocols.specs.declared.fact.Fact.{Fact}
use Rattle.lf_outcome.specs.declared.formula.Formula.{Formula}
use Rattle.lf_outcome.specs.declared.formula.Formula.TheVariants as kind
use Rattle.lf_outcome.specs.Measures.{depth_of, atoms_of}
use Rattle.lf_outcome.specs.Named.{shows_or_down}
use Rattle.lf_outcome.proofs.Laws.{depth_of-parts, atoms_of-parts, depth_of-Shows, atoms_of-Shows, depth_of-Down, atoms_of-Down, depth_of-One, atoms_of-One}
use Rattle.lf_promises.specs.Inductions.{Steps}
use Rattle.lf_promises.specs.Fronts.{opposite}
use Rattle.lf_promises.specs.declared.promise.Many.{Many}
use Rattle.lf_promises.specs.declared.promise.Many.TheVariants as manys
use Rattle.lf_promises.specs.declared.promise.Promise.{Promise}
use Rattle.lf_promises.specs.declared.promise.Promise.TheVariants as promises
use Rattle.lf_promises.proofs.Laws.{by_induction}
use Rattle.lf_own_scenario.specs.declared.scene.Scene.{Scene}
use Rattle.lf_own_scenario.specs.Elements.{Member}
use Rattle.lf_own_scenario.specs.Members.{is_in, members, others}
use Rattle.lf_own_scenario.specs.Quantities.{ruled, shows, each, any_of, all_but_one, where_any, so_many}
use Rattle.lf_own_scenario.specs.Sizes.{depth_of_many, atoms_of_many}
use Rattle.lf_own_scenario.specs.Topics.{count_topics}
use Rattle.lf_own_scenario.specs.Unfolding.{formula_at, formulas_at}
use Rattle.lf_own_scenario.proofs.MemberLemmas.{either, kept-at, range-at}
use Rattle.lf_own_scenario.proofs.UnfoldingLemmas.{formula-All, formula-Any, formula-Always, formula-Ever, formula-Nodes, formula-Down, formula-At, formula-One}

-- ---- a measure that looks neither at steps nor at the numbers of topics is the same whatever they are

pub record IsStepless (m : Formula Fact → ℕ) : Type 0 where
  pub all : (fs gs : List (Formula Fact)) → map m fs ≡ map m gs → m (kind.All fs) ≡ m (kind.All gs)
  pub any : (fs gs : List (Formula Fact)) → map m fs ≡ map m gs → m (kind.Any fs) ≡ m (kind.Any gs)
  pub down : (n t u : ℕ) → m (kind.Down n t) ≡ m (kind.Down n u)
  pub shows : (n t u : ℕ) (fact : Fact) → m (kind.Shows n t fact) ≡ m (kind.Shows n u fact)
  pub one : (nodes last i j : ℕ) → m (kind.One nodes last i) ≡ m (kind.One nodes last j)

map-by : {X : Type 0} (m : Formula Fact → ℕ) (g h : X → Formula Fact) → ((x : X) → m (g x) ≡ m (h x)) → (xs : List X)
    → map m (map g xs) ≡ map m (map h xs)
map-by m g h same [] = refl
map-by m g h same (x ∷ xs) = ap (λ k. k ∷ map m (map g xs)) (same x) ∙ ap (λ ks. m (h x) ∷ ks) (map-by m g h same xs)

map-both : (m : Formula Fact → ℕ) (fs gs : List (Formula Fact)) → map m (fs ++ gs) ≡ map m fs ++ map m gs
map-both m [] gs = refl
map-both m (f ∷ fs) gs = ap (λ ks. m f ∷ ks) (map-both m fs gs)

module _ (m : Formula Fact → ℕ) (is : IsStepless m) where
  node-steady : (t u : ℕ) (fact : Fact) (n : ℕ) → m (shows_or_down t fact n) ≡ m (shows_or_down u fact n)
  node-steady t u fact n =
      is.any (kind.Down n t ∷ kind.Shows n t fact ∷ []) (kind.Down n u ∷ kind.Shows n u fact ∷ [])
      (ap (λ k. k ∷ m (kind.Shows n t fact) ∷ []) (is.down n t u) ∙ ap (λ k. m (kind.Down n u) ∷ k ∷ []) (is.shows n t u fact))

  each-steady : (t u : ℕ) (fact : Fact) (ns : List ℕ) → m (each t fact ns) ≡ m (each u fact ns)
  unfolding each
  each-steady t u fact ns =
      is.all (map (shows_or_down t fact) ns) (map (shows_or_down u fact) ns)
      (map-by m (shows_or_down t fact) (shows_or_down u fact) (node-steady t u fact) ns)

  any-steady : (t u : ℕ) (fact : Fact) (ns : List ℕ) → m (any_of t fact ns) ≡ m (any_of u fact ns)
  unfolding any_of
  any-steady t u fact ns =
      is.any (map (shows t fact) ns) (map (shows u fact) ns) (map-by m (shows t fact) (shows u fact) (λ n. is.shows n t u fact) ns)

  ways-steady : (t u : ℕ) (fact : Fact) (ns : List ℕ) → m (where_any ns (all_but_one t fact ns)) ≡ m (where_any ns (all_but_one u fact ns))
  unfolding all_but_one
  ways-steady t u fact [] = refl
  ways-steady t u fact (n ∷ ns) =
      is.any (all_but_one t fact (n ∷ ns)) (all_but_one u fact (n ∷ ns))
      (map-by m (λ k. each t fact (others (n ∷ ns) k)) (λ k. each u fact (others (n ∷ ns) k))
      (λ k. each-steady t u fact (others (n ∷ ns) k)) (n ∷ ns))

  many-steady : (many : Many) (t u : ℕ) (fact : Told) (ns : List ℕ) → m (so_many many t fact ns) ≡ m (so_many many u fact ns)
  many-steady manys.Each t u fact ns = each-steady t u (ruled fact) ns
  many-steady manys.No t u fact ns = each-steady t u (ruled (opposite fact)) ns
  many-steady manys.Some t u fact ns = any-steady t u (ruled fact) ns
  many-steady manys.AtMostOne t u fact ns = ways-steady t u (ruled (opposite fact)) ns

  module _ (s : Scene) where
    abbrev Steady : Promise → Type 0
    Steady p = (i j t u : ℕ) → m (formula_at s i p t) ≡ m (formula_at s j p u)

    parts-steady : (parts : List Promise) → AllByRecursion Steady parts → (i j t u : ℕ)
        → map m (formulas_at s i parts t) ≡ map m (formulas_at s j parts u)
    parts-steady [] each_steady i j t u = refl
    parts-steady (p ∷ ps) each_steady i j t u =
        ap (λ k. k ∷ map m (formulas_at s (i + count_topics p) ps t)) (each_steady.0 i j t u)
        ∙ ap (λ ks. m (formula_at s j p u) ∷ ks) (parts-steady ps each_steady.1 (i + count_topics p) (j + count_topics p) t u)

    -- the same at all of some steps
    always-steady : (parts : List Promise) → AllByRecursion Steady parts → (i j : ℕ) (ts : List ℕ)
        → map m (flat_map (formulas_at s i parts) ts) ≡ map m (flat_map (formulas_at s j parts) ts)
    always-steady parts each_steady i j [] = refl
    always-steady parts each_steady i j (t ∷ ts) =
        map-both m (formulas_at s i parts t) (flat_map (formulas_at s i parts) ts)
        ∙ ap (λ ks. ks ++ map m (flat_map (formulas_at s i parts) ts)) (parts-steady parts each_steady i j t t)
        ∙ ap (λ ks. map m (formulas_at s j parts t) ++ ks) (always-steady parts each_steady i j ts)
        ∙ sym (map-both m (formulas_at s j parts t) (flat_map (formulas_at s j parts) ts))

    abbrev steps : Steps Steady
    steps = record {
      all = λ parts each_steady i j t u.
          ap m (formula-All s i parts t) ∙ is.all (formulas_at s i parts t) (formulas_at s j parts u) (parts-steady parts each_steady i j t u)
          ∙ ap m (sym (formula-All s j parts u));
      any = λ parts each_steady i j t u.
          ap m (formula-Any s i parts t) ∙ is.any (formulas_at s i parts t) (formulas_at s j parts u) (parts-steady parts each_steady i j t u)
          ∙ ap m (sym (formula-Any s j parts u));
      always = λ parts each_steady i j t u.
          let range = range_with_len 1 s.horizon in
          ap m (formula-Always s i parts t)
          ∙ is.all (flat_map (formulas_at s i parts) range) (flat_map (formulas_at s j parts) range) (always-steady parts each_steady i j range)
          ∙ ap m (sym (formula-Always s j parts u));
      ever = λ parts each_steady i j t u.
          let range = range_with_len 1 s.horizon in
          ap m (formula-Ever s i parts t)
          ∙ is.any (flat_map (formulas_at s i parts) range) (flat_map (formulas_at s j parts) range) (always-steady parts each_steady i j range)
          ∙ ap m (sym (formula-Ever s j parts u));
      nodes = λ many fact of i j t u.
          ap m (formula-Nodes s i many fact of t) ∙ many-steady many t u fact (members s of) ∙ ap m (sym (formula-Nodes s j many fact of u));
      down = λ n i j t u. ap m (formula-Down s i n t) ∙ is.down n t u ∙ ap m (sym (formula-Down s j n u));
      shows = λ n fact i j t u. ap m (formula-At s i n fact t) ∙ is.shows n t u (ruled fact) ∙ ap m (sym (formula-At s j n fact u));
      one = λ topic i j t u. ap m (formula-One s i topic t) ∙ is.one s.nodes s.horizon i j ∙ ap m (sym (formula-One s j topic u));
    }

    steady : (p : Promise) → Steady p
    steady = by_induction Steady steps

    -- so parts measure what each measures at step 0, with its topics from 0
    pub at-none : (parts : List Promise) (i u : ℕ) → map m (formulas_at s i parts u) ≡ map (λ part. m (formula_at s 0 part 0)) parts
    at-none [] i u = refl
    at-none (p ∷ ps) i u =
        ap (λ k. k ∷ map m (formulas_at s (i + count_topics p) ps u)) (steady p i 0 u 0)
        ∙ ap (λ ks. m (formula_at s 0 p 0) ∷ ks) (at-none ps (i + count_topics p) u)

depth-All : (fs : List (Formula Fact)) → depth_of (kind.All fs) ≡ fold max 0 (map depth_of fs) + 1
depth-All fs = depth_of-parts (kind.All fs) fs (inl refl)

depth-Any : (fs : List (Formula Fact)) → depth_of (kind.Any fs) ≡ fold max 0 (map depth_of fs) + 1
depth-Any fs = depth_of-parts (kind.Any fs) fs (inr refl)

atoms-All : (fs : List (Formula Fact)) → atoms_of (kind.All fs) ≡ sum (map atoms_of fs)
atoms-All fs = atoms_of-parts (kind.All fs) fs (inl refl)

atoms-Any : (fs : List (Formula Fact)) → atoms_of (kind.Any fs) ≡ sum (map atoms_of fs)
atoms-Any fs = atoms_of-parts (kind.Any fs) fs (inr refl)

depth-stepless : IsStepless (depth_of {Fact = Fact})
depth-stepless = record {
  all = λ fs gs same. depth-All fs ∙ ap (λ ks. fold max 0 ks + 1) same ∙ sym (depth-All gs);
  any = λ fs gs same. depth-Any fs ∙ ap (λ ks. fold max 0 ks + 1) same ∙ sym (depth-Any gs);
  down = λ n t u. depth_of-Down Fact n t ∙ sym (depth_of-Down Fact n u);
  shows = λ n t u fact. depth_of-Shows n t fact ∙ sym (depth_of-Shows n u fact);
  one = λ nodes last i j. depth_of-One Fact nodes last i ∙ sym (depth_of-One Fact nodes last j);
}

atoms-stepless : IsStepless (atoms_of {Fact = Fact})
atoms-stepless = record {
  all = λ fs gs same. atoms-All fs ∙ ap sum same ∙ sym (atoms-All gs);
  any = λ fs gs same. atoms-Any fs ∙ ap sum same ∙ sym (atoms-Any gs);
  down = λ n t u. atoms_of-Down Fact n t ∙ sym (atoms_of-Down Fact n u);
  shows = λ n t u fact. atoms_of-Shows n t fact ∙ sym (atoms_of-Shows n u fact);
  one = λ nodes last i j. atoms_of-One Fact nodes last i ∙ sym (atoms_of-One Fact nodes last j);
}

pub depth-steady : (s : Scene) (p : Promise) (i j t u : ℕ) → depth_of (formula_at s i p t) ≡ depth_of (formula_at s j p u)
depth-steady = steady depth_of depth-stepless

pub atoms-steady : (s : Scene) (p : Promise) (i j t u : ℕ) → atoms_of (formula_at s i p t) ≡ atoms_of (formula_at s j p u)
atoms-steady = steady atoms_of atoms-stepless

-- ---- the deepest of some formulas, and how many atoms they have together

abbrev deep : List (Formula Fact) → ℕ
deep fs = fold max 0 (map depth_of fs)

abbrev heavy : List (Formula Fact) → ℕ
heavy fs = sum (map atoms_of fs)

max-from : (a : ℕ) (ks : List ℕ) → fold max a ks ≡ max a (fold max 0 ks)
max-from a [] = omega arith
max-from a (k ∷ ks) = omega (arith, max-from (max a k) ks, max-from (max 0 k) ks)

sum-from : (a : ℕ) (ks : List ℕ) → fold (λ s k. s + k) a ks ≡ a + sum ks
sum-from a [] = omega arith
sum-from a (k ∷ ks) = omega (arith, sum-from (a + k) ks, sum-from (0 + k) ks)

deep-cons : (f : Formula Fact) (fs : List (Formula Fact)) → deep (f ∷ fs) ≡ max (depth_of f) (deep fs)
deep-cons f fs = omega (arith, max-from (max 0 (depth_of f)) (map depth_of fs))

heavy-cons : (f : Formula Fact) (fs : List (Formula Fact)) → heavy (f ∷ fs) ≡ atoms_of f + heavy fs
heavy-cons f fs = omega (arith, sum-from (0 + atoms_of f) (map atoms_of fs))

deep-append : (fs gs : List (Formula Fact)) → deep (fs ++ gs) ≡ max (deep fs) (deep gs)
deep-append [] gs = omega arith
deep-append (f ∷ fs) gs = omega (arith, deep-cons f (fs ++ gs), deep-append fs gs, deep-cons f fs)

heavy-append : (fs gs : List (Formula Fact)) → heavy (fs ++ gs) ≡ heavy fs + heavy gs
heavy-append [] gs = omega arith
heavy-append (f ∷ fs) gs = omega (arith, heavy-cons f (fs ++ gs), heavy-append fs gs, heavy-cons f fs)

module _ (g : ℕ → List (Formula Fact)) (d : ℕ) where
  deep-flat : ((u : ℕ) → deep (g u) ≡ d) → (k a : ℕ) → deep (flat_map g (range_with_len a (suc k))) ≡ d
  deep-flat same zero a = omega (arith, deep-append (g a) [], same a)
  deep-flat same (suc k) a = omega (arith, deep-append (g a) (flat_map g (range_with_len (a + 1) (suc k))), same a, deep-flat same k (a + 1))

  heavy-flat : ((u : ℕ) → heavy (g u) ≡ d) → (k a : ℕ) → heavy (flat_map g (range_with_len a k)) ≡ k * d
  heavy-flat same zero a = omega arith
  heavy-flat same (suc k) a =
      omega (arith, heavy-append (g a) (flat_map g (range_with_len (a + 1) k)), same a, heavy-flat same k (a + 1), suc-mul k d)

module _ {X : Type 0} (h : X → Formula Fact) (d : ℕ) where
  deep-const : (x : X) (xs : List X) → ((y : X) → Member (x ∷ xs) y → depth_of (h y) ≡ d) → deep (map h (x ∷ xs)) ≡ d
  deep-const x [] same = omega (arith, deep-cons (h x) [], same x (inl refl))
  deep-const x (z ∷ zs) same =
      omega (arith, deep-cons (h x) (map h (z ∷ zs)), same x (inl refl), deep-const z zs (λ y m. same y (inr m)))

  heavy-const : (xs : List X) → ((y : X) → Member xs y → atoms_of (h y) ≡ d) → heavy (map h xs) ≡ length xs * d
  heavy-const [] same = omega arith
  heavy-const (x ∷ xs) same =
      omega (arith, heavy-cons (h x) (map h xs), same x (inl refl), heavy-const xs (λ y m. same y (inr m)), suc-mul (length xs) d)

-- ---- so many of some nodes, where each node is among them once

-- without one of them there is one less
pub record AreOnce (ns : List ℕ) : Type 0 where
  pub less : (n : ℕ) → Member ns n → length (others ns n) + 1 ≡ length ns

node-depth : (t : ℕ) (fact : Fact) (n : ℕ) → depth_of (shows_or_down t fact n) ≡ 2
node-depth t fact n =
    omega (
      arith,
      depth-Any (kind.Down n t ∷ kind.Shows n t fact ∷ []),
      deep-cons (kind.Down n t) (kind.Shows n t fact ∷ []),
      deep-cons (kind.Shows n t fact) [],
      depth_of-Down Fact n t,
      depth_of-Shows n t fact,
    )

node-atoms : (t : ℕ) (fact : Fact) (n : ℕ) → atoms_of (shows_or_down t fact n) ≡ 2
node-atoms t fact n =
    omega (
      arith,
      atoms-Any (kind.Down n t ∷ kind.Shows n t fact ∷ []),
      heavy-cons (kind.Down n t) (kind.Shows n t fact ∷ []),
      heavy-cons (kind.Shows n t fact) [],
      atoms_of-Down Fact n t,
      atoms_of-Shows n t fact,
    )

each-depth : (t : ℕ) (fact : Fact) (ns : List ℕ) → depth_of (each t fact ns) ≡ depth_of_many manys.Each (length ns)
unfolding each
each-depth t fact [] = depth-All []
each-depth t fact (n ∷ ns) =
    depth-All (map (shows_or_down t fact) (n ∷ ns)) ∙ ap (λ k. k + 1) (deep-const (shows_or_down t fact) 2 n ns (λ k m. node-depth t fact k))

each-atoms : (t : ℕ) (fact : Fact) (ns : List ℕ) → atoms_of (each t fact ns) ≡ length ns * 2
unfolding each
each-atoms t fact ns = atoms-All (map (shows_or_down t fact) ns) ∙ heavy-const (shows_or_down t fact) 2 ns (λ k m. node-atoms t fact k)

any-depth : (t : ℕ) (fact : Fact) (ns : List ℕ) → depth_of (any_of t fact ns) ≡ depth_of_many manys.Some (length ns)
unfolding any_of
any-depth t fact [] = depth-Any []
any-depth t fact (n ∷ ns) =
    depth-Any (map (shows t fact) (n ∷ ns)) ∙ ap (λ k. k + 1) (deep-const (shows t fact) 1 n ns (λ k m. depth_of-Shows k t fact))

any-atoms : (t : ℕ) (fact : Fact) (ns : List ℕ) → atoms_of (any_of t fact ns) ≡ length ns
unfolding any_of
any-atoms t fact ns =
    let all = heavy-const (shows t fact) 1 ns (λ k m. atoms_of-Shows k t fact) in
    omega (arith, atoms-Any (map (shows t fact) ns), all)

pub depth-few : (many : Many) (k : ℕ) → depth_of_many many k ≤ 4
depth-few many zero = omega arith
depth-few manys.Each (suc k) = omega arith
depth-few manys.No (suc k) = omega arith
depth-few manys.Some (suc k) = omega arith
depth-few manys.AtMostOne (suc zero) = omega arith
depth-few manys.AtMostOne (suc (suc k)) = omega arith

one_deeper : (k : ℕ) → depth_of_many manys.Each k + 1 ≡ depth_of_many manys.AtMostOne (suc k)
one_deeper zero = refl
one_deeper (suc k) = refl

module _ (t : ℕ) (fact : Fact) where
  ways-depth : (ns : List ℕ) → AreOnce ns → depth_of (where_any ns (all_but_one t fact ns)) ≡ depth_of_many manys.AtMostOne (length ns)
  unfolding all_but_one
  ways-depth [] once = depth-All []
  ways-depth (n ∷ ns) once =
      let less : (k : ℕ) → Member (n ∷ ns) k → length (others (n ∷ ns) k) ≡ length ns = λ k m. omega (arith, once.less k m) in
      depth-Any (all_but_one t fact (n ∷ ns))
      ∙ ap (λ k. k + 1) (deep-const (λ k. each t fact (others (n ∷ ns) k)) (depth_of_many manys.Each (length ns)) n ns
      (λ k m. each-depth t fact (others (n ∷ ns) k) ∙ ap (depth_of_many manys.Each) (less k m)))
      ∙ one_deeper (length ns)

  ways-atoms : (ns : List ℕ) → AreOnce ns → atoms_of (where_any ns (all_but_one t fact ns)) ≡ length ns * ((length ns - 1) * 2)
  unfolding all_but_one
  ways-atoms [] once = atoms-All []
  ways-atoms (n ∷ ns) once =
      let less : (k : ℕ) → Member (n ∷ ns) k → length (others (n ∷ ns) k) ≡ length (n ∷ ns) - 1 = λ k m. omega (arith, once.less k m) in
      atoms-Any (all_but_one t fact (n ∷ ns))
      ∙ heavy-const (λ k. each t fact (others (n ∷ ns) k)) ((length (n ∷ ns) - 1) * 2) (n ∷ ns)
      (λ k m. each-atoms t fact (others (n ∷ ns) k) ∙ ap (λ j. j * 2) (less k m))

many-depth : (many : Many) (t : ℕ) (fact : Told) (ns : List ℕ) → AreOnce ns → depth_of (so_many many t fact ns) ≡ depth_of_many many (length ns)
many-depth manys.Each t fact ns once = each-depth t (ruled fact) ns
many-depth manys.No t fact [] once = each-depth t (ruled (opposite fact)) []
many-depth manys.No t fact (n ∷ ns) once = each-depth t (ruled (opposite fact)) (n ∷ ns)
many-depth manys.Some t fact ns once = any-depth t (ruled fact) ns
many-depth manys.AtMostOne t fact ns once = ways-depth t (ruled (opposite fact)) ns once

many-atoms : (many : Many) (t : ℕ) (fact : Told) (ns : List ℕ) → AreOnce ns → atoms_of (so_many many t fact ns) ≡ atoms_of_many many (length ns)
many-atoms manys.Each t fact ns once = each-atoms t (ruled fact) ns
many-atoms manys.No t fact ns once = each-atoms t (ruled (opposite fact)) ns
many-atoms manys.Some t fact ns once = any-atoms t (ruled fact) ns
many-atoms manys.AtMostOne t fact ns once = ways-atoms t (ruled (opposite fact)) ns once

-- ---- the members are there once

module _ (n a : ℕ) (rest : List ℕ) where
  abbrev but : ℕ → Bool
  but j = not (j == n)

  stays : a ≢ n → but a ≡ true
  stays apart = elim (either (a == n)) [
    | inl same ↦ absurd (apart (eqb-true a n same))
    | inr differs ↦ ap not differs
  ]

  goes : a ≡ n → but a ≡ false
  goes same = ap not (eq-eqb a n same)

  kept-more : but a ≡ true → length (filter but (a ∷ rest)) ≡ length (filter but rest) + 1
  kept-more is = rw is (omega arith)

  kept-none : but a ≡ false → length (filter but (a ∷ rest)) ≡ length (filter but rest)
  kept-none is = rw is refl

  none-one : (b : Bool) → a ≢ n → length (filter but rest) ≡ length rest → length (filter but (cond b (a ∷ rest) rest)) ≡ length (cond b (a ∷ rest) rest)
  none-one true apart same = omega (arith, kept-more (stays apart), same)
  none-one false apart same = same

  less-one : (b : Bool) → (a ≡ n → length (filter but rest) ≡ length rest) → (Member rest n → (a ≢ n) × (length (filter but rest) + 1 ≡ length rest))
      → Member (cond b (a ∷ rest) rest) n → length (filter but (cond b (a ∷ rest) rest)) + 1 ≡ length (cond b (a ∷ rest) rest)
  less-one true here there (inl same) = omega (arith, kept-none (goes same), here same)
  less-one true here there (inr later) = let found = there later in omega (arith, kept-more (stays found.0), found.1)
  less-one false here there m = (there m).1

module _ (p : ℕ → Bool) (n : ℕ) where
  none-less : (k a : ℕ) → n < a → length (filter (λ j. not (j == n)) (filter p (range_with_len a k))) ≡ length (filter p (range_with_len a k))
  none-less zero a below = refl
  none-less (suc k) a below =
      none-one n a (filter p (range_with_len (a + 1) k)) (p a) (λ same. omega (arith, same, below)) (none-less k (a + 1) (omega (arith, below)))

  one-less : (k a : ℕ) → Member (filter p (range_with_len a k)) n
      → length (filter (λ j. not (j == n)) (filter p (range_with_len a k))) + 1 ≡ length (filter p (range_with_len a k))
  one-less zero a m = absurd m
  one-less (suc k) a m =
      less-one n a (filter p (range_with_len (a + 1) k)) (p a) (λ same. none-less k (a + 1) (omega (arith, same)))
      (λ later. let found = range-at k (a + 1) n (kept-at p (range_with_len (a + 1) k) n later).0 in
      ((λ same. omega (arith, same, found.0)), one-less k (a + 1) later)) m

pub members-once : (s : Scene) (of : Option Term) → AreOnce (members s of)
unfolding members others
members-once s of = record { less = λ n m. one-less (is_in s of) n s.nodes 0 m }

-- ---- the sizes of a promise's formula, from those of its parts

module _ (s : Scene) where
  -- the depths and the atoms of some parts at step 0
  abbrev depths : List Promise → List ℕ
  depths parts = map (λ part. depth_of (formula_at s 0 part 0)) parts

  abbrev counts : List Promise → List ℕ
  counts parts = map (λ part. atoms_of (formula_at s 0 part 0)) parts

  deep-at : (parts : List Promise) (u : ℕ) → deep (formulas_at s 0 parts u) ≡ fold max 0 (depths parts)
  deep-at parts u = ap (fold max 0) (at-none depth_of depth-stepless s parts 0 u)

  heavy-at : (parts : List Promise) (u : ℕ) → heavy (formulas_at s 0 parts u) ≡ sum (counts parts)
  heavy-at parts u = ap sum (at-none atoms_of atoms-stepless s parts 0 u)

  pub depth-at : (p : Promise) (parts : List Promise) → (p ≡ promises.All parts) ⊎ (p ≡ promises.Any parts)
      → depth_of (formula_at s 0 p 0) ≡ fold max 0 (depths parts) + 1
  depth-at p parts (inl is) =
      ap (λ (q : Promise). depth_of (formula_at s 0 q 0)) is ∙ ap depth_of (formula-All s 0 parts 0)
      ∙ depth-All (formulas_at s 0 parts 0) ∙ ap (λ k. k + 1) (deep-at parts 0)
  depth-at p parts (inr is) =
      ap (λ (q : Promise). depth_of (formula_at s 0 q 0)) is ∙ ap depth_of (formula-Any s 0 parts 0)
      ∙ depth-Any (formulas_at s 0 parts 0) ∙ ap (λ k. k + 1) (deep-at parts 0)

  pub atoms-at : (p : Promise) (parts : List Promise) → (p ≡ promises.All parts) ⊎ (p ≡ promises.Any parts)
      → atoms_of (formula_at s 0 p 0) ≡ sum (counts parts)
  atoms-at p parts (inl is) =
      ap (λ (q : Promise). atoms_of (formula_at s 0 q 0)) is ∙ ap atoms_of (formula-All s 0 parts 0)
      ∙ atoms-All (formulas_at s 0 parts 0) ∙ heavy-at parts 0
  atoms-at p parts (inr is) =
      ap (λ (q : Promise). atoms_of (formula_at s 0 q 0)) is ∙ ap atoms_of (formula-Any s 0 parts 0)
      ∙ atoms-Any (formulas_at s 0 parts 0) ∙ heavy-at parts 0

  -- the formulas of some parts at all steps
  abbrev throughout : List Promise → List (Formula Fact)
  throughout parts = flat_map (formulas_at s 0 parts) (range_with_len 1 s.horizon)

  deep-throughout : (parts : List Promise) (h : ℕ) → s.horizon ≡ h
      → deep (throughout parts) ≡ deep (flat_map (formulas_at s 0 parts) (range_with_len 1 h))
  deep-throughout parts h is = ap (λ k. deep (flat_map (formulas_at s 0 parts) (range_with_len 1 k))) is

  deep-never : (parts : List Promise) → s.horizon ≡ 0 → deep (throughout parts) ≡ 0
  deep-never parts none = deep-throughout parts 0 none

  deep-always : (parts : List Promise) (h : ℕ) → s.horizon ≡ suc h → deep (throughout parts) ≡ fold max 0 (depths parts)
  deep-always parts h is =
      deep-throughout parts (suc h) is
      ∙ deep-flat (formulas_at s 0 parts) (fold max 0 (depths parts)) (deep-at parts) h 1

  depth-throughout : (p : Promise) (parts : List Promise) → (p ≡ promises.Always parts) ⊎ (p ≡ promises.Ever parts)
      → depth_of (formula_at s 0 p 0) ≡ deep (throughout parts) + 1
  depth-throughout p parts (inl is) =
      ap (λ (q : Promise). depth_of (formula_at s 0 q 0)) is ∙ ap depth_of (formula-Always s 0 parts 0) ∙ depth-All (throughout parts)
  depth-throughout p parts (inr is) =
      ap (λ (q : Promise). depth_of (formula_at s 0 q 0)) is ∙ ap depth_of (formula-Ever s 0 parts 0) ∙ depth-Any (throughout parts)

  pub depth-never : (p : Promise) (parts : List Promise) → (p ≡ promises.Always parts) ⊎ (p ≡ promises.Ever parts) → s.horizon ≡ 0
      → depth_of (formula_at s 0 p 0) ≡ 1
  depth-never p parts is none = depth-throughout p parts is ∙ ap (λ k. k + 1) (deep-never parts none)

  some_step : (parts : List Promise) (h : ℕ) → s.horizon ≡ h → h ≢ 0 → deep (throughout parts) ≡ fold max 0 (depths parts)
  some_step parts zero is some = absurd (some refl)
  some_step parts (suc h) is some = deep-always parts h is

  pub depth-always : (p : Promise) (parts : List Promise) → (p ≡ promises.Always parts) ⊎ (p ≡ promises.Ever parts) → s.horizon ≢ 0
      → depth_of (formula_at s 0 p 0) ≡ fold max 0 (depths parts) + 1
  depth-always p parts is some = depth-throughout p parts is ∙ ap (λ k. k + 1) (some_step parts s.horizon refl some)

  pub atoms-always : (p : Promise) (parts : List Promise) → (p ≡ promises.Always parts) ⊎ (p ≡ promises.Ever parts)
      → atoms_of (formula_at s 0 p 0) ≡ s.horizon * sum (counts parts)
  atoms-always p parts (inl is) =
      ap (λ (q : Promise). atoms_of (formula_at s 0 q 0)) is ∙ ap atoms_of (formula-Always s 0 parts 0) ∙ atoms-All (throughout parts)
      ∙ heavy-flat (formulas_at s 0 parts) (sum (counts parts)) (heavy-at parts) s.horizon 1
  atoms-always p parts (inr is) =
      ap (λ (q : Promise). atoms_of (formula_at s 0 q 0)) is ∙ ap atoms_of (formula-Ever s 0 parts 0) ∙ atoms-Any (throughout parts)
      ∙ heavy-flat (formulas_at s 0 parts) (sum (counts parts)) (heavy-at parts) s.horizon 1

  pub depth-nodes : (many : Many) (fact : Told) (of : Option Term)
      → depth_of (formula_at s 0 (promises.Nodes many fact of) 0) ≡ depth_of_many many (length (members s of))
  depth-nodes many fact of = ap depth_of (formula-Nodes s 0 many fact of 0) ∙ many-depth many 0 fact (members s of) (members-once s of)

  pub atoms-nodes : (many : Many) (fact : Told) (of : Option Term)
      → atoms_of (formula_at s 0 (promises.Nodes many fact of) 0) ≡ atoms_of_many many (length (members s of))
  atoms-nodes many fact of = ap atoms_of (formula-Nodes s 0 many fact of 0) ∙ many-atoms many 0 fact (members s of) (members-once s of)

  -- what has no parts and speaks of no set is an atom
  abbrev pub IsAtom : Promise → Type 0
  IsAtom p =
      ((n : ℕ) × (p ≡ promises.Down n))
      ⊎ (((n : ℕ) × (fact : Told) × (p ≡ promises.At n fact)) ⊎ ((topic : Topic) × (p ≡ promises.One topic)))

  pub depth-single : (p : Promise) → IsAtom p → 1 ≡ min (depth_of (formula_at s 0 p 0)) 4294967295
  depth-single p (inl found) =
      ap (λ (k : ℕ). min k 4294967295) (sym (ap (λ (q : Promise). depth_of (formula_at s 0 q 0)) found.1
      ∙ ap depth_of (formula-Down s 0 found.0 0) ∙ depth_of-Down Fact found.0 0))
  depth-single p (inr (inl found)) =
      ap (λ (k : ℕ). min k 4294967295) (sym (ap (λ (q : Promise). depth_of (formula_at s 0 q 0)) found.2
      ∙ ap depth_of (formula-At s 0 found.0 found.1 0) ∙ depth_of-Shows found.0 0 (ruled found.1)))
  depth-single p (inr (inr found)) =
      ap (λ (k : ℕ). min k 4294967295) (sym (ap (λ (q : Promise). depth_of (formula_at s 0 q 0)) found.1
      ∙ ap depth_of (formula-One s 0 found.0 0) ∙ depth_of-One Fact s.nodes s.horizon 0))

  pub atoms-single : (p : Promise) → IsAtom p → 1 ≡ min (atoms_of (formula_at s 0 p 0)) 4294967295
  atoms-single p (inl found) =
      ap (λ (k : ℕ). min k 4294967295) (sym (ap (λ (q : Promise). atoms_of (formula_at s 0 q 0)) found.1
      ∙ ap atoms_of (formula-Down s 0 found.0 0) ∙ atoms_of-Down Fact found.0 0))
  atoms-single p (inr (inl found)) =
      ap (λ (k : ℕ). min k 4294967295) (sym (ap (λ (q : Promise). atoms_of (formula_at s 0 q 0)) found.2
      ∙ ap atoms_of (formula-At s 0 found.0 found.1 0) ∙ atoms_of-Shows found.0 0 (ruled found.1)))
  atoms-single p (inr (inr found)) =
      ap (λ (k : ℕ). min k 4294967295) (sym (ap (λ (q : Promise). atoms_of (formula_at s 0 q 0)) found.1
      ∙ ap atoms_of (formula-One s 0 found.0 0) ∙ atoms_of-One Fact s.nodes s.horizon 0))

-- ---- counting up to a limit

-- the limit of the count, which is past that of a formula
small : (x k : ℕ) → k < 4294967295 → nat_le (min x 4294967295) k ≡ nat_le x k
small x k low = elim (either (nat_le x k)) [
  | inl within ↦
      let few : x ≤ k = leb-true x k within in
      le-leb (min x 4294967295) k (omega (arith, few)) ∙ sym within
  | inr beyond ↦
      let many : k < x = leb-false x k beyond in
      lt-leb (min x 4294967295) k (omega (arith, many, low)) ∙ sym beyond
]

pub both-small : (x y depth atoms : ℕ) → depth ≡ min x 4294967295 → atoms ≡ min y 4294967295
    → (nat_le depth 8 && nat_le atoms 4096) ≡ (nat_le x 8 && nat_le y 4096)
both-small x y depth atoms deep_is heavy_is =
    ap (λ (k : ℕ). nat_le k 8 && nat_le atoms 4096) deep_is ∙ ap (λ (k : ℕ). nat_le (min x 4294967295) 8 && nat_le k 4096) heavy_is
    ∙ ap (λ b. b && nat_le (min y 4294967295) 4096) (small x 8 (omega arith)) ∙ ap (λ b. nat_le x 8 && b) (small y 4096 (omega arith))

times-some : (h x limit : ℕ) → limit < x → min (suc h * limit) limit ≡ min (suc h * x) limit
times-some h x limit past = omega (arith, suc-mul h limit, suc-mul h x, past)

times-past : (h x limit : ℕ) → limit < x → min (h * limit) limit ≡ min (h * x) limit
times-past zero x limit past = omega arith
times-past (suc h) x limit past = times-some h x limit past

pub times-min : (h x limit : ℕ) → min (h * min x limit) limit ≡ min (h * x) limit
times-min h x limit = elim (either (nat_le x limit)) [
  | inl within ↦
      let few : min x limit ≡ x = omega (arith, leb-true x limit within) in
      ap (λ k. min (h * k) limit) few
  | inr beyond ↦
      let many : limit < x = leb-false x limit beyond in
      let past : min x limit ≡ limit = omega (arith, many) in
      ap (λ k. min (h * k) limit) past ∙ times-past h x limit many
]
