-- The formula of a promise is true where the promise is kept.
use Rattle.std.proofs.Common.{◌≡◌, ◌⊎◌, inl, inr, ℕ, Bool, true, false, not, ◌==◌, ◌&&◌, ◌||◌, List, [], ◌∷◌, ◌++◌}
use Rattle.std.proofs.Common.{◌+◌, Option, Some, None, length, length-append, append_assoc, refl, sym, ap, subst, ◌∙◌, map, filter}
use Rattle.std.specs.Prelude.{if◌then◌else◌, slice_get}
use Rattle.std.specs.Option.{option_to_list}
use Rattle.std.specs.List.{range_with_len, list_all, list_any, flat_map, AllByRecursion}
use Rattle.std.proofs.lemmas.Bool.{and_parts, eqb-true, eq-eqb}
use Rattle.std.proofs.lemmas.List.Folds.{list_all-map}
use Rattle.lf_faults.specs.declared.fault.Parts.{Parts}
use Rattle.lf_rules.specs.declared.definition.Definition.{Definition}
use Rattle.lf_rules.specs.declared.topic.Topic.{Topic}
use Rattle.lf_rule_machine.specs.Sets.{is_true}
use Rattle.lf_rule_machine.specs.declared.fact.Fact.{Fact as Told}
use Rattle.lf_protocols.specs.declared.fact.Fact.{Fact}
use Rattle.lf_protocols.specs.declared.note.Note.{Note}
use Rattle.lf_protocols.specs.declared.state.State.{State}
use Rattle.lf_sim.specs.Runs.{World, is_up, view}
use Rattle.lf_sim.specs.declared.entry.Entry.{Entry}
use Rattle.lf_outcome.specs.declared.formula.Formula.{Formula}
use Rattle.lf_outcome.specs.declared.formula.Formula.TheVariants as kind
use Rattle.lf_outcome.specs.Named.{shows_or_down}
use Rattle.lf_outcome.specs.declared.point.Point.{Point}
use Rattle.lf_outcome.specs.Truth.{agree, all_agree, entered, entries_at, points_at, points_to}
use Rattle.lf_outcome.specs.Truth.{is_single, reaches}
use Rattle.lf_own_scenario.proofs.ReachLemmas as reaching
use Rattle.lf_promises.specs.Fronts.{opposite}
use Rattle.lf_promises.specs.Inductions.{Steps}
use Rattle.lf_promises.specs.declared.promise.Many.{Many}
use Rattle.lf_promises.specs.declared.promise.Many.TheVariants as manys
use Rattle.lf_promises.specs.declared.promise.Promise.{Promise, fold-roll-Promise}
use Rattle.lf_promises.specs.declared.promise.Promise.TheVariants as promises
use Rattle.lf_promises.specs.declared.promise.Promise.TheOpen.{Promise-F}
use Rattle.lf_promises.proofs.Laws.{by_induction}
use Rattle.lf_own_scenario.specs.Elements.{Member}
use Rattle.lf_own_scenario.specs.declared.scene.Scene.{Scene}
use Rattle.lf_own_scenario.specs.Members.{members, others}
use Rattle.lf_own_scenario.specs.Quantities.{ruled, shows, each, any_of, all_but_one, where_any, so_many}
use Rattle.lf_own_scenario.specs.Topics.{topics_in, count_topics}
use Rattle.lf_own_scenario.specs.Unfolding.{formula_at, formulas_at}
use Rattle.lf_own_scenario.proofs.Laws.{formula-All, formula-Any, formula-Always, formula-Ever, formula-Nodes, formula-Down}
use Rattle.lf_own_scenario.proofs.Laws.{formula-At, formula-One, all-from, kept-at, all-flat}
use Rattle.lf_own_scenario.proofs.Laws.{topics-All, topics-Any, topics-Always, topics-Ever, topics-One}
use Rattle.lf_own_scenario.specs.Kept.{has_fact, has_where_up, are_one, so_many_have, value_on, is_asked, key_at, value_at, is_one_value, kept_step, is_kept}

-- ---- tests of all elements, and of some

list_any-map : {X Y : Type 0} (p : X → Bool) (h : Y → X) (ys : List Y) → list_any p (map h ys) ≡ list_any (λ y. p (h y)) ys
list_any-map p h [] = refl
list_any-map p h (y ∷ ys) = ap (λ b. p (h y) || b) (list_any-map p h ys)

all-same : {X : Type 0} {p q : X → Bool} (xs : List X) → ((x : X) → p x ≡ q x) → list_all p xs ≡ list_all q xs
all-same [] h = refl
all-same {p = p} {q = q} (x ∷ xs) h = ap (λ b. b && list_all p xs) (h x) ∙ ap (λ b. q x && b) (all-same xs h)

any-same : {X : Type 0} {p q : X → Bool} (xs : List X) → ((x : X) → p x ≡ q x) → list_any p xs ≡ list_any q xs
any-same [] h = refl
any-same {p = p} {q = q} (x ∷ xs) h = ap (λ b. b || list_any p xs) (h x) ∙ ap (λ b. q x || b) (any-same xs h)

or-assoc : (a b c : Bool) → ((a || b) || c) ≡ (a || (b || c))
or-assoc true b c = refl
or-assoc false b c = refl

any-append : {X : Type 0} (q : X → Bool) (xs ys : List X) → list_any q (xs ++ ys) ≡ (list_any q xs || list_any q ys)
any-append q [] ys = refl
any-append q (x ∷ xs) ys = ap (λ b. q x || b) (any-append q xs ys) ∙ sym (or-assoc (q x) (list_any q xs) (list_any q ys))

any-flat : {X Y : Type 0} (q : Y → Bool) (f : X → List Y) (xs : List X) → list_any q (flat_map f xs) ≡ list_any (λ x. list_any q (f x)) xs
any-flat q f [] = refl
any-flat q f (x ∷ xs) = any-append q (f x) (flat_map f xs) ∙ ap (λ b. list_any q (f x) || b) (any-flat q f xs)

all-at : {X : Type 0} (q : X → Bool) (xs : List X) (x : X) → list_all q xs ≡ true → Member xs x → q x ≡ true
all-at q [] x all none = absurd none
all-at q (y ∷ ys) x all (inl same) = ap q (sym same) ∙ (and_parts (q y) (list_all q ys) all).0
all-at q (y ∷ ys) x all (inr more) = all-at q ys x (and_parts (q y) (list_all q ys) all).1 more

-- an element that passes, or none does
record Passes {X : Type 0} (q : X → Bool) (xs : List X) : Type 0 where
  pub one : X
  pub member : Member xs one
  pub passes : q one ≡ true

some-or-none : {X : Type 0} (q : X → Bool) (xs : List X) → Passes q xs ⊎ ((x : X) → Member xs x → q x ≡ false)
some-or-none q [] = inr (λ x m. absurd m)
some-or-none q (y ∷ ys) = by_test (q y) refl (some-or-none q ys)
  where
    by_test : (b : Bool) → q y ≡ b → Passes q ys ⊎ ((x : _) → Member ys x → q x ≡ false) → Passes q (y ∷ ys) ⊎ ((x : _) → Member (y ∷ ys) x → q x ≡ false)
    by_test true is rest = inl (record { one = y; member = inl refl; passes = is })
    by_test false is (inl found) = inl (record { one = found.one; member = inr found.member; passes = found.passes })
    by_test false is (inr none) = inr (λ x m. go x m)
      where
        go : (x : _) → Member (y ∷ ys) x → q x ≡ false
        go x (inl same) = ap q (sym same) ∙ is
        go x (inr more) = none x more

any-from : {X : Type 0} (q : X → Bool) (xs : List X) (x : X) → Member xs x → q x ≡ true → list_any q xs ≡ true
any-from q [] x none is = absurd none
any-from q (y ∷ ys) x (inl same) is = ap (λ b. b || list_any q ys) (ap q same ∙ is)
any-from q (y ∷ ys) x (inr more) is = ap (λ b. q y || b) (any-from q ys x more is) ∙ always (q y)
  where
    always : (b : Bool) → (b || true) ≡ true
    always true = refl
    always false = refl

any-found : {X : Type 0} (q : X → Bool) (xs : List X) → list_any q xs ≡ true → Passes q xs
any-found q [] h = absurd cc
any-found q (y ∷ ys) h = by_test (q y) refl h (any-found q ys)
  where
    by_test : (b : Bool) → q y ≡ b → (b || list_any q ys) ≡ true → (list_any q ys ≡ true → Passes q ys) → Passes q (y ∷ ys)
    by_test true is e rest = record { one = y; member = inl refl; passes = is }
    by_test false is e rest = let found = rest e in record { one = found.one; member = inr found.member; passes = found.passes }

-- two tests that pass together are one
both-ways : (a b : Bool) → (a ≡ true → b ≡ true) → (b ≡ true → a ≡ true) → a ≡ b
both-ways true b f g = sym (f refl)
both-ways false true f g = g refl
both-ways false false f g = refl

-- ---- all but one lack something where of two that have it one is the other

not-both : (a b c : Bool) → (a || not (b && c)) ≡ true → b ≡ true → a ≡ false → not c ≡ true
not-both true b c h is so = absurd cc
not-both false true c h is so = h
not-both false false c h is so = absurd cc

one-of : (a b c : Bool) → (b ≡ true → c ≡ true → a ≡ true) → (a || not (b && c)) ≡ true
one-of true b c h = refl
one-of false true true h = h refl refl
one-of false true false h = refl
one-of false false c h = refl

lacks : (b : Bool) → b ≡ false → not b ≡ true
lacks true h = sym h
lacks false h = refl

unlike : (b : Bool) → not b ≡ true → b ≡ false
unlike true h = sym h
unlike false h = refl

differ : (a b : ℕ) → (a == b) ≡ false → (b == a) ≡ false
differ a b h = go (b == a) refl
  where
    go : (c : Bool) → (b == a) ≡ c → (b == a) ≡ false
    go true is = let same : (a == b) ≡ true = eq-eqb a b (sym (eqb-true b a is)) in let never : false ≡ true = sym h ∙ same in absurd cc
    go false is = is

module _ (q : ℕ → Bool) where
  abbrev alone : List ℕ → ℕ → Bool
  alone ns k = list_all (λ m. not (q m)) (others ns k)

  abbrev pairs : List ℕ → Bool
  pairs ns = list_all (λ n. list_all (λ m. (n == m) || not (q n && q m)) ns) ns

  -- the others are those that aren't the one
  alone-from : (ns : List ℕ) (k : ℕ) → ((m : ℕ) → Member ns m → (m == k) ≡ false → not (q m) ≡ true) → alone ns k ≡ true
  unfolding others
  alone-from ns k h =
      all-from (λ m. not (q m)) (filter (λ m. not (m == k)) ns)
      (λ m is. let found = kept-at (λ m. not (m == k)) ns m is in h m found.0 (unlike (m == k) found.1))

  kept-from : (p : ℕ → Bool) (xs : List ℕ) (x : ℕ) → Member xs x → p x ≡ true → Member (filter p xs) x
  kept-from p [] x none is = absurd none
  kept-from p (y ∷ ys) x (inl same) is = rw (ap p same ∙ is) (inl same)
  kept-from p (y ∷ ys) x (inr more) is = go (p y) refl (kept-from p ys x more is)
    where
      go : (b : Bool) → p y ≡ b → Member (filter p ys) x → Member (filter p (y ∷ ys)) x
      go true so rest = rw so (inr rest)
      go false so rest = rw so rest

  alone-at : (ns : List ℕ) (k m : ℕ) → alone ns k ≡ true → Member ns m → (m == k) ≡ false → q m ≡ false
  unfolding others
  alone-at ns k m all is other =
      unlike (q m) (all-at (λ m. not (q m)) (filter (λ m. not (m == k)) ns) m all (kept-from (λ m. not (m == k)) ns m is (lacks (m == k) other)))

  -- one that has it is the one
  had : (ns : List ℕ) (k n : ℕ) → alone ns k ≡ true → Member ns n → q n ≡ true → n ≡ k
  had ns k n all is has = go (n == k) refl
    where
      go : (b : Bool) → (n == k) ≡ b → n ≡ k
      go true so = eqb-true n k so
      go false so = let lacking : q n ≡ false = alone-at ns k n all is so in let never : false ≡ true = sym lacking ∙ has in absurd cc

  pairs-from : (ns : List ℕ) → list_any (alone ns) ns ≡ true → pairs ns ≡ true
  pairs-from ns h =
      let found = any-found (alone ns) ns h in
      all-from (λ n. list_all (λ m. (n == m) || not (q n && q m)) ns) ns
      (λ n is. all-from (λ m. (n == m) || not (q n && q m)) ns
      (λ m also. one-of (n == m) (q n) (q m)
      (λ one other. eq-eqb n m (had ns found.one n found.passes is one ∙ sym (had ns found.one m found.passes also other)))))

  some-alone : (n : ℕ) (ns : List ℕ) → pairs (n ∷ ns) ≡ true → list_any (alone (n ∷ ns)) (n ∷ ns) ≡ true
  some-alone n ns h = by_cases (some-or-none q (n ∷ ns))
    where
      by_cases : Passes q (n ∷ ns) ⊎ ((x : ℕ) → Member (n ∷ ns) x → q x ≡ false) → list_any (alone (n ∷ ns)) (n ∷ ns) ≡ true
      by_cases (inl found) =
          any-from (alone (n ∷ ns)) (n ∷ ns) found.one found.member
          (alone-from (n ∷ ns) found.one (λ m is other.
          not-both (found.one == m) (q found.one) (q m)
          (all-at (λ m. (found.one == m) || not (q found.one && q m)) (n ∷ ns) m
          (all-at (λ k. list_all (λ m. (k == m) || not (q k && q m)) (n ∷ ns)) (n ∷ ns) found.one h found.member) is)
          found.passes (differ m found.one other)))
      by_cases (inr none) =
          any-from (alone (n ∷ ns)) (n ∷ ns) n (inl refl) (alone-from (n ∷ ns) n (λ m is other. lacks (q m) (none m is)))

  pub one-at-most : (n : ℕ) (ns : List ℕ) → list_any (alone (n ∷ ns)) (n ∷ ns) ≡ pairs (n ∷ ns)
  one-at-most n ns = both-ways (list_any (alone (n ∷ ns)) (n ∷ ns)) (pairs (n ∷ ns)) (pairs-from (n ∷ ns)) (some-alone n ns)

-- ---- one node

either-way : (u s : Bool) → (not u || ((u && s) || false)) ≡ (not u || s)
either-way true true = refl
either-way true false = refl
either-way false s = refl

other-way : (u s : Bool) → (not u || ((u && not s) || false)) ≡ not (u && s)
other-way true true = refl
other-way true false = refl
other-way false s = refl

-- ---- one value for each key

all-true : {X : Type 0} (xs : List X) → true ≡ list_all (λ x. true) xs
all-true [] = refl
all-true (x ∷ xs) = all-true xs

pull : {X : Type 0} (a : Bool) (q : X → Bool) (xs : List X) → (a || list_all q xs) ≡ list_all (λ x. a || q x) xs
pull true q xs = all-true xs
pull false q xs = refl

one-entry : (q : Entry → Bool) (a : Bool) (e : Entry) → list_all q (option_to_list (if a then Some e else None)) ≡ (not a || q e)
one-entry q true e = last (q e)
  where
    last : (b : Bool) → (b && true) ≡ b
    last true = refl
    last false = refl
one-entry q false e = refl

together : (a b k v : Bool) → (not a || (not b || (not k || v))) ≡ (not (a && (b && k)) || v)
together true true k v = refl
together true false k v = refl
together false b k v = refl

within-both : {X : Type 0} (a b : Bool) (o : Option X) → (if a then (if b then o else None) else None) ≡ (if a && b then o else None)
within-both true b o = refl
within-both false b o = refl

-- by which nodes enter something after which steps, and what
module _ (asked : ℕ → ℕ → Bool) (e : ℕ → ℕ → Entry) (nodes last : ℕ) where
  abbrev enter : ℕ → ℕ → Option Entry
  enter n t = if asked n t then Some (e n t) else None

  abbrev ns : List ℕ
  ns = range_with_len 0 nodes

  abbrev ts : List ℕ
  ts = range_with_len 1 last

  abbrev all_points : (ℕ → ℕ → Bool) → Bool
  all_points q = list_all (λ t. list_all (q t) ns) ts

  over-entries : (q : Entry → Bool) → list_all q (entries_at enter (points_to nodes last)) ≡ all_points (λ t n. not (asked n t) || q (e n t))
  over-entries q =
      let of_point : Point → List Entry = λ p. option_to_list (enter p.node p.step) in
      let passes : Point → Bool = λ p. list_all q (of_point p) in
      all-flat q of_point (points_to nodes last) ∙ all-flat passes (points_at nodes) ts
      ∙ all-same ts (λ t. list_all-map passes (λ n. record { node = n; step = t }) ns ∙ all-same ns (λ n. one-entry q (asked n t) (e n t)))

  -- two points that have one key have one value
  abbrev one_value : ℕ → ℕ → ℕ → ℕ → Bool
  one_value t n u m = not (asked n t && (asked m u && ((e n t).key == (e m u).key))) || ((e n t).value == (e m u).value)

  by-points : (t n : ℕ) → (not (asked n t) || list_all (agree (e n t)) (entries_at enter (points_to nodes last))) ≡ all_points (one_value t n)
  by-points t n =
      ap (λ b. not (asked n t) || b) (over-entries (agree (e n t)))
      ∙ pull (not (asked n t)) (λ u. list_all (λ m. not (asked m u) || agree (e n t) (e m u)) ns) ts
      ∙ all-same ts (λ u. pull (not (asked n t)) (λ m. not (asked m u) || agree (e n t) (e m u)) ns
      ∙ all-same ns (λ m. together (asked n t) (asked m u) ((e n t).key == (e m u).key) ((e n t).value == (e m u).value)))

  agree-is : all_agree (entries_at enter (points_to nodes last)) ≡ all_points (λ t n. all_points (one_value t n))
  agree-is =
      over-entries (λ x. list_all (agree x) (entries_at enter (points_to nodes last)))
      ∙ all-same ts (λ t. all-same ns (λ n. by-points t n))

-- ---- topics in their places

-- these topics stand among all of them from a number on
pub record Stands (topics : List Topic) (first : ℕ) (own : List Topic) : Type 0 where
  pub before : List Topic
  pub after : List Topic
  pub is : topics ≡ before ++ (own ++ after)
  pub place : length before ≡ first

found-there : (before after : List Topic) (topic : Topic) → slice_get (before ++ topic ∷ after) (length before) ≡ Some topic
found-there [] after topic = refl
found-there (x ∷ xs) after topic = found-there xs after topic

module _ (topics : List Topic) (first : ℕ) where
  stands-first : (a b : List Topic) → Stands topics first (a ++ b) → Stands topics first a
  stands-first a b x =
      record { before = x.before; after = b ++ x.after; is = x.is ∙ ap (λ ts. x.before ++ ts) (append_assoc a b x.after); place = x.place }

  stands-rest : (a b : List Topic) → Stands topics first (a ++ b) → Stands topics (first + length a) b
  stands-rest a b x =
      record {
        before = x.before ++ a;
        after = x.after;
        is =
            x.is ∙ ap (λ ts. x.before ++ ts) (append_assoc a b x.after) ∙ sym (append_assoc x.before a (b ++ x.after));
        place = length-append x.before a ∙ ap (λ k. k + length a) x.place;
      }

  stands-at : (topic : Topic) → Stands topics first (topic ∷ []) → slice_get topics first ≡ Some topic
  stands-at topic x =
      ap (λ ts. slice_get ts first) x.is ∙ ap (slice_get (x.before ++ topic ∷ x.after)) (sym x.place) ∙ found-there x.before x.after topic

-- what a state of rules enters under a topic, by the values of its expressions
abbrev pub entry_on : Definition → Scene → ℕ → State → Topic → Option Entry
entry_on d s n v topic =
    if is_true (value_on d s n v topic.guard) then Some (record { key = value_on d s n v topic.key; value = value_on d s n v topic.value }) else None

module _ (w : World State Note Fact) (faults : List Parts) where
  reach-All : (fs : List (Formula Fact)) → reaches w faults (kind.All fs) ≡ list_all (reaches w faults) fs
  reach-All = reaching.reach-All w faults

  reach-Any : (fs : List (Formula Fact)) → reaches w faults (kind.Any fs) ≡ list_any (reaches w faults) fs
  reach-Any = reaching.reach-Any w faults

  reach-Down : (n t : ℕ) → reaches w faults (kind.Down n t) ≡ not (is_up w faults n t)
  reach-Down = reaching.reach-Down w faults

  reach-Shows : (n t : ℕ) (f : Fact) → reaches w faults (kind.Shows n t f) ≡ (is_up w faults n t && w.rules.shows n (view w faults n t) f)
  reach-Shows = reaching.reach-Shows w faults

  reach-One : (nodes last topic : ℕ) → reaches w faults (kind.One nodes last topic) ≡ is_single w faults nodes last topic
  reach-One = reaching.reach-One w faults

  reach-node : (n t : ℕ) (f : Fact)
      → reaches w faults (shows_or_down t f n)
      ≡ (not (is_up w faults n t) || ((is_up w faults n t && w.rules.shows n (view w faults n t) f) || false))
  reach-node n t f =
      reach-Any (kind.Down n t ∷ kind.Shows n t f ∷ [])
      ∙ ap (λ b. b || (reaches w faults (kind.Shows n t f) || false)) (reach-Down n t)
      ∙ ap (λ b. not (is_up w faults n t) || (b || false)) (reach-Shows n t f)

  module _ (opposed : (n t : ℕ) (fact : Told)
      → w.rules.shows n (view w faults n t) (ruled (opposite fact)) ≡ not (w.rules.shows n (view w faults n t) (ruled fact))) where
    reach-each : (t : ℕ) (fact : Told) (ns : List ℕ) → reaches w faults (each t (ruled fact) ns) ≡ list_all (has_where_up w faults t fact) ns
    unfolding each
    reach-each t fact ns =
        reach-All (map (shows_or_down t (ruled fact)) ns) ∙ list_all-map (reaches w faults) (shows_or_down t (ruled fact)) ns
        ∙ all-same ns (λ n. reach-node n t (ruled fact) ∙ either-way (is_up w faults n t) (w.rules.shows n (view w faults n t) (ruled fact)))

    reach-lacks : (t : ℕ) (fact : Told) (n : ℕ) → reaches w faults (shows_or_down t (ruled (opposite fact)) n) ≡ not (has_fact w faults t fact n)
    reach-lacks t fact n =
        reach-node n t (ruled (opposite fact))
        ∙ ap (λ b. not (is_up w faults n t) || ((is_up w faults n t && b) || false)) (opposed n t fact)
        ∙ other-way (is_up w faults n t) (w.rules.shows n (view w faults n t) (ruled fact))

    reach-no : (t : ℕ) (fact : Told) (ns : List ℕ)
        → reaches w faults (each t (ruled (opposite fact)) ns) ≡ list_all (λ n. not (has_fact w faults t fact n)) ns
    unfolding each
    reach-no t fact ns =
        reach-All (map (shows_or_down t (ruled (opposite fact))) ns) ∙ list_all-map (reaches w faults) (shows_or_down t (ruled (opposite fact))) ns
        ∙ all-same ns (reach-lacks t fact)

    reach-some : (t : ℕ) (fact : Told) (ns : List ℕ) → reaches w faults (any_of t (ruled fact) ns) ≡ list_any (has_fact w faults t fact) ns
    unfolding any_of
    reach-some t fact ns =
        reach-Any (map (shows t (ruled fact)) ns) ∙ list_any-map (reaches w faults) (shows t (ruled fact)) ns
        ∙ any-same ns (λ n. reach-Shows n t (ruled fact))

    reach-one : (t : ℕ) (fact : Told) (ns : List ℕ)
        → reaches w faults (where_any ns (all_but_one t (ruled (opposite fact)) ns)) ≡ list_all (λ n. list_all (are_one w faults t fact n) ns) ns
    unfolding all_but_one
    reach-one t fact [] = reach-All []
    reach-one t fact (n ∷ ns) =
        reach-Any (map (λ k. each t (ruled (opposite fact)) (others (n ∷ ns) k)) (n ∷ ns))
        ∙ list_any-map (reaches w faults) (λ k. each t (ruled (opposite fact)) (others (n ∷ ns) k)) (n ∷ ns)
        ∙ any-same (n ∷ ns) (λ k. reach-no t fact (others (n ∷ ns) k))
        ∙ one-at-most (has_fact w faults t fact) n ns

    reach-many : (many : Many) (t : ℕ) (fact : Told) (ns : List ℕ) → reaches w faults (so_many many t fact ns) ≡ so_many_have w faults many t fact ns
    reach-many manys.Each t fact ns = reach-each t fact ns
    reach-many manys.No t fact ns = reach-no t fact ns
    reach-many manys.Some t fact ns = reach-some t fact ns
    reach-many manys.AtMostOne t fact ns = reach-one t fact ns

    -- ---- promises

    module _ (d : Definition) (s : Scene) (topics : List Topic)
        (enters : (first : ℕ) (topic : Topic) → slice_get topics first ≡ Some topic → (n t : ℕ)
        → w.rules.entry n (view w faults n t) first ≡ entry_on d s n (view w faults n t) topic) where
      -- one level of what is kept
      kept-All : (parts : List Promise) (t : ℕ) → is_kept w faults d s (promises.All parts) t ≡ list_all (λ part. is_kept w faults d s part t) parts
      kept-All parts t =
          ap (λ p. is_kept w faults d s p t) (sym (promises.rolls-All parts))
          ∙ ap (λ (f : ℕ → Bool). f t) (fold-roll-Promise (ℕ → Bool) (kept_step w faults d s) (Promise-F.All parts))
          ∙ list_all-map (λ (f : ℕ → Bool). f t) (is_kept w faults d s) parts

      kept-Any : (parts : List Promise) (t : ℕ) → is_kept w faults d s (promises.Any parts) t ≡ list_any (λ part. is_kept w faults d s part t) parts
      kept-Any parts t =
          ap (λ p. is_kept w faults d s p t) (sym (promises.rolls-Any parts))
          ∙ ap (λ (f : ℕ → Bool). f t) (fold-roll-Promise (ℕ → Bool) (kept_step w faults d s) (Promise-F.Any parts))
          ∙ list_any-map (λ (f : ℕ → Bool). f t) (is_kept w faults d s) parts

      kept-Always : (parts : List Promise) (t : ℕ)
          → is_kept w faults d s (promises.Always parts) t ≡ list_all (λ u. list_all (λ part. is_kept w faults d s part u) parts) (range_with_len 1 s.horizon)
      kept-Always parts t =
          ap (λ p. is_kept w faults d s p t) (sym (promises.rolls-Always parts))
          ∙ ap (λ (f : ℕ → Bool). f t) (fold-roll-Promise (ℕ → Bool) (kept_step w faults d s) (Promise-F.Always parts))
          ∙ all-same (range_with_len 1 s.horizon) (λ u. list_all-map (λ (f : ℕ → Bool). f u) (is_kept w faults d s) parts)

      kept-Ever : (parts : List Promise) (t : ℕ)
          → is_kept w faults d s (promises.Ever parts) t ≡ list_any (λ u. list_any (λ part. is_kept w faults d s part u) parts) (range_with_len 1 s.horizon)
      kept-Ever parts t =
          ap (λ p. is_kept w faults d s p t) (sym (promises.rolls-Ever parts))
          ∙ ap (λ (f : ℕ → Bool). f t) (fold-roll-Promise (ℕ → Bool) (kept_step w faults d s) (Promise-F.Ever parts))
          ∙ any-same (range_with_len 1 s.horizon) (λ u. list_any-map (λ (f : ℕ → Bool). f u) (is_kept w faults d s) parts)

      kept-One : (topic : Topic) (t : ℕ) → is_kept w faults d s (promises.One topic) t ≡ is_one_value w faults d s topic
      kept-One topic t =
          ap (λ p. is_kept w faults d s p t) (sym (promises.rolls-One topic))
          ∙ ap (λ (f : ℕ → Bool). f t) (fold-roll-Promise (ℕ → Bool) (kept_step w faults d s) (Promise-F.One topic))

      -- what nodes enter under a topic has one value for each key where its expressions have
      module _ (topic : Topic) (first : ℕ) (at : slice_get topics first ≡ Some topic) where
        own_entry : ℕ → ℕ → Entry
        own_entry n t = record { key = key_at w faults d s topic n t; value = value_at w faults d s topic n t }

        entered-is : (n t : ℕ) → entered w faults first n t ≡ (if is_asked w faults d s topic n t then Some (own_entry n t) else None)
        unfolding own_entry
        entered-is n t =
            ap (λ o. if is_up w faults n t then o else None) (enters first topic at n t)
            ∙ within-both (is_up w faults n t) (is_true (value_on d s n (view w faults n t) topic.guard)) (Some (own_entry n t))

        single-right : is_single w faults s.nodes s.horizon first ≡ is_one_value w faults d s topic
        unfolding own_entry
        single-right =
            ap (λ (f : ℕ → ℕ → Option Entry). all_agree (entries_at f (points_to s.nodes s.horizon))) (λ i n t. entered-is n t i)
            ∙ agree-is (is_asked w faults d s topic) own_entry s.nodes s.horizon

      -- that the formula of a promise is true is that it is kept, where its topics have their numbers
      abbrev IsRight : Promise → Type 0
      IsRight p = (first t : ℕ) → Stands topics first (topics_in p) → reaches w faults (formula_at s first p t) ≡ is_kept w faults d s p t

      all-right : (parts : List Promise) (first t : ℕ) → Stands topics first (flat_map topics_in parts) → AllByRecursion IsRight parts
          → list_all (reaches w faults) (formulas_at s first parts t) ≡ list_all (λ part. is_kept w faults d s part t) parts
      all-right [] first t stand h = refl
      all-right (p ∷ ps) first t stand h =
          ap (λ b. b && list_all (reaches w faults) (formulas_at s (first + count_topics p) ps t))
          (h.0 first t (stands-first topics first (topics_in p) (flat_map topics_in ps) stand))
          ∙ ap (λ b. is_kept w faults d s p t && b)
          (all-right ps (first + count_topics p) t (stands-rest topics first (topics_in p) (flat_map topics_in ps) stand) h.1)

      any-right : (parts : List Promise) (first t : ℕ) → Stands topics first (flat_map topics_in parts) → AllByRecursion IsRight parts
          → list_any (reaches w faults) (formulas_at s first parts t) ≡ list_any (λ part. is_kept w faults d s part t) parts
      any-right [] first t stand h = refl
      any-right (p ∷ ps) first t stand h =
          ap (λ b. b || list_any (reaches w faults) (formulas_at s (first + count_topics p) ps t))
          (h.0 first t (stands-first topics first (topics_in p) (flat_map topics_in ps) stand))
          ∙ ap (λ b. is_kept w faults d s p t || b)
          (any-right ps (first + count_topics p) t (stands-rest topics first (topics_in p) (flat_map topics_in ps) stand) h.1)

      abbrev each_step : List ℕ
      each_step = range_with_len 1 s.horizon

      steps : Steps IsRight
      steps = record {
        all = λ parts h first t stand.
            ap (reaches w faults) (formula-All s first parts t) ∙ reach-All (formulas_at s first parts t)
            ∙ all-right parts first t (subst (Stands topics first) (topics-All parts) stand) h ∙ sym (kept-All parts t);
        any = λ parts h first t stand.
            ap (reaches w faults) (formula-Any s first parts t) ∙ reach-Any (formulas_at s first parts t)
            ∙ any-right parts first t (subst (Stands topics first) (topics-Any parts) stand) h ∙ sym (kept-Any parts t);
        always = λ parts h first t stand.
            ap (reaches w faults) (formula-Always s first parts t) ∙ reach-All (flat_map (formulas_at s first parts) each_step)
            ∙ all-flat (reaches w faults) (formulas_at s first parts) each_step
            ∙ all-same each_step (λ u. all-right parts first u (subst (Stands topics first) (topics-Always parts) stand) h)
            ∙ sym (kept-Always parts t);
        ever = λ parts h first t stand.
            ap (reaches w faults) (formula-Ever s first parts t) ∙ reach-Any (flat_map (formulas_at s first parts) each_step)
            ∙ any-flat (reaches w faults) (formulas_at s first parts) each_step
            ∙ any-same each_step (λ u. any-right parts first u (subst (Stands topics first) (topics-Ever parts) stand) h)
            ∙ sym (kept-Ever parts t);
        nodes = λ many fact of first t stand.
            ap (reaches w faults) (formula-Nodes s first many fact of t) ∙ reach-many many t fact (members s of)
            ∙ sym (ap (λ p. is_kept w faults d s p t) (sym (promises.rolls-Nodes many fact of))
            ∙ ap (λ (f : ℕ → Bool). f t) (fold-roll-Promise (ℕ → Bool) (kept_step w faults d s) (Promise-F.Nodes many fact of)));
        down = λ n first t stand.
            ap (reaches w faults) (formula-Down s first n t) ∙ reach-Down n t
            ∙ sym (ap (λ p. is_kept w faults d s p t) (sym (promises.rolls-Down n))
            ∙ ap (λ (f : ℕ → Bool). f t) (fold-roll-Promise (ℕ → Bool) (kept_step w faults d s) (Promise-F.Down n)));
        shows = λ n fact first t stand.
            ap (reaches w faults) (formula-At s first n fact t) ∙ reach-Shows n t (ruled fact)
            ∙ sym (ap (λ p. is_kept w faults d s p t) (sym (promises.rolls-At n fact))
            ∙ ap (λ (f : ℕ → Bool). f t) (fold-roll-Promise (ℕ → Bool) (kept_step w faults d s) (Promise-F.At n fact)));
        one = λ topic first t stand.
            ap (reaches w faults) (formula-One s first topic t) ∙ reach-One s.nodes s.horizon first
            ∙ single-right topic first (stands-at topics first topic (subst (Stands topics first) (topics-One topic) stand))
            ∙ sym (kept-One topic t);
      }

      -- the formula of a promise is true where the promise is kept, and nowhere else
      pub formula-kept : (p : Promise) → IsRight p
      formula-kept = by_induction IsRight steps
