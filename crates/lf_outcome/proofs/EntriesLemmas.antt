-- Entries, whether they agree, and what is entered at points.
use Rattle.std.proofs.Common.{◌≡◌, ◌⊎◌, ◌↔◌, ℕ, zero, suc, ◌+◌, ◌-◌, ◌<◌, ◌≤◌, Bool, true, false, not, ◌||◌, ◌==◌, List, [], ◌∷◌, ◌++◌, length, refl, sym, ap}
use Rattle.std.proofs.Common.{subst, ◌∙◌, min, inl, inr, arith}
use Rattle.std.specs.Prelude.{nat_le, Option, None, Some, slice_index_or, if◌then◌else◌}
use Rattle.std.specs.List.{Contains, list_all}
use Rattle.std.specs.List.Sorted.{IsNonDecreasingBy, IsPermutation}
use Rattle.std.specs.Option.{option_to_list}
use Rattle.std.proofs.lemmas.Bool.{and_parts, and_from, cases_lt, eq-eqb, eqb-true, false≢true, le-leb, leb-true}
use Rattle.std.proofs.lemmas.List.Concat.{flat_map-append}
use Rattle.std.proofs.lemmas.List.Elements.{Contains-get_or}
use Rattle.std.proofs.lemmas.List.Sorted.{Contains-permutation, IsPermutation-sym}
use Rattle.lf_faults.specs.declared.fault.Parts.{Parts}
use Rattle.lf_sim.specs.declared.entry.Entry.{Entry}
use Rattle.lf_sim.specs.Runs.{World, is_up, view}
use Rattle.lf_outcome.specs.declared.point.Point.{Point}
use Rattle.lf_outcome.specs.Entries.{EachKeyHasOne, IsUpAt, NoTwoDiffer, fits}
use Rattle.lf_outcome.specs.Failing.{single_by}
use Rattle.lf_outcome.specs.Reaches.{reach_at}
use Rattle.lf_outcome.specs.Truth.{agree, all_agree, counts, entered, entries_at, is_down, is_single, is_single_where, points_to}
use Rattle.lf_outcome.proofs.PlacesLemmas.{all_pass, awake-counts, by_test, first-there, flat-in, from-cons, iff, in-flat, in-option, in-points, later-there}
use Rattle.lf_outcome.proofs.PlacesLemmas.{none-there, not_so, passes, points-in}

-- what is entered at points
pub entries_at-more : (enters : ℕ → ℕ → Option Entry) (ps qs : List Point) → entries_at enters (ps ++ qs) ≡ entries_at enters ps ++ entries_at enters qs
entries_at-more enters ps qs = flat_map-append (λ p. option_to_list (enters p.node p.step)) ps qs

in-entries : (enters : ℕ → ℕ → Option Entry) (ps : List Point) (e : Entry) → Contains (entries_at enters ps) e
    → (p : Point) × Contains ps p × (enters p.node p.step ≡ Some e)
in-entries enters ps e c =
    let found = in-flat (λ (p : Point). option_to_list (enters p.node p.step)) ps e c in
    (found.0, found.1, in-option (enters found.0.node found.0.step) e found.2)

entries-in : (enters : ℕ → ℕ → Option Entry) (ps : List Point) (p : Point) (e : Entry) → Contains ps p → enters p.node p.step ≡ Some e
    → Contains (entries_at enters ps) e
entries-in enters ps p e there is =
    flat-in (λ (p : Point). option_to_list (enters p.node p.step)) ps p e there (subst (λ o. Contains (option_to_list o) e) (sym is) (first-there e []))

-- what is entered at some points is entered at others
pub entries-carry : (enters others : ℕ → ℕ → Option Entry) (ps qs : List Point)
    → ((p : Point) (e : Entry) → Contains ps p → enters p.node p.step ≡ Some e → Contains qs p × (others p.node p.step ≡ Some e))
    → (e : Entry) → Contains (entries_at enters ps) e → Contains (entries_at others qs) e
entries-carry enters others ps qs carries e c =
    let found = in-entries enters ps e c in
    let there = carries found.0 e found.1 found.2 in
    entries-in others qs found.0 e there.0 there.1

-- when two entries agree
agree-then : (e f : Entry) → agree e f ≡ true → e.key ≡ f.key → e.value ≡ f.value
agree-then e f h same = eqb-true e.value f.value (subst (λ b. (not b || (e.value == f.value)) ≡ true) (eq-eqb e.key f.key same) h)

agree-from : (e f : Entry) → (e.key ≡ f.key → e.value ≡ f.value) → agree e f ≡ true
agree-from e f h = by_test (e.key == f.key) (e.value == f.value) (λ same. eq-eqb e.value f.value (h (eqb-true e.key f.key same)))

-- each two of a list
two-agree : (es : List Entry) → all_agree es ≡ true → (e f : Entry) → Contains es e → Contains es f → agree e f ≡ true
two-agree es h e f in_e in_f = passes (agree e) es f (passes (λ e. list_all (agree e) es) es e h in_e) in_f

agree-all : (es : List Entry) → ((e f : Entry) → Contains es e → Contains es f → agree e f ≡ true) → all_agree es ≡ true
agree-all es h = all_pass (λ e. list_all (agree e) es) es (λ e in_e. all_pass (agree e) es (λ f in_f. h e f in_e in_f))

pub agree-fewer : (es fs : List Entry) → ((e : Entry) → Contains es e → Contains fs e) → all_agree fs ≡ true → all_agree es ≡ true
agree-fewer es fs more h = agree-all es (λ e f in_e in_f. two-agree fs h e f (more e in_e) (more f in_f))

at-any : {X : Type 0} (xs : List X) (i : ℕ) (d e : X) → i < length xs → slice_index_or xs i d ≡ slice_index_or xs i e
at-any [] i d e within = absurd (omega (arith, within))
at-any (x ∷ xs) zero d e within = refl
at-any (x ∷ xs) (suc i) d e within = at-any xs i d e (omega (arith, within))

-- sorted by keys, entries agree where each agrees with the next
module _ (es : List Entry) (sorted : IsNonDecreasingBy (λ (e : Entry). e.key) es) (d : Entry) where
  abbrev pub at : ℕ → Entry
  at i = slice_index_or es i d

  abbrev Adjacent : ℕ → Type 0
  Adjacent n = (j : ℕ) → j + 1 < n → agree (at j) (at (j + 1)) ≡ true

  -- one key at two places is that of all places between them
  along : Adjacent (length es) → (i k : ℕ) → i + k < length es → (at i).key ≡ (at (i + k)).key → (at i).value ≡ (at (i + k)).value
  along near i zero within same = ap (λ j. (at j).value) (omega arith)
  along near i (suc k) within same =
      let next : i + suc k ≡ (i + k) + 1 = omega arith in
      let here : (at i).key ≤ (at (i + k)).key = sorted i (i + k) d (omega arith) (omega (arith, within)) in
      let there : (at (i + k)).key ≤ (at ((i + k) + 1)).key = sorted (i + k) ((i + k) + 1) d (omega arith) (omega (arith, within)) in
      let last : (at i).key ≡ (at ((i + k) + 1)).key = same ∙ ap (λ j. (at j).key) next in
      along near i k (omega (arith, within)) (omega (arith, here, there, last))
      ∙ agree-then (at (i + k)) (at ((i + k) + 1)) (near (i + k) (omega (arith, within))) (omega (arith, here, there, last))
      ∙ ap (λ j. (at j).value) (sym next)

  ahead : Adjacent (length es) → (i j : ℕ) → i ≤ j → j < length es → (at i).key ≡ (at j).key → (at i).value ≡ (at j).value
  ahead near i j low within same =
      let is : i + (j - i) ≡ j = omega (arith, low) in
      along near i (j - i) (omega (arith, low, within)) (same ∙ ap (λ m. (at m).key) (sym is)) ∙ ap (λ m. (at m).value) is

  pub either : Adjacent (length es) → (i j : ℕ) → i < length es → j < length es → (at i).key ≡ (at j).key → (at i).value ≡ (at j).value
  either near i j in_i in_j same = elim (cases_lt i j) [
    | inl before ↦ ahead near i j (omega (arith, before)) in_j same
    | inr after ↦ sym (ahead near j i after in_i (sym same))
  ]

  place : (e : Entry) → Contains es e → (i : ℕ) × (i < length es) × (at i ≡ e)
  place e c = (c.0, c.1, at-any es c.0 d e c.1 ∙ c.2)

  adjacent-agree : Adjacent (length es) → all_agree es ≡ true
  adjacent-agree near = agree-all es (λ e f in_e in_f.
      let one = place e in_e in
      let other = place f in_f in
      agree-from e f (λ same. sym (ap (λ (x : Entry). x.value) one.2)
      ∙ either near one.0 other.0 one.1 other.1 (ap (λ (x : Entry). x.key) one.2 ∙ same ∙ sym (ap (λ (x : Entry). x.key) other.2))
      ∙ ap (λ (x : Entry). x.value) other.2))

some-if : (b : Bool) (o : Option Entry) (e : Entry) → (if b then o else None) ≡ Some e → b ≡ true
some-if true o e is = refl
some-if false o e is = absurd cc

-- an entry of a key among others
of_key-cons : (key : ℕ) (e : Entry) (es : List Entry) (b : Bool) → (e.key == key) ≡ b
    → ((f : Entry) × Contains es f × (f.key ≡ key)) ⊎ ((f : Entry) → Contains es f → f.key ≡ key → ⊥)
    → ((f : Entry) × Contains (e ∷ es) f × (f.key ≡ key)) ⊎ ((f : Entry) → Contains (e ∷ es) f → f.key ≡ key → ⊥)
of_key-cons key e es true is rest = inl (e, first-there e es, eqb-true e.key key is)
of_key-cons key e es false is (inl found) = inl (found.0, later-there e found.0 es found.1, found.2)
of_key-cons key e es false is (inr none) = inr (λ f c same. elim (from-cons e f es c) [
  | inl here ↦ false≢true (sym is ∙ eq-eqb e.key key (sym (ap (λ (x : Entry). x.key) here) ∙ same))
  | inr later ↦ none f later same
])

of_key : (key : ℕ) (es : List Entry) → ((e : Entry) × Contains es e × (e.key ≡ key)) ⊎ ((e : Entry) → Contains es e → e.key ≡ key → ⊥)
of_key key [] = inr (λ e c same. none-there e c)
of_key key (e ∷ es) = of_key-cons key e es (e.key == key) refl (of_key key es)

each-fits : (key value : ℕ) (o : Option Entry) → ((f : Entry) → o ≡ Some f → f.key ≡ key → f.value ≡ value) → fits key value o ≡ true
each-fits key value None h = refl
each-fits key value (Some f) h = by_test (f.key == key) (f.value == value) (λ same. eq-eqb f.value value (h f refl (eqb-true f.key key same)))

fits-then : (key value : ℕ) (e : Entry) → fits key value (Some e) ≡ true → e.key ≡ key → e.value ≡ value
fits-then key value e h same = eqb-true e.value value (subst (λ b. (not b || (e.value == value)) ≡ true) (eq-eqb e.key key same) h)

-- one value for each key, by the points
module _ {State Note Fact : Type 0} (w : World State Note Fact) (faults : List Parts) (nodes last topic : ℕ) where
  abbrev all_of_it : List Entry
  all_of_it = entries_at (entered w faults topic) (points_to nodes last)

  abbrev pub what : ℕ → ℕ → Option Entry
  what n t = w.rules.entry n (view w faults n t) topic

  entered-up : (n t : ℕ) → is_up w faults n t ≡ true → entered w faults topic n t ≡ what n t
  entered-up n t up = rw up refl

  pub up-where : (n t : ℕ) (e : Entry) → entered w faults topic n t ≡ Some e → is_up w faults n t ≡ true
  up-where n t e is = some-if (is_up w faults n t) (what n t) e is

  at-point : (n t : ℕ) (e : Entry) → IsUpAt w faults nodes last topic n t → what n t ≡ Some e → Contains all_of_it e
  at-point n t e here is =
      entries-in (entered w faults topic) (points_to nodes last) (record { node = n; step = t }) e
      (points-in nodes last n t here.node here.first here.within) (entered-up n t here.up ∙ is)

  -- a point at which an entry of these is
  record Comes (e : Entry) : Type 0 where
    pub node : ℕ
    pub step : ℕ
    pub up : IsUpAt w faults nodes last topic node step
    pub is : what node step ≡ Some e

  comes : (e : Entry) → Contains all_of_it e → Comes e
  comes e c =
      let found = in-entries (entered w faults topic) (points_to nodes last) e c in
      let within = in-points nodes last found.0 found.1 in
      let awake = up-where found.0.node found.0.step e found.2 in
      record {
        node = found.0.node;
        step = found.0.step;
        up = record { node = within.0; first = within.1; within = within.2; up = awake };
        is = sym (entered-up found.0.node found.0.step awake) ∙ found.2;
      }

  pairs-then : is_single w faults nodes last topic ≡ true → NoTwoDiffer w faults nodes last topic
  pairs-then h n m t u e f here there is_e is_f =
      agree-then e f (two-agree all_of_it h e f (at-point n t e here is_e) (at-point m u f there is_f))

  pairs-from : NoTwoDiffer w faults nodes last topic → is_single w faults nodes last topic ≡ true
  pairs-from h = agree-all all_of_it (λ e f in_e in_f.
      let one = comes e in_e in
      let other = comes f in_f in
      agree-from e f (h one.node other.node one.step other.step e f one.up other.up one.is other.is))

  pub pairs : (is_single w faults nodes last topic ≡ true) ↔ NoTwoDiffer w faults nodes last topic
  pairs = (pairs-then, pairs-from)

  -- the value of a key that some entry has, and any value of another one
  values-then : is_single w faults nodes last topic ≡ true → EachKeyHasOne w faults nodes last topic
  values-then h key = elim (of_key key all_of_it) [
    | inl found ↦ (
      found.0.value,
      λ n t here. each-fits key found.0.value (what n t) (λ f is same.
          sym (agree-then found.0 f (two-agree all_of_it h found.0 f found.1 (at-point n t f here is)) (found.2 ∙ sym same))),
    )
    | inr none ↦ (0, λ n t here. each-fits key 0 (what n t) (λ f is same. absurd (none f (at-point n t f here is) same)))
  ]

  values-from : EachKeyHasOne w faults nodes last topic → is_single w faults nodes last topic ≡ true
  values-from h = pairs-from (λ n m t u e f here there is_e is_f same.
      let one = h e.key in
      fits-then e.key one.0 e (sym (ap (λ o. fits e.key one.0 o) is_e) ∙ one.1 n t here) refl
      ∙ sym (fits-then e.key one.0 f (sym (ap (λ o. fits e.key one.0 o) is_f) ∙ one.1 m u there) (sym same)))

  pub values : (is_single w faults nodes last topic ≡ true) ↔ EachKeyHasOne w faults nodes last topic
  values = (values-then, values-from)

-- one value for each key, within a reach, carries over to another list of faults
module _ {State Note Fact : Type 0} (w : World State Note Fact) (faults wider : List Parts) (reach : List ℕ)
    (none_more : (n t : ℕ) → is_up w wider n t ≡ true → is_up w faults n t ≡ true)
    (same : (n t : ℕ) → t ≤ reach_at reach n → is_up w faults n t ≡ true → (is_up w wider n t ≡ true) × (view w wider n t ≡ view w faults n t))
    (nodes last topic : ℕ) where
  abbrev these : List Point
  these = points_to nodes last

  abbrev pub ok : List Parts → Point → Bool
  ok set p = is_down w set p.node p.step || counts (Some reach) p.node p.step

  within-reach : list_all (ok faults) these ≡ true → (p : Point) → Contains these p → is_up w wider p.node p.step ≡ true
      → nat_le p.step (reach_at reach p.node) ≡ true
  within-reach h p c up =
      awake-counts (is_up w faults p.node p.step) (nat_le p.step (reach_at reach p.node)) (passes (ok faults) these p h c) (none_more p.node p.step up)

  enters-same : list_all (ok faults) these ≡ true → (p : Point) (e : Entry) → Contains these p → entered w wider topic p.node p.step ≡ Some e
      → Contains these p × (entered w faults topic p.node p.step ≡ Some e)
  enters-same h p e c is =
      let up = up-where w wider nodes last topic p.node p.step e is in
      let was = none_more p.node p.step up in
      let there = same p.node p.step (leb-true p.step (reach_at reach p.node) (within-reach h p c up)) was in (
        c,
        entered-up w faults nodes last topic p.node p.step was ∙ sym (ap (λ v. w.rules.entry p.node v topic) there.1)
            ∙ sym (entered-up w wider nodes last topic p.node p.step up) ∙ is,
      )

  pub single-carries : is_single_where w faults (Some reach) nodes last topic ≡ true → is_single_where w wider (Some reach) nodes last topic ≡ true
  single-carries h =
      let parts = and_parts (list_all (ok faults) these) (is_single w faults nodes last topic) h in
      and_from (list_all (ok wider) these) (is_single w wider nodes last topic)
      (all_pass (ok wider) these (λ p c. by_test (is_up w wider p.node p.step) (nat_le p.step (reach_at reach p.node)) (within-reach parts.0 p c)))
      (agree-fewer (entries_at (entered w wider topic) these) (entries_at (entered w faults topic) these)
      (entries-carry (entered w wider topic) (entered w faults topic) these these (enters-same parts.0)) parts.1)

-- what is of one value for each key in the end is so by each step
pub single-early : {State Note Fact : Type 0} (w other : World State Note Fact) (faults others : List Parts) (t : ℕ)
    → ((topic n u : ℕ) → u ≤ t → entered other others topic n u ≡ entered w faults topic n u)
    → (nodes last topic : ℕ) → is_single other others nodes last topic ≡ true → single_by w faults t nodes last topic ≡ true
single-early w other faults others t enters nodes last topic h =
    agree-fewer (entries_at (entered w faults topic) (points_to nodes (min last t))) (entries_at (entered other others topic) (points_to nodes last))
    (entries-carry (entered w faults topic) (entered other others topic) (points_to nodes (min last t)) (points_to nodes last) (λ p e c is.
    let within = in-points nodes (min last t) p c in
    (points-in nodes last p.node p.step within.0 within.1 (omega (arith, within.2)), enters topic p.node p.step (omega (arith, within.2)) ∙ is))) h

-- entries in another order, each tested with the one before
module _ (old new : List Entry) (moved : IsPermutation old new) (d : Entry) where
  abbrev pub now : ℕ → Entry
  now i = slice_index_or new i d

  abbrev Near : ℕ → Type 0
  Near n = (j : ℕ) → j + 1 < n → agree (now j) (now (j + 1)) ≡ true

  pub near-first : Near 1
  near-first j h = absurd (omega (arith, h))

  pub near-more : (i : ℕ) (b : Bool) → 1 ≤ i → b ≡ agree (now (i - 1)) (now i) → b ≡ true → Near i → Near (i + 1)
  near-more i b low tested holds before j h = elim (cases_lt (j + 1) i) [
    | inl earlier ↦ before j earlier
    | inr last ↦
        let one : j ≡ i - 1 = omega (arith, low, last, h) in
        let other : j + 1 ≡ i = omega (arith, low, last, h) in
        ap (λ k. agree (now k) (now (j + 1))) one ∙ ap (λ k. agree (now (i - 1)) (now k)) other ∙ sym tested ∙ holds
  ]

  pub differ : (i : ℕ) (b : Bool) → 1 ≤ i → i < length new → b ≡ agree (now (i - 1)) (now i) → b ≡ false → false ≡ all_agree old
  differ i b low within tested fails =
      sym (not_so (all_agree old) (agree (now (i - 1)) (now i)) (λ h.
      two-agree old h (now (i - 1)) (now i)
      (Contains-permutation new old (now (i - 1)) (IsPermutation-sym old new moved) (Contains-get_or new (i - 1) d (omega (arith, within))))
      (Contains-permutation new old (now i) (IsPermutation-sym old new moved) (Contains-get_or new i d within)))
      (sym tested ∙ fails))

  pub none-differ : IsNonDecreasingBy (λ (e : Entry). e.key) new → (i : ℕ) → length new ≤ i → Near i → true ≡ all_agree old
  none-differ sorted i far near =
      sym (agree-fewer old new (λ e c. Contains-permutation old new e moved c)
      (adjacent-agree new sorted d (λ j within. near j (omega (arith, far, within)))))

-- where what is entered is the same at each point, whether it agrees is the same
pub single-agree : {State Note Fact : Type 0} (w other : World State Note Fact) (faults others : List Parts) (nodes last topic : ℕ)
    → ((n t : ℕ) → n < nodes → 1 ≤ t → t ≤ last → entered other others topic n t ≡ entered w faults topic n t)
    → is_single other others nodes last topic ≡ is_single w faults nodes last topic
single-agree w other faults others nodes last topic same =
    let here = entered w faults topic in
    let there = entered other others topic in
    let those = points_to nodes last in
    let at : (p : Point) → Contains those p → there p.node p.step ≡ here p.node p.step =
    λ p c. let within = in-points nodes last p c in same p.node p.step within.0 within.1 within.2 in
    iff (is_single other others nodes last topic) (is_single w faults nodes last topic)
    (agree-fewer (entries_at here those) (entries_at there those) (entries-carry here there those those (λ p e c is. (c, at p c ∙ is))))
    (agree-fewer (entries_at there those) (entries_at here those) (entries-carry there here those those (λ p e c is. (c, sym (at p c) ∙ is))))

-- within a reach that lies further out it stays so
pub single-further : {State Note Fact : Type 0} (w : World State Note Fact) (faults : List Parts) (reach further : List ℕ)
    → ((n : ℕ) → reach_at reach n ≤ reach_at further n) → (nodes last topic : ℕ)
    → is_single_where w faults (Some reach) nodes last topic ≡ true → is_single_where w faults (Some further) nodes last topic ≡ true
single-further w faults reach further out nodes last topic h =
    let fine : List ℕ → Point → Bool = λ r p. is_down w faults p.node p.step || counts (Some r) p.node p.step in
    let those = points_to nodes last in
    let parts = and_parts (list_all (fine reach) those) (is_single w faults nodes last topic) h in
    and_from (list_all (fine further) those) (is_single w faults nodes last topic)
    (all_pass (fine further) those (λ p c. by_test (is_up w faults p.node p.step) (nat_le p.step (reach_at further p.node)) (λ up.
    let near : p.step ≤ reach_at reach p.node = leb-true p.step (reach_at reach p.node)
    (awake-counts (is_up w faults p.node p.step) (nat_le p.step (reach_at reach p.node)) (passes (fine reach) those p parts.0 c) up) in
    let far = out p.node in
    le-leb p.step (reach_at further p.node) (omega (arith, near, far)))))
    parts.1
