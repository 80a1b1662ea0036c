-- Entries that stand in order: those of a topic, whether they agree, and the place of one more.
use Rattle.std.proofs.Common.{◌≡◌, ◌⊎◌, ℕ, suc, ◌+◌, ◌<◌, ◌≤◌, true, false, Bool, not, ◌&&◌, ◌||◌, List, [], ◌∷◌, ◌++◌, length, get_or, take, drop}
use Rattle.std.proofs.Common.{refl, sym, ap, ◌∙◌, subst, inl, inr, arith, one-add}
use Rattle.std.specs.Prelude.{◌==◌, nat_lt, nat_le, Result, Ok, Err, OnOk, OnErr, IfSome}
use Rattle.std.specs.Cmp.{IsTotalOrder, then_total, on_total, nat_cmp_total, tied_itself, ranked}
use Rattle.std.specs.Cmp.{both_ways as same_answer}
use Rattle.std.specs.List.{All, AllAdjacentBelow, Contains, HoldsAt, filter, list_any, prefix_len}
use Rattle.std.specs.List.Sorted.{IsBinarySearchResult, IsNonDecreasingBy, IsPartitionedBy, IsPartitionPoint, IsSearchInRange}
use Rattle.std.specs.Option.{is_none}
use Rattle.std.specs.Ordering.{is_gt, is_lt, nat_cmp, ordering_index, ordering_reverse, ordering_then}
use Rattle.std.specs.Result.{result_err}
use Rattle.std.specs.declared.cmp.Ordering.{Ordering}
use Rattle.std.specs.declared.cmp.Ordering.TheVariants.{Less, Equal, Greater}
use Rattle.std.proofs.lemmas.Bool.{both_ways, cases_Bool, cases_lt, cond-true, cond-false, eqb-true, eqb-false, eq-eqb, ne_eqb, or_parts}
use Rattle.std.proofs.lemmas.Bool.{leb-true, leb-false, ltb-true, ltb-false}
use Rattle.std.proofs.lemmas.List.{get_or_default}
use Rattle.std.proofs.lemmas.List.Elements.{All-contains, All-contains_itself, All-filter, Contains-get_or}
use Rattle.std.proofs.lemmas.List.Kept.{AllPairs-cons}
use Rattle.std.proofs.lemmas.List.Sorted.{IsNonDecreasingBy-drop, IsNonDecreasingBy-from_all_adjacent}
use Rattle.std.proofs.lemmas.List.Sorted.{IsPartitionedBy-leb, IsPartitionedBy-ltb, searchable_from_sorted}
use Rattle.std.proofs.lemmas.List.Sums.{prefix_len_is}
use Rattle.std.proofs.lemmas.Map.Lookups.{CmpEqualImpliesEq, exact_unsigned}
use Rattle.lf_list.proofs.Laws.{none-in, Contains-first, Contains-more, cases_in}
use Rattle.lf_residual.specs.declared.entries.Entered.{Entered}
use Rattle.lf_residual.specs.Entering.{agree_on, agree_under, is_same, order, precedes, put, AreInOrder}
use Rattle.lf_residual.proofs.Comparing.{any_is, then_Equal}
use Rattle.lf_residual.proofs.Gathering.{one-same, same-one, put-from, under-at, under-from}

-- the order of entries is total, and tells apart what differs
order_total : IsTotalOrder order
order_total =
    then_total (on_total (λ (e : Entered). e.topic) nat_cmp_total)
    (then_total (on_total (λ (e : Entered). e.key) nat_cmp_total) (on_total (λ (e : Entered). e.value) nat_cmp_total))

pub exact_entered : CmpEqualImpliesEq order
exact_entered x y h =
    let topic = then_Equal (nat_cmp x.topic y.topic) _ h in
    let rest = then_Equal (nat_cmp x.key y.key) (nat_cmp x.value y.value) topic.1 in
    λ i. record {
      topic = exact_unsigned x.topic y.topic topic.0 i;
      key = exact_unsigned x.key y.key rest.0 i;
      value = exact_unsigned x.value y.value rest.1 i;
    }

less-from : (o : Ordering) → is_lt o ≡ true → o ≡ Less
less-from Less h = refl
less-from Equal h = cc
less-from Greater h = cc

through : (e f g : Entered) → precedes e f ≡ true → precedes f g ≡ true → precedes e g ≡ true
through e f g h k = ap is_lt (order_total.trans e f g (less-from (order e f) h) (less-from (order f g) k))

one_way : (e f : Entered) → precedes e f ≡ true → precedes f e ≡ false
one_way e f h = ap is_lt (order_total.antisymm f e ∙ ap ordering_reverse (less-from (order e f) h))

-- one that neither precedes another nor is the same stands behind it
behind : (e f : Entered) (o : Ordering) → order f e ≡ o → is_lt o ≡ false → is_same f e ≡ false → precedes e f ≡ true
behind e f Less is late other = cc
behind e f Equal is late other =
    absurd (both_ways (is_same f e) other (subst (λ g. is_same f g ≡ true) (exact_entered f e is) (one-same f)))
behind e f Greater is late other = ap is_lt (order_total.antisymm e f ∙ ap ordering_reverse is)

first-or-then : (a b : Ordering) → is_lt (ordering_then a b) ≡ true → (a ≡ Less) ⊎ ((a ≡ Equal) × (is_lt b ≡ true))
first-or-then Less b h = inl refl
first-or-then Equal b h = inr (refl, h)
first-or-then Greater b h = cc

-- what it says of the fields that one entry precedes another
module _ (e f : Entered) (h : precedes e f ≡ true) where
  topics_rise : e.topic ≤ f.topic
  topics_rise = elim (first-or-then (nat_cmp e.topic f.topic) (ordering_then (nat_cmp e.key f.key) (nat_cmp e.value f.value)) h) [
    | inl less ↦ let is : e.topic < f.topic = ranked e.topic f.topic Less (sym less) in omega (arith, is)
    | inr level ↦ let is : e.topic ≡ f.topic = ranked e.topic f.topic Equal (sym level.0) in omega (arith, is)
  ]

  in_topic : e.topic ≡ f.topic → is_lt (ordering_then (nat_cmp e.key f.key) (nat_cmp e.value f.value)) ≡ true
  in_topic topic = elim (first-or-then (nat_cmp e.topic f.topic) (ordering_then (nat_cmp e.key f.key) (nat_cmp e.value f.value)) h) [
    | inl less ↦ let is : e.topic < f.topic = ranked e.topic f.topic Less (sym less) in absurd (omega (arith, is, topic))
    | inr level ↦ level.1
  ]

  keys_rise : e.topic ≡ f.topic → e.key ≤ f.key
  keys_rise topic = elim (first-or-then (nat_cmp e.key f.key) (nat_cmp e.value f.value) (in_topic topic)) [
    | inl less ↦ let is : e.key < f.key = ranked e.key f.key Less (sym less) in omega (arith, is)
    | inr level ↦ let is : e.key ≡ f.key = ranked e.key f.key Equal (sym level.0) in omega (arith, is)
  ]

-- lists in order, by their first entry and the others
order_first : (e : Entered) (es : List Entered) → AreInOrder (e ∷ es) → (f : Entered) → Contains es f → precedes e f ≡ true
order_first e es h f k = subst (λ g. precedes e g ≡ true) k.2 (h 0 (suc k.0) f (omega arith) (omega (arith, k.1)))

order_rest : (e : Entered) (es : List Entered) → AreInOrder (e ∷ es) → AreInOrder es
order_rest e es h = λ i j d less there. h (suc i) (suc j) d (omega (arith, less)) (omega (arith, there))

order_cons : (e : Entered) (es : List Entered) → ((f : Entered) → Contains es f → precedes e f ≡ true) → AreInOrder es → AreInOrder (e ∷ es)
order_cons e es h k = AllPairs-cons (λ e f. precedes e f ≡ true) e es (λ i d there. h (get_or es i d) (Contains-get_or es i d there)) k

-- those at the front that pass a test, one that is put behind them, and what is left without them
module _ {X : Type 0} (p : X → Bool) where
  abbrev passing : List X → List X
  passing xs = take (prefix_len p xs) xs

  passing_more : (y : X) (ys : List X) → p y ≡ true → passing (y ∷ ys) ≡ y ∷ passing ys
  passing_more y ys passes = rw (passes, one-add (prefix_len p ys)) refl

  passing_none : (y : X) (ys : List X) → p y ≡ false → passing (y ∷ ys) ≡ []
  passing_none y ys fails = rw fails refl

  abbrev left : List X → List X
  left xs = drop (prefix_len p xs) xs

  left_more : (y : X) (ys : List X) → p y ≡ true → left (y ∷ ys) ≡ left ys
  left_more y ys passes = rw (passes, one-add (prefix_len p ys)) refl

  left_here : (y : X) (ys : List X) → p y ≡ false → left (y ∷ ys) ≡ y ∷ ys
  left_here y ys fails = rw fails refl

  abbrev with : X → List X → List X
  with x xs = passing xs ++ x ∷ left xs

  with_later : (x y : X) (ys : List X) → p y ≡ true → with x (y ∷ ys) ≡ y ∷ with x ys
  with_later x y ys passes = rw (passes, one-add (prefix_len p ys)) refl

  with_here : (x y : X) (ys : List X) → p y ≡ false → with x (y ∷ ys) ≡ x ∷ y ∷ ys
  with_here x y ys fails = rw fails refl

-- an entry that is not there is put where they stay in order
module _ (e : Entered) where
  abbrev pub is_before : Entered → Bool
  is_before f = precedes f e

  order_put : (fs : List Entered) → list_any (λ f. is_same f e) fs ≡ false → AreInOrder fs → AreInOrder (put e fs)
  order_put [] none h = order_cons e [] (λ f k. absurd (none-in f k)) h
  order_put (f ∷ fs) none h =
      let others = or_parts (is_same f e) (list_any (λ g. is_same g e) fs) none in
      elim (cases_Bool (is_before f)) [
        | inl passes ↦ subst AreInOrder (sym (with_later is_before e f fs passes))
            (order_cons f (put e fs) (λ g k. elim (put-from e fs g k) [
              | inl old ↦ order_first f fs h g old
              | inr same ↦ subst (λ g. precedes f g ≡ true) same passes
            ]) (order_put fs others.1 (order_rest f fs h)))
        | inr fails ↦
            let here : precedes e f ≡ true = behind e f (order f e) refl fails others.0 in
            subst AreInOrder (sym (with_here is_before e f fs fails))
            (order_cons e (f ∷ fs) (λ g k. elim (cases_in f fs g k) [
              | inl same ↦ subst (λ g. precedes e g ≡ true) same here
              | inr later ↦ through e f g here (order_first f fs h g later)
            ]) h)
      ]

  pub order_entered : {T E : Type 0} (r : Result T E) (es new : List Entered) → OnOk r (new ≡ put e es) → OnErr r (new ≡ es)
      → list_any (λ f. is_same f e) es ≡ false → AreInOrder es → AreInOrder new
  order_entered (Ok x) es new now kept none h = subst AreInOrder (sym now) (order_put es none h)
  order_entered (Err x) es new now kept none h = subst AreInOrder (sym kept) h

-- what a binary search for an entry finds
module _ (e : Entered) (es : List Entered) (h : AreInOrder es) where
  abbrev is_there : Bool
  is_there = list_any (λ f. is_same f e) es

  rises : IsNonDecreasingBy (λ f. ordering_index (order f e)) es
  rises = searchable_from_sorted order_total (λ (f : Entered). f) es e (λ k d low within.
      one_way (get_or es k d) (get_or es (k + 1) d) (h k (k + 1) d (omega arith) within))

  found : (i : ℕ) → i < length es → HoldsAt (λ f. order f e ≡ Equal) es i → is_there ≡ true
  found i within is = (any_is is_same same-one one-same e es).1 (i, within, exact_entered (get_or es i e) e (is e))

  module _ (i : ℕ) (within : i ≤ length es) (parted : IsPartitionPoint (λ f. order f e ≡ Less) (λ f. order f e ≡ Greater) es i) where
    elsewhere : (k : ℕ) → k < length es → get_or es k e ≡ e → ⊥
    elsewhere k inside is =
        let level : order e e ≡ Equal = tied_itself order_total e in
        elim (cases_lt k i) [
          | inl before ↦
              let less : order e e ≡ Less = ap (λ f. order f e) (sym is) ∙ parted.0 k e (omega arith) before in
              both_ways (is_lt (order e e)) (ap is_lt level) (ap is_lt less)
          | inr from ↦
              let more : order e e ≡ Greater = ap (λ f. order f e) (sym is) ∙ parted.1 k e from inside in
              both_ways (is_gt (order e e)) (ap is_gt level) (ap is_gt more)
        ]

    missing : is_there ≡ false
    missing = elim (cases_Bool is_there) [
      | inl there ↦ let k = (any_is is_same same-one one-same e es).0 there in absurd (elsewhere k.0 k.1 k.2)
      | inr none ↦ none
    ]

    place : i ≡ prefix_len (is_before e) es
    place =
        sym (prefix_len_is (is_before e) es i e within (λ k less. ap is_lt (parted.0 k e (omega arith) less))
        (λ less. ap is_lt (parted.1 i e (omega arith) less)))

  pub tells_there : (r : Result ℕ ℕ) → IsSearchInRange r (length es) → IsBinarySearchResult (λ f. order f e) es r → is_none (result_err r) ≡ is_there
  tells_there (Ok i) within is = sym (found i within is)
  tells_there (Err i) within parted = sym (missing i within (parted rises))

  pub tells_place : (r : Result ℕ ℕ) → IsSearchInRange r (length es) → IsBinarySearchResult (λ f. order f e) es r
      → IfSome (result_err r) (λ at. at ≡ prefix_len (is_before e) es)
  tells_place (Ok i) within is = tt
  tells_place (Err i) within parted = place i within (parted rises)

-- two entries agree, where those of one topic and one key have one value
module _ (topic : ℕ) (x y : Entered) where
  agree_from : ((x.topic == topic) ≡ true → (y.topic == topic) ≡ true → (x.key == y.key) ≡ true → (x.value == y.value) ≡ true) → agree_on topic x y ≡ true
  agree_from h = by (x.topic == topic) (y.topic == topic) (x.key == y.key) refl refl refl
    where
      by : (a b c : Bool) → (x.topic == topic) ≡ a → (y.topic == topic) ≡ b → (x.key == y.key) ≡ c → agree_on topic x y ≡ true
      by true true true one other key = λ i. not (one i && (other i && key i)) || h one other key i
      by true true false one other key = λ i. not (one i && (other i && key i)) || (x.value == y.value)
      by true false c one other key = λ i. not (one i && (other i && key i)) || (x.value == y.value)
      by false b c one other key = λ i. not (one i && (other i && key i)) || (x.value == y.value)

  value_from : (x.topic == topic) ≡ true → (y.topic == topic) ≡ true → (x.key == y.key) ≡ true → agree_on topic x y ≡ true → (x.value == y.value) ≡ true
  value_from one other key h = sym (λ i. not (one i && (other i && key i)) || (x.value == y.value)) ∙ h

-- the entries of a topic
module _ (topic : ℕ) where
  abbrev topic_of : Entered → ℕ
  topic_of e = e.topic

  abbrev pub is_of : Entered → Bool
  is_of e = e.topic == topic

  abbrev pub is_below : Entered → Bool
  is_below e = nat_lt e.topic topic

  abbrev pub is_upto : Entered → Bool
  is_upto e = nat_le e.topic topic

  none_of : (es : List Entered) → ((e : Entered) → Contains es e → is_of e ≡ false) → filter is_of es ≡ []
  none_of [] h = refl
  none_of (e ∷ es) h =
      cond-false (is_of e) (e ∷ filter is_of es) (filter is_of es) (h e (Contains-first e es)) ∙ none_of es (λ f k. h f (Contains-more e es f k))

  above : (e : Entered) (es : List Entered) → AreInOrder (e ∷ es) → (f : Entered) → Contains (e ∷ es) f → e.topic ≤ f.topic
  above e es h f k = elim (cases_in e es f k) [
    | inl same ↦ let is : e.topic ≡ f.topic = ap topic_of same in omega (arith, is)
    | inr later ↦ topics_rise e f (order_first e es h f later)
  ]

  -- they stand at the front where none below is, and behind those below else
  at_front : (es : List Entered) → AreInOrder es → ((e : Entered) → Contains es e → topic ≤ e.topic) → passing is_upto es ≡ filter is_of es
  at_front [] h low = refl
  at_front (e ∷ es) h low = elim (cases_Bool (is_upto e)) [
    | inl upto ↦
        let least = low e (Contains-first e es) in
        let most = leb-true e.topic topic upto in
        let is : is_of e ≡ true = eq-eqb e.topic topic (omega (arith, least, most)) in
        passing_more is_upto e es upto ∙ ap (λ l. e ∷ l) (at_front es (order_rest e es h) (λ f k. low f (Contains-more e es f k)))
        ∙ sym (cond-true (is_of e) (e ∷ filter is_of es) (filter is_of es) is)
    | inr past ↦
        let more = leb-false e.topic topic past in
        passing_none is_upto e es past
        ∙ sym (none_of (e ∷ es) (λ f k. let least = above e es h f k in ne_eqb f.topic topic (λ same. omega (arith, more, least, same))))
  ]

  behind_others : (es : List Entered) → AreInOrder es → passing is_upto (left is_below es) ≡ filter is_of es
  behind_others [] h = refl
  behind_others (e ∷ es) h = elim (cases_Bool (is_below e)) [
    | inl less ↦
        let below = ltb-true e.topic topic less in
        ap (passing is_upto) (left_more is_below e es less) ∙ behind_others es (order_rest e es h)
        ∙ sym (cond-false (is_of e) (e ∷ filter is_of es) (filter is_of es) (ne_eqb e.topic topic (λ same. omega (arith, below, same))))
    | inr from ↦
        let first = ltb-false e.topic topic from in
        ap (passing is_upto) (left_here is_below e es from)
        ∙ at_front (e ∷ es) h (λ f k. let least = above e es h f k in omega (arith, first, least))
  ]

  -- so two searches find them
  topics_up : (es : List Entered) → AreInOrder es → IsNonDecreasingBy topic_of es
  topics_up es h = IsNonDecreasingBy-from_all_adjacent topic_of es (λ k d less.
      topics_rise (get_or es k d) (get_or es (k + 1) d) (h k (k + 1) d (omega arith) less))

  point : (p : Entered → Bool) (es : List Entered) (at : ℕ) → at ≤ length es → IsPartitionPoint (λ e. p e ≡ true) (λ e. p e ≡ false) es at
      → prefix_len p es ≡ at
  point p es at within parted =
      let any : Entered = record { topic = 0; key = 0; value = 0 } in
      prefix_len_is p es at any within (λ k less. parted.0 k any (omega arith) less) (λ less. parted.1 at any (omega arith) less)

  pub found_under : (es rest : List Entered) (from count : ℕ) → AreInOrder es → from ≤ length es
      → (IsPartitionedBy is_below es → IsPartitionPoint (λ e. is_below e ≡ true) (λ e. is_below e ≡ false) es from) → rest ≡ drop from es
      → count ≤ length rest → (IsPartitionedBy is_upto rest → IsPartitionPoint (λ e. is_upto e ≡ true) (λ e. is_upto e ≡ false) rest count)
      → take count rest ≡ filter is_of es
  found_under es rest from count h within start is few end =
      let up = topics_up es h in
      let rest_up : IsNonDecreasingBy topic_of rest = subst (IsNonDecreasingBy topic_of) (sym is) (IsNonDecreasingBy-drop topic_of from es up) in
      let first = point is_below es from within (start (IsPartitionedBy-ltb topic_of es topic up)) in
      let last = point is_upto rest count few (end (IsPartitionedBy-leb topic_of rest topic rest_up)) in
      ap (λ n. take n rest) (sym last) ∙ ap (passing is_upto) (is ∙ ap (λ n. drop n es) (sym first)) ∙ behind_others es h

  -- whether entries agree under it rests on these alone
  kept_in : (es : List Entered) (x : Entered) → Contains es x → is_of x ≡ true → Contains (filter is_of es) x
  kept_in [] x there is = absurd (none-in x there)
  kept_in (e ∷ es) x there is = elim (cases_Bool (is_of e)) [
    | inl passes ↦
        subst (λ l. Contains l x) (sym (cond-true (is_of e) (e ∷ filter is_of es) (filter is_of es) passes)) (elim (cases_in e es x there) [
          | inl same ↦ subst (Contains (e ∷ filter is_of es)) same (Contains-first e (filter is_of es))
          | inr later ↦ Contains-more e (filter is_of es) x (kept_in es x later is)
        ])
    | inr fails ↦
        subst (λ l. Contains l x) (sym (cond-false (is_of e) (e ∷ filter is_of es) (filter is_of es) fails)) (elim (cases_in e es x there) [
          | inl same ↦ absurd (both_ways (is_of x) (ap is_of (sym same) ∙ fails) is)
          | inr later ↦ kept_in es x later is
        ])
  ]

  was_in : (es : List Entered) (x : Entered) → Contains (filter is_of es) x → Contains es x
  was_in es x there = All-contains (Contains es) (filter is_of es) x (All-filter is_of (Contains es) es (All-contains_itself es)) there

  pub agree_alike : (es : List Entered) → agree_under topic (filter is_of es) ≡ agree_under topic es
  agree_alike es =
      same_answer (agree_under topic (filter is_of es)) (agree_under topic es)
      (λ h. under-from topic es (λ x y x_in y_in. agree_from topic x y (λ one other key.
      value_from topic x y one other key (under-at topic (filter is_of es) h x y (kept_in es x x_in one) (kept_in es y y_in other)))))
      (λ h. under-from topic (filter is_of es) (λ x y x_in y_in. under-at topic es h x y (was_in es x x_in) (was_in es y y_in)))

  -- of which no two have one key where no two neighbours have
  module _ (es : List Entered) (h : AreInOrder es) (all : All (λ e. e.topic ≡ topic) es) where
    keys_up : IsNonDecreasingBy (λ (e : Entered). e.key) es
    keys_up = IsNonDecreasingBy-from_all_adjacent (λ (e : Entered). e.key) es (λ k d less.
        keys_rise (get_or es k d) (get_or es (k + 1) d) (h k (k + 1) d (omega arith) less) (all k d (omega (arith, less)) ∙ sym (all (k + 1) d less)))

    module _ (high : ℕ) (whole : length es ≤ high) (apart : AllAdjacentBelow (λ e f. (e.key == f.key) ≡ false) es high) where
      keys_less : (i j : ℕ) (d : Entered) → i < j → j < length es → (get_or es i d).key < (get_or es j d).key
      keys_less i j d less within =
          let near = keys_up i (i + 1) d (omega arith) (omega (arith, less, within)) in
          let differ = eqb-false (get_or es i d).key (get_or es (i + 1) d).key (apart i d (omega (arith, less, within, whole))) in
          let far = keys_up (i + 1) j d (omega (arith, less)) within in
          omega (arith, near, differ, far)

      one_value : (x y : Entered) (i j : ℕ) → i < length es → j < length es → get_or es i x ≡ x → get_or es j x ≡ y → x.key ≡ y.key → x.value ≡ y.value
      one_value x y i j i_in j_in x_is y_is key =
          let x_key : (get_or es i x).key ≡ x.key = ap (λ (e : Entered). e.key) x_is in
          let y_key : (get_or es j x).key ≡ y.key = ap (λ (e : Entered). e.key) y_is in
          elim (cases_lt i j) [
            | inl before ↦ let less = keys_less i j x before j_in in absurd (omega (arith, less, x_key, y_key, key))
            | inr from ↦ elim (cases_lt j i) [
              | inl behind ↦ let less = keys_less j i x behind i_in in absurd (omega (arith, less, x_key, y_key, key))
              | inr upto ↦
                  let level : i ≡ j = omega (arith, from, upto) in
                  ap (λ (e : Entered). e.value) (sym x_is ∙ ap (λ k. get_or es k x) level ∙ y_is)
            ]
          ]

      pub own_keys : agree_under topic es ≡ true
      own_keys = under-from topic es (λ x y x_in y_in. agree_from topic x y (λ one other key.
          eq-eqb x.value y.value (one_value x y x_in.0 y_in.0 x_in.1 y_in.1 x_in.2 (get_or_default es y_in.0 x y y_in.1 ∙ y_in.2) (eqb-true x.key y.key key))))
