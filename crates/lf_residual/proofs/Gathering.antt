-- How entries are taken in: none is lost, and none is made up.
use Rattle.std.proofs.Common.{◌≡◌, ◌⊎◌, ℕ, true, false, Bool, not, ◌&&◌, ◌||◌, List, [], ◌∷◌, refl, sym, ap, ◌∙◌, subst, inl, inr}
use Rattle.std.specs.Prelude.{◌==◌, take, drop, Option, None, Some}
use Rattle.std.specs.List.{Contains, list_all, list_any, prefix_len}
use Rattle.std.proofs.lemmas.Bool.{and_parts, and_from, cases_Bool, cond-true, cond-false, eqb-true, eq-eqb}
use Rattle.std.proofs.lemmas.List.{take-append-drop}
use Rattle.std.proofs.lemmas.List.Elements.{Contains-append_cases, Contains-append_left, Contains-append_right}
use Rattle.lf_list.proofs.Laws.{none-in, Contains-first, Contains-more, cases_in}
use Rattle.lf_sim.specs.declared.entry.Entry.{Entry}
use Rattle.lf_outcome.specs.Truth.{agree}
use Rattle.lf_protocols.specs.declared.protocol.Kind.{Kind}
use Rattle.lf_protocols.specs.declared.state.State.{State}
use Rattle.lf_protocols.specs.Protocols.{entry_of}
use Rattle.lf_residual.specs.declared.entries.Entered.{Entered}
use Rattle.lf_residual.specs.Entering.{agree_on, agree_under, is_same, precedes, put, with_entry, entered_as, with_some, with_state}
use Rattle.lf_residual.proofs.Comparing.{any_is}
use Rattle.lf_residual.proofs.Members.{passes, all_pass, not_both}

-- entries that are the same are one
pub same-one : (x y : Entered) → is_same x y ≡ true → x ≡ y
same-one x y h =
    let topic = and_parts (x.topic == y.topic) ((x.key == y.key) && (x.value == y.value)) h in
    let rest = and_parts (x.key == y.key) (x.value == y.value) topic.1 in
    λ i. record { topic = eqb-true x.topic y.topic topic.0 i; key = eqb-true x.key y.key rest.0 i; value = eqb-true x.value y.value rest.1 i }

pub one-same : (x : Entered) → is_same x x ≡ true
one-same x =
    and_from (x.topic == x.topic) ((x.key == x.key) && (x.value == x.value)) (eq-eqb x.topic x.topic refl)
    (and_from (x.key == x.key) (x.value == x.value) (eq-eqb x.key x.key refl) (eq-eqb x.value x.value refl))

-- two of some entries agree under a topic, where each two do
pub under-at : (topic : ℕ) (es : List Entered) → agree_under topic es ≡ true → (x y : Entered) → Contains es x → Contains es y
    → agree_on topic x y ≡ true
under-at topic es h x y x_in y_in = passes (agree_on topic x) es y (passes (λ e. list_all (agree_on topic e) es) es x h x_in) y_in

pub under-from : (topic : ℕ) (es : List Entered) → ((x y : Entered) → Contains es x → Contains es y → agree_on topic x y ≡ true)
    → agree_under topic es ≡ true
under-from topic es h = all_pass (λ x. list_all (agree_on topic x) es) es (λ x x_in. all_pass (agree_on topic x) es (λ y y_in. h x y x_in y_in))

-- they differ still with more
under-more : (topic : ℕ) (es more : List Entered) → ((x : Entered) → Contains es x → Contains more x) → agree_under topic es ≡ false
    → agree_under topic more ≡ false
under-more topic es more all differ =
    not_both (agree_under topic more) (agree_under topic es)
    (λ h. under-from topic es (λ x y x_in y_in. under-at topic more h x y (all x x_in) (all y y_in))) differ

-- two entries that agree, as entries under a topic
pub agree-as : (topic : ℕ) (x y : Entered)
    → (x.topic ≡ topic → y.topic ≡ topic → agree (record { key = x.key; value = x.value }) (record { key = y.key; value = y.value }) ≡ true)
    → agree_on topic x y ≡ true
agree-as topic x y h = by (x.topic == topic) (y.topic == topic) (eqb-true x.topic topic) (eqb-true y.topic topic)
  where
    by : (a b : Bool) → (a ≡ true → x.topic ≡ topic) → (b ≡ true → y.topic ≡ topic)
        → (not (a && (b && (x.key == y.key))) || (x.value == y.value)) ≡ true
    by true true one other = h (one refl) (other refl)
    by true false one other = refl
    by false b one other = refl

pub as-agree : (topic : ℕ) (e f : Entry) → agree_on topic (entered_as topic e) (entered_as topic f) ≡ true → agree e f ≡ true
as-agree topic e f h =
    let here : (topic == topic) ≡ true = eq-eqb topic topic refl in
    sym (λ i. not (here i && (here i && (e.key == f.key))) || (e.value == f.value)) ∙ h

-- an entry that is put in its place
module _ (e : Entered) (es : List Entered) where
  abbrev at : ℕ
  at = prefix_len (λ f. precedes f e) es

  put-kept : (x : Entered) → Contains es x → Contains (put e es) x
  put-kept x there =
      elim (Contains-append_cases (take at es) (drop at es) x (subst (λ xs. Contains xs x) (sym (take-append-drop at es)) there)) [
        | inl before ↦ Contains-append_left (take at es) (e ∷ drop at es) x before
        | inr behind ↦ Contains-append_right (take at es) (e ∷ drop at es) x (Contains-more e (drop at es) x behind)
      ]

  put-there : Contains (put e es) e
  put-there = Contains-append_right (take at es) (e ∷ drop at es) e (Contains-first e (drop at es))

  pub put-from : (x : Entered) → Contains (put e es) x → Contains es x ⊎ (e ≡ x)
  put-from x there = elim (Contains-append_cases (take at es) (e ∷ drop at es) x there) [
    | inl before ↦ inl (subst (λ xs. Contains xs x) (take-append-drop at es) (Contains-append_left (take at es) (drop at es) x before))
    | inr later ↦ elim (cases_in e (drop at es) x later) [
      | inl same ↦ inr same
      | inr behind ↦ inl (subst (λ xs. Contains xs x) (take-append-drop at es) (Contains-append_right (take at es) (drop at es) x behind))
    ]
  ]

  -- one that is taken in: what was there is there still; it is there now, or two under its topic don't agree; and nothing else is
  abbrev passed : Bool
  passed = not (agree_under e.topic es) || list_any (λ f. is_same f e) es

  pub record Taken (after : List Entered) : Type 0 where
    pub kept : (x : Entered) → Contains es x → Contains after x
    pub there : Contains after e ⊎ (agree_under e.topic after ≡ false)
    pub from : (x : Entered) → Contains after x → Contains es x ⊎ (e ≡ x)

  pub taken : Taken (with_entry es e)
  taken = elim (cases_Bool passed) [
    | inl over ↦ subst Taken (sym (cond-true passed es (put e es) over)) (record {
      kept = λ x k. k;
      there = known (agree_under e.topic es) refl over;
      from = λ x k. inl k;
    })
    | inr new ↦ subst Taken (sym (cond-false passed es (put e es) new)) (record { kept = put-kept; there = inl put-there; from = put-from })
  ]
    where
      known : (b : Bool) → agree_under e.topic es ≡ b → (not b || list_any (λ f. is_same f e) es) ≡ true
          → Contains es e ⊎ (agree_under e.topic es ≡ false)
      known true is over = inl ((any_is is_same same-one one-same e es).0 over)
      known false is over = inr is

-- What a node's state enters under some topics
module _ (k : Kind) (n : ℕ) (state : State) where
  abbrev step : List Entered → ℕ → List Entered
  step es topic = with_some es topic (entry_of k n state topic)

  -- under one of them
  record TakenUnder (topic : ℕ) (o : Option Entry) (es after : List Entered) : Type 0 where
    kept : (x : Entered) → Contains es x → Contains after x
    there : (e : Entry) → o ≡ Some e → Contains after (entered_as topic e) ⊎ (agree_under topic after ≡ false)
    from : (x : Entered) → Contains after x → Contains es x ⊎ ((x.topic ≡ topic) × (o ≡ Some (record { key = x.key; value = x.value })))

  none≢some : (e : Entry) → None ≡ Some e → ⊥
  none≢some e h = let never : None ≡ Some e = h in cc

  abbrev some_of : Option Entry → Entry → Entry
  some_of None d = d
  some_of (Some e) d = e

  taken-under : (topic : ℕ) (o : Option Entry) (es : List Entered) → TakenUnder topic o es (with_some es topic o)
  taken-under topic None es = record {
    kept = λ x in_es. in_es;
    there = λ e h. absurd (none≢some e h);
    from = λ x in_es. inl in_es;
  }
  taken-under topic (Some own) es =
      let is = taken (entered_as topic own) es in
      record {
        kept = is.kept;
        there = λ e h.
            let same : own ≡ e = ap (λ o. some_of o own) h in
            subst (λ x. Contains (with_entry es (entered_as topic own)) (entered_as topic x)
            ⊎ (agree_under topic (with_entry es (entered_as topic own)) ≡ false)) same is.there;
        from = λ x k. elim (is.from x k) [
          | inl old ↦ inl old
          | inr same ↦ inr (
            ap (λ (y : Entered). y.topic) (sym same),
            ap (λ (y : Entered). Some (record { key = y.key; value = y.value })) same,
          )
        ];
      }

  pub state-kept : (topics : List ℕ) (es : List Entered) (x : Entered) → Contains es x → Contains (with_state k topics n state es) x
  state-kept [] es x there = there
  state-kept (topic ∷ topics) es x there =
      state-kept topics (step es topic) x ((taken-under topic (entry_of k n state topic) es).kept x there)

  pub state-there : (topics : List ℕ) (es : List Entered) (topic : ℕ) (e : Entry) → Contains topics topic → entry_of k n state topic ≡ Some e
      → Contains (with_state k topics n state es) (entered_as topic e) ⊎ (agree_under topic (with_state k topics n state es) ≡ false)
  state-there [] es topic e there is = absurd (none-in topic there)
  state-there (first ∷ topics) es topic e there is = elim (cases_in first topics topic there) [
    | inl same ↦
        let now = (taken-under first (entry_of k n state first) es).there e (ap (entry_of k n state) same ∙ is) in
        elim (subst (λ t. Contains (step es first) (entered_as t e) ⊎ (agree_under t (step es first) ≡ false)) same now) [
          | inl has ↦ inl (state-kept topics (step es first) (entered_as topic e) has)
          | inr differ ↦ inr (under-more topic (step es first) (with_state k topics n state (step es first)) (state-kept topics (step es first)) differ)
        ]
    | inr later ↦ state-there topics (step es first) topic e later is
  ]

  pub state-differ : (topics : List ℕ) (es : List Entered) (topic : ℕ) → agree_under topic es ≡ false
      → agree_under topic (with_state k topics n state es) ≡ false
  state-differ topics es topic = under-more topic es (with_state k topics n state es) (state-kept topics es)

  pub state-from : (topics : List ℕ) (es : List Entered) (x : Entered) → Contains (with_state k topics n state es) x
      → Contains es x ⊎ (entry_of k n state x.topic ≡ Some (record { key = x.key; value = x.value }))
  state-from [] es x there = inl there
  state-from (topic ∷ topics) es x there = elim (state-from topics (step es topic) x there) [
    | inr new ↦ inr new
    | inl old ↦ elim ((taken-under topic (entry_of k n state topic) es).from x old) [
      | inl before ↦ inl before
      | inr new ↦ inr (ap (entry_of k n state) new.0 ∙ new.1)
    ]
  ]

  -- where nothing is entered, nothing changes
  pub state-none : (topics : List ℕ) (es : List Entered) → ((topic : ℕ) → entry_of k n state topic ≡ None) → with_state k topics n state es ≡ es
  state-none [] es none = refl
  state-none (topic ∷ topics) es none = ap (λ o. with_state k topics n state (with_some es topic o)) (none topic) ∙ state-none topics es none
