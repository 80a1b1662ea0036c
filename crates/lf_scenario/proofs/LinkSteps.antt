-- One table more among those of links.
use Rattle.std.proofs.Common.{◌≡◌, ℕ, ◌+◌, ◌<◌, ◌≤◌, refl, nat_lt, ◌==◌, ◌&&◌, cond, List, [], ◌∷◌, ◌++◌}
use Rattle.std.proofs.Common.{length, get_or, drop, fold, map, Ok, Err, String, BTreeMap, Global, inl, inr, sym, ap, ◌∙◌}
use Rattle.std.proofs.lemmas.Bool.{and_from, and_parts, cases_Bool, cases_eq, eq-eqb, false≢true, lt-ltb, ltb-true, ne_eqb, and_right}
use Rattle.std.proofs.lemmas.List.{drop_all, drop_more}
use Rattle.toml.specs.Data.{Data, item, table, Items}
use Rattle.toml.specs.View.{view, view_step, items_view, members_view}
use Rattle.toml.specs.declared.value.Value.{Value, Table, fold_out-Value, out-Value, roll-Value, roll-out-Value}
use Rattle.toml.specs.declared.value.Value.TheVariants.{rolls-Table}
use Rattle.toml.specs.declared.value.Value.TheOpen.{Value-F}
use Rattle.toml.specs.declared.value.Value.TheFolds.{map-Value}
use Rattle.toml.proofs.Views.{items_view-drop, view-Table}
use Rattle.lf_scenario.specs.declared.error.ScenarioError.{ScenarioError}
use Rattle.lf_scenario.specs.declared.error.ScenarioError.TheVariants as refusals
use Rattle.lf_scenario.specs.declared.key.Key.TheVariants as keys
use Rattle.lf_scenario.specs.declared.links.Link.{Link}
use Rattle.lf_scenario.specs.Values.{◌>>=◌}
use Rattle.lf_scenario.specs.LinkTables.{least_given, link_in, links_from, links_of, spread_given, table_by}
use Rattle.std.specs.List.{range_with_len}
use Rattle.std.proofs.lemmas.List.FromFn.{fill_by_all}
use Rattle.lf_latency.specs.declared.links.Links.{Links}
use Rattle.lf_latency.specs.Links.{entry_at, IsLinks, IsPair, least_of, pair_entry, spread_of}

-- the first of the items is a table
shape : (vs : List Value) (i : ℕ) (v : Value) (t : BTreeMap (String Global) Value) → i < length vs → v ≡ get_or vs i v → v ≡ Table t
    → items_view (drop i vs) ≡ item (table (members_view t.entries)) (items_view (drop (i + 1) vs))
shape vs i v t within here is =
    items_view-drop vs i v within
    ∙ ap (λ d. item d (items_view (drop (i + 1) vs))) (ap view (sym here ∙ is) ∙ view-Table t)

-- its link is read, and the rest goes on from there
pub links_from-step : (nodes least spread : ℕ) (before after : List Link) (vs : List Value) (i : ℕ) (v : Value) (t : BTreeMap (String Global) Value)
    (link : Link)
    → i < length vs → v ≡ get_or vs i v → v ≡ Table t
    → Ok link ≡ link_in nodes least spread before (members_view t.entries) → after ≡ before ++ link ∷ []
    → links_from nodes least spread after (items_view (drop (i + 1) vs)) ≡ links_from nodes least spread before (items_view (drop i vs))
links_from-step nodes least spread before after vs i v t link within here is read pushed =
    let rest : Items = items_view (drop (i + 1) vs) in
    ap (λ b. links_from nodes least spread b rest) pushed
    ∙ ap (λ r. r >>= (λ l. links_from nodes least spread (before ++ l ∷ []) rest)) read
    ∙ sym (ap (links_from nodes least spread before) (shape vs i v t within here is))

-- a table without a link
pub links_from-wrong : (nodes least spread : ℕ) (before : List Link) (vs : List Value) (i : ℕ) (v : Value) (t : BTreeMap (String Global) Value)
    (e : ScenarioError)
    → i < length vs → v ≡ get_or vs i v → v ≡ Table t → Err e ≡ link_in nodes least spread before (members_view t.entries)
    → links_from nodes least spread before (items_view (drop i vs)) ≡ Err e
links_from-wrong nodes least spread before vs i v t e within here is read =
    let rest : Items = items_view (drop (i + 1) vs) in
    ap (links_from nodes least spread before) (shape vs i v t within here is)
    ∙ ap (λ r. r >>= (λ l. links_from nodes least spread (before ++ l ∷ []) rest)) (sym read)

-- an item that is no table
other-view : (nodes least spread : ℕ) (before : List Link) (ds : Items) (y : Value-F Value)
    → ((m : BTreeMap (String Global) Value) → y ≡ Value-F.Table m → ⊥)
    → links_from nodes least spread before (item (view_step (map-Value Value Data view y)) ds) ≡ Err (refusals.WrongKind keys.Links)
other-view nodes least spread before ds (Value-F.String s) h = refl
other-view nodes least spread before ds (Value-F.Integer z) h = refl
other-view nodes least spread before ds (Value-F.Float x) h = refl
other-view nodes least spread before ds (Value-F.Boolean b) h = refl
other-view nodes least spread before ds (Value-F.Datetime t) h = refl
other-view nodes least spread before ds (Value-F.Array v) h = refl
other-view nodes least spread before ds (Value-F.Table m) h = absurd (h m refl)

pub links_from-other : (nodes least spread : ℕ) (before : List Link) (vs : List Value) (i : ℕ) (v : Value)
    → i < length vs → v ≡ get_or vs i v → ((m : BTreeMap (String Global) Value) → v ≡ Table m → ⊥)
    → links_from nodes least spread before (items_view (drop i vs)) ≡ Err (refusals.WrongKind keys.Links)
links_from-other nodes least spread before vs i v within here other =
    let rest : Items = items_view (drop (i + 1) vs) in
    let seen : view v ≡ view_step (map-Value Value Data view (out-Value v)) = fold_out-Value Data view_step v in
    ap (links_from nodes least spread before) (items_view-drop vs i v within ∙ ap (λ d. item d rest) (ap view (sym here) ∙ seen))
    ∙ other-view nodes least spread before rest (out-Value v) (λ m is. other m (sym (roll-out-Value v) ∙ ap roll-Value is ∙ rolls-Table m))

-- after the last
pub links_from-last : (nodes least spread : ℕ) (before : List Link) (vs : List Value) (i : ℕ) → length vs ≤ i
    → links_from nodes least spread before (items_view (drop i vs)) ≡ Ok before
links_from-last nodes least spread before vs i far = ap (λ xs. links_from nodes least spread before (items_view xs)) (drop_all i vs far)

-- a link's own delay at its ends, and the one before elsewhere
chosen : (from to n m own old new : ℕ) → (n ≡ from → m ≡ to → new ≡ own) → ((n ≡ from → m ≡ to → ⊥) → new ≡ old)
    → cond ((from == n) && (to == m)) own old ≡ new
chosen from to n m own old new here others =
    elim (cases_eq from n) [
      | inr apart ↦ rw (ne_eqb from n apart) (sym (others (λ same _. apart (sym same))))
      | inl same ↦
          elim (cases_eq to m) [
            | inr apart ↦ rw (and_right (from == n) (to == m) (ne_eqb to m apart)) (sym (others (λ _ equal. apart (sym equal))))
            | inl equal ↦ rw (eq-eqb from n same, eq-eqb to m equal) (sym (here (sym same) (sym equal)))
          ]
    ]

-- one link more is put among the delays
pub given-step : (after : ℕ → Link → ℕ) (old new whole : ℕ) (links : List Link) (i : ℕ) (d : Link) → i < length links
    → after old (get_or links i d) ≡ new → fold after old (drop i links) ≡ whole → fold after new (drop (i + 1) links) ≡ whole
given-step after old new whole links i d within put same =
    ap (λ x. fold after x (drop (i + 1) links)) (sym put)
    ∙ sym (ap (fold after old) (drop_more links i d within))
    ∙ same

pub own_delay : (from to n m own old new : ℕ) (delay : ℕ → ℕ → ℕ) → delay n m ≡ new → delay from to ≡ own → ((n ≡ from → m ≡ to → ⊥) → new ≡ old)
    → cond ((from == n) && (to == m)) own old ≡ new
own_delay from to n m own old new delay is here others =
    chosen from to n m own old new (λ same equal. sym is ∙ ap (λ k. delay k m) same ∙ ap (delay from) equal ∙ here) others

-- a table of eight rows of eight, by its entries
pub table-by : (rows : List (List ℕ)) (entry : ℕ → ℕ → ℕ) → length rows ≡ 8 → ((n : ℕ) → n < 8 → length (get_or rows n []) ≡ 8)
    → ((n m : ℕ) → n < 8 → m < 8 → entry_at rows n m ≡ entry n m) → rows ≡ table_by entry
table-by rows entry eight long each =
    fill_by_all (λ n. map (entry n) (range_with_len 0 8)) rows 8 [] eight
    (λ n low. fill_by_all (entry n) (get_or rows n []) 8 0 (long n low) (λ m below. each n m low below))

-- an entry by its pair, and another elsewhere
entry-by : (nodes value other entry n m : ℕ) → (IsPair nodes n m → entry ≡ value) → (¬ IsPair nodes n m → entry ≡ other)
    → entry ≡ pair_entry nodes value other n m
entry-by nodes value other entry n m here elsewhere =
    elim (cases_eq n m) [
      | inl same ↦ rw (eq-eqb n m same) (elsewhere (λ pair. pair.apart same))
      | inr apart ↦
          elim (cases_Bool (nat_lt n nodes && nat_lt m nodes)) [
            | inl inside ↦
                let (low, high) = and_parts (nat_lt n nodes) (nat_lt m nodes) inside in
                rw (ne_eqb n m apart, inside) (here (record { sender = ltb-true n nodes low; receiver = ltb-true m nodes high; apart = apart }))
            | inr outside ↦
                rw (ne_eqb n m apart, outside)
                (elsewhere (λ pair. false≢true (sym outside ∙ and_from (nat_lt n nodes) (nat_lt m nodes) (lt-ltb n nodes pair.sender)
                (lt-ltb m nodes pair.receiver))))
          ]
    ]

-- the delays of all links, by those between nodes
pub links-by : (nodes least spread : ℕ) (given : List Link) (delays : Links) → nodes ≤ 8 → IsLinks nodes delays
    → length delays.least ≡ 8 → ((n : ℕ) → n < 8 → length (get_or delays.least n []) ≡ 8)
    → length delays.spread ≡ 8 → ((n : ℕ) → n < 8 → length (get_or delays.spread n []) ≡ 8)
    → ((n m : ℕ) → IsPair nodes n m → least_of delays n m ≡ least_given given least n m)
    → ((n m : ℕ) → IsPair nodes n m → spread_of delays n m ≡ spread_given given spread n m)
    → delays ≡ links_of nodes least spread given
links-by nodes least spread given delays few form rows entries more_rows more_entries at_least at_spread =
    let one : delays.least ≡ table_by (λ n m. pair_entry nodes (least_given given least n m) 1 n m) =
    table-by delays.least (λ n m. pair_entry nodes (least_given given least n m) 1 n m) rows entries
    (λ n m low high. entry-by nodes (least_given given least n m) 1 (least_of delays n m) n m (at_least n m) (form.least_elsewhere n m low high)) in
    let other : delays.spread ≡ table_by (λ n m. pair_entry nodes (spread_given given spread n m) 0 n m) =
    table-by delays.spread (λ n m. pair_entry nodes (spread_given given spread n m) 0 n m) more_rows more_entries
    (λ n m low high. entry-by nodes (spread_given given spread n m) 0 (spread_of delays n m) n m (at_spread n m) (form.spread_elsewhere n m low high)) in
    rw (one, other) refl
