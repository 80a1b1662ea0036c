-- The votes of a list.
use Rattle.std.proofs.Common.{◌≡◌, ℕ, zero, suc, ◌+◌, ◌-◌, ◌<◌, ◌≤◌, Bool, true, false, ◌==◌, Ok, Err}
use Rattle.std.proofs.Common.{List, [], ◌∷◌, length, drop, get_or, map, zero-add, refl, sym, ap, ◌∙◌, subst, arith}
use Rattle.std.specs.Prelude.{All, IsTrue}
use Rattle.std.specs.List.{AllByRecursion, range_with_len}
use Rattle.std.proofs.lemmas.List.Elements.{All-from_recursion}
use Rattle.std.proofs.lemmas.Bool.{eq-eqb, ltb-false, ltb-true, ne_eqb}
use Rattle.std.proofs.Math.Dec.{ltb}
use Rattle.toml.specs.Data.{Data, array, Items, no_items, item}
use Rattle.toml.specs.View.{view, items_view}
use Rattle.toml.specs.declared.value.Value.{Value}
use Rattle.lf_scenario.specs.Votes.{all_agree, all_booleans, count_items, item_vote, vote_in, vote_of, votes_in, votes_of}
use Rattle.lf_scenario.specs.Ranges.{AreVotes}
use Rattle.lf_scenario.specs.declared.key.Key.{Key}
use Rattle.lf_scenario.specs.declared.error.ScenarioError.TheVariants as refusals

pub count-length : (vs : List Value) → count_items (items_view vs) ≡ length vs
count-length [] = refl
count-length (v ∷ vs) = let rest = count-length vs in omega (arith, rest)

-- past the items each vote is true
pub past : (ds : Items) (k : ℕ) → count_items ds ≤ k → item_vote ds k ≡ true
past no_items k h = refl
past (item d ds) zero h = absurd (omega (arith, h))
past (item d ds) (suc k) h = past ds k (omega (arith, h))

-- no other node says no
later : (f : ℕ → Bool) (n a : ℕ) → ((k : ℕ) → a ≤ k → f k ≡ true) → AllByRecursion IsTrue (map f (range_with_len a n))
later f zero a h = tt
later f (suc n) a h = (h a (omega arith), later f n (a + 1) (λ k low. h k (omega (arith, low))))

drop-map : (f : ℕ → Bool) (j a n : ℕ) → drop j (map f (range_with_len a (j + n))) ≡ map f (range_with_len (a + j) n)
drop-map f zero a n =
    let same : a ≡ a + 0 = omega arith in
    ap (λ m. map f (range_with_len a m)) (zero-add n) ∙ ap (λ m. map f (range_with_len m n)) same
drop-map f (suc j) a n =
    let more : suc j + n ≡ suc (j + n) = omega arith in
    let from : a + 1 + j ≡ a + suc j = omega arith in
    ap (λ m. drop (suc j) (map f (range_with_len a m))) more ∙ drop-map f j (a + 1) n ∙ ap (λ m. map f (range_with_len m n)) from

-- where no node from one on says no
silent_from : (ds : Items) (nodes : ℕ) → nodes ≤ 8 → ((k : ℕ) → nodes ≤ k → vote_of ds k ≡ true) → All IsTrue (drop nodes (votes_of ds))
silent_from ds nodes few agree =
    let eight : nodes + (8 - nodes) ≡ 8 = omega (arith, few) in
    let rest : drop nodes (map (vote_of ds) (range_with_len 0 (nodes + (8 - nodes)))) ≡ map (vote_of ds) (range_with_len (0 + nodes) (8 - nodes)) =
    drop-map (vote_of ds) nodes 0 (8 - nodes) in
    let here : drop nodes (votes_of ds) ≡ map (vote_of ds) (range_with_len (0 + nodes) (8 - nodes)) =
    subst (λ m. drop nodes (map (vote_of ds) (range_with_len 0 m)) ≡ map (vote_of ds) (range_with_len (0 + nodes) (8 - nodes))) eight rest in
    subst (All IsTrue) (sym here)
    (All-from_recursion IsTrue (map (vote_of ds) (range_with_len (0 + nodes) (8 - nodes)))
    (later (vote_of ds) (8 - nodes) (0 + nodes) (λ k low. agree k (omega (arith, low)))))

none_given : (nodes k : ℕ) → nodes ≤ k → vote_of no_items k ≡ true
none_given nodes zero high = refl
none_given nodes (suc k) high = refl

-- where no votes are given
pub agreed : (nodes : ℕ) → 2 ≤ nodes → nodes ≤ 8 → AreVotes nodes all_agree
agreed nodes some few patience positive short = (some, few, positive, short, (refl, silent_from no_items nodes few (none_given nodes)))

-- the item at a place
pub item_vote-at : (vs : List Value) (k : ℕ) (v : Value) → k < length vs → v ≡ get_or vs k v → item_vote (items_view vs) k ≡ vote_in (view v)
item_vote-at [] k v below here = absurd (omega (arith, below))
item_vote-at (w ∷ vs) zero v below here = ap (λ x. vote_in (view x)) (sym here)
item_vote-at (w ∷ vs) (suc k) v below here = item_vote-at vs k v (omega (arith, below)) here

-- a list with one item for each node but node 0
module _ (vs : List Value) (nodes : ℕ) (some : 2 ≤ nodes) (few : nodes ≤ 8) (counted : length vs + 1 ≡ nodes) where
  agrees : (k : ℕ) → nodes ≤ k → vote_of (items_view vs) k ≡ true
  agrees zero high = refl
  agrees (suc k) high = past (items_view vs) k (omega (arith, count-length vs, counted, high))

  silent : All IsTrue (drop nodes (votes_of (items_view vs)))
  silent = silent_from (items_view vs) nodes few agrees

  pub are_votes : AreVotes nodes (votes_of (items_view vs))
  are_votes patience positive short = (some, few, positive, short, (refl, silent))

  pub counts : (count_items (items_view vs) + 1 == nodes) ≡ true
  counts = eq-eqb (count_items (items_view vs) + 1) nodes (omega (arith, count-length vs, counted))

pub counts_not : (vs : List Value) (nodes : ℕ) → (length vs + 1 ≡ nodes → ⊥) → (count_items (items_view vs) + 1 == nodes) ≡ false
counts_not vs nodes other = ne_eqb (count_items (items_view vs) + 1) nodes (λ same. other (ap (λ n. n + 1) (sym (count-length vs)) ∙ same))

-- what is read of a list of truth values
module _ (nodes : ℕ) (key : Key) (d : Data) (vs : List Value) (is : d ≡ array (items_view vs)) (booleans : all_booleans (items_view vs) ≡ true) where
  pub votes_in-right : (count_items (items_view vs) + 1 == nodes) ≡ true → Ok (votes_of (items_view vs)) ≡ votes_in nodes key d
  votes_in-right counted = rw (is, booleans, counted) refl

  pub votes_in-wrong : (count_items (items_view vs) + 1 == nodes) ≡ false → Err (refusals.OutOfRange key) ≡ votes_in nodes key d
  votes_in-wrong counted = rw (is, booleans, counted) refl

-- a look at a place
pub item_vote-seen : (vs ws : List Value) (k : ℕ) (v : Value) → ws ≡ vs → true ≡ ltb k (length ws) → v ≡ get_or ws k v → vote_in
    (view v) ≡ item_vote (items_view vs) k
item_vote-seen vs ws k v same within here =
    subst (λ xs. vote_in (view v) ≡ item_vote (items_view xs) k) same (sym (item_vote-at ws k v (ltb-true k (length ws) (sym within)) here))

pub item_vote-past : (vs ws : List Value) (k : ℕ) → ws ≡ vs → false ≡ ltb k (length ws) → true ≡ item_vote (items_view vs) k
item_vote-past vs ws k same beyond =
    subst (λ xs. true ≡ item_vote (items_view xs) k) same
    (sym (past (items_view ws) k (omega (arith, count-length ws, ltb-false k (length ws) (sym beyond)))))
