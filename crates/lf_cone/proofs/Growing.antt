-- Reaches grow, as long as something within them rests on what is past them, to the least one that keeps to itself.
use Rattle.std.proofs.Common.{◌≡◌, ℕ, zero, suc, ◌+◌, ◌-◌, ◌<◌, ◌≤◌, List, [], ◌∷◌, length, get_or, replicate, refl, ◌∙◌, inl, inr, arith, subst}
use Rattle.std.proofs.Common.{max, add-one}
use Rattle.std.specs.Prelude.{◌⊎◌, slice_set, slice_index}
use Rattle.std.proofs.lemmas.Bool.{cases_lt, cases_eq}
use Rattle.std.proofs.lemmas.List.{get_or-set_other, get_or-set_same, length-replicate}
use Rattle.std.proofs.Math.ListN.{length-set}
use Rattle.lf_list.proofs.Laws.{Decided, decide_both, decide_le, decide_apart, decide_some_below}
use Rattle.lf_outcome.specs.declared.point.Point.{Point}
use Rattle.lf_outcome.specs.Reaches.{IsReachOf}
use Rattle.lf_cone.specs.Cones.{IsAtMost, IsCone}
use Rattle.lf_cone.specs.Sweeps.{IsRaised, SomeBelow, PointAt, AreInside, KeepsTo, IsLeastFrom, RestsByLeast}
use Rattle.lf_cone.proofs.Sweeping.{raised-none, raised-one}
use Rattle.lf_cone.proofs.Covering.{blank, point_in, covering_more, start-form}
use Rattle.lf_cone.proofs.Coning.{cone_is}

-- how many steps a reach leaves out
abbrev left : ℕ → List ℕ → ℕ
left horizon [] = 0
left horizon (t ∷ ts) = (horizon - t) + left horizon ts

less-left : (horizon k s : ℕ) (r : List ℕ) → k < length r → get_or r k 0 < s → s ≤ horizon → left horizon (slice_set r k s) < left horizon r
less-left horizon k s [] inside past last = absurd (omega (arith, inside))
less-left horizon zero s (t ∷ ts) inside past last = omega (arith, past, last)
less-left horizon (suc k) s (t ∷ ts) inside past last = omega (arith, less-left horizon k s ts (omega (arith, inside)) past last)

module _ (RestsOn : ℕ → ℕ → ℕ → ℕ → Type 0) (nodes horizon : ℕ) where
  -- something within the reach rests on n at t, past it
  pub record Lacks (reach : List ℕ) : Type 0 where
    pub n : ℕ
    pub t : ℕ
    pub m : ℕ
    pub v : ℕ
    pub node : n < nodes
    pub last : t ≤ horizon
    pub past : slice_index reach n < t
    pub near : v ≤ slice_index reach m
    pub rests : RestsOn n t m v

  -- no reach that keeps to itself and has the start in it is less
  abbrev IsLow : List ℕ → List ℕ → Type 0
  IsLow start reach = (other : List ℕ) → IsReachOf nodes horizon other → KeepsTo RestsOn other → IsAtMost start other → IsAtMost reach other

  module _ (search : (reach : List ℕ) → IsReachOf nodes horizon reach → KeepsTo RestsOn reach ⊎ Lacks reach) (start : List ℕ) where
    grown : (fuel : ℕ) (reach : List ℕ) → left horizon reach < fuel → IsReachOf nodes horizon reach → IsAtMost start reach → IsLow start reach
        → (r : List ℕ) × IsLeastFrom RestsOn nodes horizon start r
    grown zero reach few form covers low = absurd (omega (arith, few))
    grown (suc fuel) reach few form covers low = elim (search reach form) [
      | inl keeps ↦ (reach, record { form = form; keeps = keeps; covers = covers; smallest = low })
      | inr lacks ↦
          let inside : lacks.n < length reach = omega (arith, lacks.node, form.count) in
          let less = less-left horizon lacks.n lacks.t reach inside lacks.past lacks.last in
          let here = get_or-set_same reach lacks.n lacks.t 0 inside in
          let there : (k : ℕ) → (k ≡ lacks.n → ⊥) → get_or (slice_set reach lacks.n lacks.t) k 0 ≡ get_or reach k 0 =
          λ k e. get_or-set_other reach lacks.n k lacks.t 0 e in
          grown fuel (slice_set reach lacks.n lacks.t) (omega (arith, less, few))
          (record {
            count = length-set reach lacks.n lacks.t ∙ form.count;
            within = λ k. elim (cases_eq k lacks.n) [
              | inl same ↦ rw same (omega (arith, here, lacks.last))
              | inr other ↦ omega (arith, there k other, form.within k)
            ];
          })
          (λ k. elim (cases_eq k lacks.n) [
            | inl same ↦ rw same (omega (arith, here, lacks.past, covers lacks.n))
            | inr other ↦ omega (arith, there k other, covers k)
          ])
          (λ other is keeps above k. elim (cases_eq k lacks.n) [
            | inl same ↦
                let enough = keeps lacks.n lacks.t lacks.m lacks.v lacks.rests (omega (arith, lacks.near, low other is keeps above lacks.m)) in
                rw same (omega (arith, here, enough))
            | inr apart ↦ omega (arith, there k apart, low other is keeps above k)
          ])
    ]

    pub least_exists : IsReachOf nodes horizon start → (r : List ℕ) × IsLeastFrom RestsOn nodes horizon start r
    least_exists form = grown (suc (left horizon start)) start (omega arith) form (λ n. omega arith) (λ other is keeps above. above)

-- the least reach that covers points
raised_by_one : (points : List Point) (i : ℕ) (a b c : List ℕ) → IsRaised (SomeBelow (PointAt points) i) a b
    → IsRaised (λ n t. (n ≡ (get_or points i blank).node) × (t ≡ (get_or points i blank).step)) b c → IsRaised (SomeBelow (PointAt points) (suc i)) a c
raised_by_one points i a b c first second = subst (λ k. IsRaised (SomeBelow (PointAt points) k) a c) (add-one i) (covering_more points i a b c first second)

raised_to : (nodes last : ℕ) (points : List Point) → AreInside nodes last points → (i : ℕ) → i ≤ length points
    → (start : List ℕ) × IsRaised (SomeBelow (PointAt points) i) (replicate nodes 0) start
raised_to nodes last points inside zero few = (replicate nodes 0, raised-none (PointAt points) (replicate nodes 0))
raised_to nodes last points inside (suc i) few =
    let before = raised_to nodes last points inside i (omega (arith, few)) in
    let point = get_or points i blank in
    let at = inside point (point_in points i (omega (arith, few))) in
    let node : point.node < length before.0 = omega (arith, at.0, before.1.count, length-replicate {A = ℕ} nodes 0) in
    let after = slice_set before.0 point.node (max (get_or before.0 point.node 0) point.step) in
    (after, raised_by_one points i (replicate nodes 0) before.0 after before.1 (raised-one before.0 point.node point.step node))

pub covering_exists : (nodes last : ℕ) (points : List Point) → AreInside nodes last points
    → (start : List ℕ) × IsRaised (SomeBelow (PointAt points) (length points)) (replicate nodes 0) start
covering_exists nodes last points inside = raised_to nodes last points inside (length points) (omega arith)

-- by the least delays
module _ (nodes horizon : ℕ) (least : ℕ → ℕ → ℕ) where
  abbrev IsShort : List ℕ → ℕ → ℕ → ℕ → Type 0
  IsShort reach n t m = (n ≡ m → ⊥) × ((suc (slice_index reach n) ≤ t) × (t + least n m ≤ slice_index reach m))

  short_or_not : (reach : List ℕ) (n t m : ℕ) → Decided (IsShort reach n t m)
  short_or_not reach n t m =
      decide_both _ _ (decide_apart n m) (decide_both _ _ (decide_le (suc (slice_index reach n)) t) (decide_le (t + least n m) (slice_index reach m)))

  abbrev SomeShort : List ℕ → Type 0
  SomeShort reach = (n : ℕ) × (n < nodes) × ((t : ℕ) × (t < suc horizon) × ((m : ℕ) × (m < nodes) × IsShort reach n t m))

  some_short : (reach : List ℕ) → Decided (SomeShort reach)
  some_short reach = decide_some_below _ (λ n. decide_some_below _ (λ t. decide_some_below _ (short_or_not reach n t) nodes) (suc horizon)) nodes

  search_least : (reach : List ℕ) → IsReachOf nodes horizon reach
      → KeepsTo (RestsByLeast nodes least) reach ⊎ Lacks (RestsByLeast nodes least) nodes horizon reach
  search_least reach form = elim (some_short reach) [
    | inl found ↦ inr (record {
      n = found.0;
      t = found.2.0;
      m = found.2.2.0;
      v = found.2.0 + least found.0 found.2.2.0;
      node = found.1;
      last = omega (arith, found.2.1);
      past = found.2.2.2.1.0;
      near = found.2.2.2.1.1;
      rests = (found.1, found.2.2.1, found.2.2.2.0, refl);
    })
    | inr none ↦ inl (λ n t m v on near. elim (cases_lt (slice_index reach n) t) [
      | inr enough ↦ enough
      | inl past ↦ absurd (none (n, on.0, (t, omega (arith, on.3, near, form.within m), (m, on.1, (on.2, (past, omega (arith, on.3, near)))))))
    ])
  ]

  pub cone_exists : (points : List Point) → AreInside nodes horizon points → (reach : List ℕ) × IsCone nodes horizon least points reach
  cone_exists points inside =
      let start = covering_exists nodes horizon points inside in
      let form = start-form nodes horizon points start.0 start.1 inside in
      let found = least_exists (RestsByLeast nodes least) nodes horizon search_least start.0 form in
      (found.0, cone_is nodes horizon least points start.0 found.0 start.1 found.1)
