-- What every tree of marks is.
use Rattle.std.proofs.Common.{◌≡◌, ℕ, suc, ◌+◌, ◌<◌, ◌≤◌, refl, sym, ap, ◌∙◌, arith, cond, Option, Some, None, List, [], ◌∷◌, length, true, false, nat_lt, inl}
use Rattle.std.proofs.Common.{inr, IsSome, is_some}
use Rattle.std.proofs.lemmas.Bool.{cases_lt}
use Rattle.std.proofs.lemmas.List.{same_from_push, length_push}
use Rattle.lf_marks.specs.Steps.{Mark, Marking, kid_of, kids_beneath, IsAnswer, IsShape}
use Rattle.lf_marks.specs.Steps as mark
use Rattle.lf_marks.specs.declared.claim.Claim.{Claim}
use Rattle.lf_marks.specs.Walks.{Spot, led_from, marked_from, untaken, width, width_of, is_set, is_waiting, is_answer, IsArena, AreListed}
use Rattle.lf_marks.proofs.WalkLemmas.{lt-is, lt-not, led-taken, marked-taken, marked-past, marked-led, marked-append, led-one, led-within, led-depth, last-of}
use Rattle.lf_marks.proofs.WalkLemmas.{IsLast}
use Rattle.lf_marks.proofs.ListedLemmas.{one-claim}

-- a set stands at a place, or it is a kid that nobody has taken
pub data Stands (look : ℕ → Spot) (start x : ℕ) (path : List ℕ) (m : Mark) : Type 0 where
  placed : (y : ℕ) → led_from look x path ≡ Some y → (look y).mark ≡ Some m → Stands look start x path m
  opened : (front : List ℕ) (i y : ℕ) → path ≡ kid_of front i → led_from look x front ≡ Some y → (look y).taken ≤ i → i < width (look y)
      → y < start → m ≡ mark.Open → Stands look start x path m
  waits : (front : List ℕ) (i y : ℕ) → path ≡ kid_of front i → led_from look x front ≡ Some y → (look y).taken ≤ i → i < width (look y)
      → start ≤ y → m ≡ mark.Waiting → Stands look start x path m

deeper : (look : ℕ → Spot) (start x i : ℕ) (path : List ℕ) (m : Mark) → i < (look x).taken → Stands look start ((look x).first + i) path m
    → Stands look start x (i ∷ path) m
deeper look start x i path m few (placed y led is) = placed y (led-taken look x i path few ∙ led) is
deeper look start x i path m few (opened front j y whole led far more high is) =
    opened (i ∷ front) j y (ap (λ (r : List ℕ). i ∷ r) whole) (led-taken look x i front few ∙ led) far more high is
deeper look start x i path m few (waits front j y whole led far more low is) =
    waits (i ∷ front) j y (ap (λ (r : List ℕ). i ∷ r) whole) (led-taken look x i front few ∙ led) far more low is

pub stands : (look : ℕ → Spot) (start x : ℕ) (path : List ℕ) (m : Mark) → marked_from look start x path ≡ Some m → Stands look start x path m
stands look start x [] m h = placed x refl h
stands look start x (i ∷ path) m h = elim (cases_lt i (look x).taken) [
  | inl few ↦ deeper look start x i path m few (stands look start ((look x).first + i) path m (sym (marked-taken look start x i path few) ∙ h))
  | inr far ↦ beneath path far (sym (marked-past look start x i path far) ∙ h)
]
  where
    beneath : (r : List ℕ) → (look x).taken ≤ i → untaken (nat_lt x start) (nat_lt i (width (look x))) r ≡ Some m → Stands look start x (i ∷ r) m
    beneath (j ∷ r) far e = let no : None ≡ Some m = e in absurd cc
    beneath [] far e = elim (cases_lt i (width (look x))) [
      | inr none ↦ let no : None ≡ Some m = sym (ap (λ c. untaken (nat_lt x start) c []) (lt-not _ _ none)) ∙ e in absurd cc
      | inl more ↦
          let some = sym (ap (λ c. untaken (nat_lt x start) c []) (lt-is _ _ more)) ∙ e in
          elim (cases_lt x start) [
            | inl high ↦ let is : Some mark.Open ≡ Some m = sym (ap (λ c. untaken c true []) (lt-is _ _ high)) ∙ some in
                opened [] i x refl refl far more high cc
            | inr low ↦ let is : Some mark.Waiting ≡ Some m = sym (ap (λ c. untaken c true []) (lt-not _ _ low)) ∙ some in
                waits [] i x refl refl far more low cc
          ]
    ]

set_some : (o : Option Mark) → is_set o ≡ true → (m : Mark) × (o ≡ Some m)
set_some None h = absurd cc
set_some (Some m) h = (m, refl)

some_set : (o : Option Mark) → IsSome o → (m : Mark) × (o ≡ Some m)
some_set None h = absurd cc
some_set (Some m) h = (m, refl)

is_some_of : (o : Option Mark) (m : Mark) → o ≡ Some m → IsSome o
is_some_of o m h = ap is_some h

answer_of : (m : Mark) → is_answer (Some m) ≡ true → IsAnswer m
answer_of mark.Waiting h = absurd cc
answer_of mark.Open h = absurd cc
answer_of (mark.Claimed t) h = absurd cc
answer_of mark.Misses h = tt
answer_of mark.Reaches h = tt
answer_of (mark.Branch reach edges) h = tt

module _ (level start n : ℕ) (look : ℕ → Spot) (arena : IsArena level start n look) where
  within : (path : List ℕ) (y : ℕ) → led_from look 0 path ≡ Some y → y < n
  within path y led = led-within level start n look arena 0 path y arena.some led

  deep_at : (path : List ℕ) (y : ℕ) → led_from look 0 path ≡ Some y → (look y).depth ≡ length path
  deep_at path y led = omega (arith, led-depth level start n look arena 0 path y led, arena.root)

  shallow : (path : List ℕ) (y : ℕ) → led_from look 0 path ≡ Some y → length path ≤ level
  shallow path y led = elim (cases_lt y start) [
    | inl high ↦ omega (arith, arena.over y high, deep_at path y led)
    | inr low ↦ omega (arith, arena.on y low (within path y led), deep_at path y led)
  ]

  -- the kids of a set at a place
  pub kid-stands : (p : List ℕ) (y i : ℕ) → led_from look 0 p ≡ Some y → i < width (look y) → IsSome (marked_from look start 0 (kid_of p i))
  kid-stands p y i led few =
      let a = marked-append look start 0 p (i ∷ []) y led in
      elim (cases_lt i (look y).taken) [
        | inl taken ↦
            let m = set_some (look ((look y).first + i)).mark (arena.within _ (arena.down y i taken).within) in
            is_some_of _ m.0 (a ∙ marked-taken look start y i [] taken ∙ m.1)
        | inr far ↦
            is_some_of _ (cond (nat_lt y start) mark.Open mark.Waiting) (a ∙ marked-past look start y i [] far
            ∙ ap (λ c. untaken (nat_lt y start) c []) (lt-is _ _ few))
      ]

  kids_of : (p : List ℕ) (m : Mark) (i : ℕ) → Stands look start 0 p m → i < kids_beneath m → IsSome (marked_from look start 0 (kid_of p i))
  kids_of p m i (placed y led is) few = kid-stands p y i led (omega (arith, few, ap width_of is))
  kids_of p m i (opened front j y whole led far more high is) few = absurd (omega (arith, few, ap kids_beneath is))
  kids_of p m i (waits front j y whole led far more low is) few = absurd (omega (arith, few, ap kids_beneath is))

  parent_at : (front p : List ℕ) (j i y : ℕ) → kid_of front j ≡ kid_of p i → led_from look 0 front ≡ Some y → j < width (look y)
      → (m : Mark) × (marked_from look start 0 p ≡ Some m) × (i < kids_beneath m)
  parent_at front p j i y whole led few =
      let e = same_from_push front p j i whole in
      let led' = ap (led_from look 0) (sym e.0) ∙ led in
      let m = set_some (look y).mark (arena.within y (within p y led')) in
      (m.0, marked-led look start 0 p y led' ∙ m.1, omega (arith, few, e.1, ap width_of m.1))

  parents_of : (p : List ℕ) (i : ℕ) (k : Mark) → Stands look start 0 (kid_of p i) k
      → (m : Mark) × (marked_from look start 0 p ≡ Some m) × (i < kids_beneath m)
  parents_of p i k (opened front j y whole led far more high is) = parent_at front p j i y (sym whole) led more
  parents_of p i k (waits front j y whole led far more low is) = parent_at front p j i y (sym whole) led more
  parents_of p i k (placed y led is) =
      let l = last_step (kid_of p i) (omega (arith, length_push p i)) led in
      parent_at l.front p l.kid i l.by (sym l.whole) l.led (omega (arith, l.few, arena.narrow l.by))
    where
      last_step : (q : List ℕ) → 0 < length q → led_from look 0 q ≡ Some y → IsLast look 0 q y
      last_step [] h e = absurd (omega (arith, h))
      last_step (j ∷ q) h e = last-of look 0 j q y e

  deep_of : (p : List ℕ) (m : Mark) → Stands look start 0 p m → length p ≤ level + 1
  deep_of p m (placed y led is) = omega (arith, shallow p y led)
  deep_of p m (opened front j y whole led far more high is) = omega (arith, shallow front y led, ap (λ (r : List ℕ). length r) whole, length_push front j)
  deep_of p m (waits front j y whole led far more low is) = omega (arith, shallow front y led, ap (λ (r : List ℕ). length r) whole, length_push front j)

  waits_of : (p : List ℕ) (m : Mark) → length p ≡ level + 1 → Stands look start 0 p m → m ≡ mark.Waiting
  waits_of p m deep (placed y led is) = let never : ⊥ = omega (arith, shallow p y led, deep) in absurd never
  waits_of p m deep (opened front j y whole led far more high is) =
      let never : ⊥ = omega (arith, deep_at front y led, arena.over y high, deep, ap (λ (r : List ℕ). length r) whole, length_push front j) in absurd never
  waits_of p m deep (waits front j y whole led far more low is) = is

  waiting_of : (p : List ℕ) (m : Mark) → m ≡ mark.Waiting → Stands look start 0 p m → length p ≡ level + 1
  waiting_of p m w (placed y led is) =
      let no : true ≡ false = ap (λ k. is_waiting (Some k)) (sym w) ∙ ap is_waiting (sym is) ∙ arena.known y in absurd cc
  waiting_of p m w (opened front j y whole led far more high is) = let no : mark.Open ≡ mark.Waiting = sym is ∙ w in absurd cc
  waiting_of p m w (waits front j y whole led far more low is) =
      omega (arith, deep_at front y led, arena.on y low (within front y led), ap (λ (r : List ℕ). length r) whole, length_push front j)

  above_of : (p : List ℕ) (m : Mark) → length p < level → Stands look start 0 p m → IsAnswer m
  above_of p m high (placed y led is) = elim (cases_lt y start) [
    | inl h ↦ answer_of m (ap is_answer (sym is) ∙ arena.above y h)
    | inr low ↦ let never : ⊥ = omega (arith, deep_at p y led, arena.on y low (within p y led), high) in absurd never
  ]
  above_of p m high (opened front j y whole led far more h is) =
      let never : ⊥ = omega (
        arith,
        deep_at front y led,
        arena.last y h (omega (arith, far, more)),
        high,
        ap (λ (r : List ℕ). length r) whole,
        length_push front j,
      ) in absurd never
  above_of p m high (waits front j y whole led far more low is) =
      let never : ⊥ = omega (
        arith,
        deep_at front y led,
        arena.on y low (within front y led),
        high,
        ap (λ (r : List ℕ). length r) whole,
        length_push front j,
      ) in absurd never

  -- where a claimed set stands
  pub claimed-place : (t : ℕ) (p : List ℕ) (m : Mark) → m ≡ mark.Claimed t → Stands look start 0 p m
      → (y : ℕ) × (led_from look 0 p ≡ Some y) × ((look y).mark ≡ Some (mark.Claimed t))
  claimed-place t p m c (placed y led is) = (y, led, is ∙ ap (λ k. Some k) c)
  claimed-place t p m c (opened front j y whole led far more high is) = let no : mark.Open ≡ mark.Claimed t = sym is ∙ c in absurd cc
  claimed-place t p m c (waits front j y whole led far more low is) = let no : mark.Waiting ≡ mark.Claimed t = sym is ∙ c in absurd cc

  pub claimed-led : (t : ℕ) (p : List ℕ) → marked_from look start 0 p ≡ Some (mark.Claimed t)
      → (y : ℕ) × (led_from look 0 p ≡ Some y) × ((look y).mark ≡ Some (mark.Claimed t))
  claimed-led t p h = claimed-place t p (mark.Claimed t) refl (stands look start 0 p (mark.Claimed t) h)

  -- no kid stands beneath what is no branch
  pub bare : (p : List ℕ) (y i : ℕ) → led_from look 0 p ≡ Some y → width (look y) ≡ 0 → marked_from look start 0 (kid_of p i) ≡ None
  bare p y i led leaf =
      marked-append look start 0 p (i ∷ []) y led ∙ marked-past look start y i [] (omega (arith, leaf, arena.narrow y))
      ∙ ap (λ c. untaken (nat_lt y start) c []) (lt-not _ _ (omega (arith, leaf)))

  pub shape-is : (queue next back : List ℕ) (claims : List Claim) → AreListed start n look queue next back claims
      → IsShape level (marked_from look start 0)
  shape-is queue next back claims l = record {
    root = let m = set_some (look 0).mark (arena.within 0 arena.some) in is_some_of (look 0).mark m.0 m.1;
    kids = λ p m i h few. kids_of p m i (stands look start 0 p m h) few;
    parents = λ p i h. let k = some_set (marked_from look start 0 (kid_of p i)) h in parents_of p i k.0 (stands look start 0 (kid_of p i) k.0 k.1);
    deep = λ p h. let k = some_set (marked_from look start 0 p) h in deep_of p k.0 (stands look start 0 p k.0 k.1);
    waits = λ p h deep. let k = some_set (marked_from look start 0 p) h in k.1 ∙ ap (λ z. Some z) (waits_of p k.0 deep (stands look start 0 p k.0 k.1));
    waiting = λ p h. waiting_of p mark.Waiting refl (stands look start 0 p mark.Waiting h);
    above = λ p m h high. above_of p m high (stands look start 0 p m h);
    tickets = λ p q t h k.
        let a = claimed-led t p h in
        let b = claimed-led t q k in
        let same = one-claim start n look queue next back claims t b.0 a.0 l b.2 a.2 in
        led-one level start n look arena (suc a.0) a.0 p q (omega arith) a.1 (b.1 ∙ ap (λ (z : ℕ). Some z) same);
  }
