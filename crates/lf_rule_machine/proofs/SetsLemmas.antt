-- Sets of nodes, bit by bit.
use Rattle.std.proofs.Common.{◌≡◌, ℕ, zero, suc, ◌+◌, ◌-◌, ◌*◌, ◌/◌, ◌^◌, ◌<◌, ◌≤◌, Bool, true, false, not, ◌&&◌, ◌||◌}
use Rattle.std.proofs.Common.{nat_eq, nat_le, min, max, refl, sym, ap, ◌∙◌, subst, arith, inl, inr, eq-eqb, add-one}
use Rattle.std.specs.Prelude.{nat_lt, bit_and, bit_or}
use Rattle.std.specs.Int.{bit_at, w64, bit_not}
use Rattle.std.proofs.lemmas.Bool.{cases_eq, cases_lt, lt-ltb, le-ltb, le-leb, ltb-true, ltb-false, leb-true, eqb-true, and_parts, and_from, not-true}
use Rattle.std.proofs.lemmas.Nat.{pow_pos, and_le_r}
use Rattle.std.proofs.Math.Nat.{pow-suc, pow-le-pow_right}
use Rattle.std.proofs.lemmas.Nat.Bits.{bit_at_and, bit_at_or, bit_at_ones, bit_at_ones_above, bit_at_not, same_from_bits_below}
use Rattle.std.proofs.lemmas.Nat.Bits.{bit_at-lt, bit_at_cat_low, bit_at_cat_high, shr_and_one}
use Rattle.lf_rule_machine.specs.Sets.{truth, has, those_below, those, nodes_in, either, both, without}
use Rattle.lf_rule_machine.specs.Sets.{below, between, only, count_below, first_from, last_below}

-- a truth value is a bit
truth-lt : (b : Bool) → truth b < 2
truth-lt true = omega arith
truth-lt false = omega arith

truth-eqb : (b : Bool) → nat_eq (truth b) 1 ≡ b
truth-eqb true = refl
truth-eqb false = refl

bit-truth : (v : ℕ) → v < 2 → v ≡ truth (nat_eq v 1)
bit-truth zero h = refl
bit-truth (suc zero) h = refl
bit-truth (suc (suc v)) h = absurd (omega arith)

-- a set that is given by what is so of its nodes has so many bits, and these
bound-step : (b : Bool) (p r : ℕ) → r < p → truth b * p + r < p * 2
bound-step true p r h = omega arith
bound-step false p r h = omega arith

pub those-lt : (k : ℕ) (f : ℕ → Bool) → those_below k f < 2 ^ k
unfolding those_below
those-lt zero f = omega arith
those-lt (suc k) f =
    let step = bound-step (f k) (2 ^ k) (those_below k f) (those-lt k f) in
    let e : 2 ^ suc k ≡ 2 ^ k * 2 = pow-suc 2 k in
    subst (λ m. truth (f k) * 2 ^ k + those_below k f < m) (sym e) step

pub those-bit : (k : ℕ) (f : ℕ → Bool) (i : ℕ) → i < k → bit_at (those_below k f) i ≡ truth (f i)
unfolding those_below
those-bit zero f i h = absurd (omega arith)
those-bit (suc k) f i h = elim (cases_eq i k) [
  | inl same ↦
      let nought : i - k ≡ 0 = omega arith in
      let reach : k ≤ i = omega arith in
      bit_at_cat_high (truth (f k)) k (those_below k f) i (those-lt k f) reach
      ∙ ap (bit_at (truth (f k))) nought ∙ truth-bit (f k) ∙ ap (λ n. truth (f n)) (sym same)
  | inr other ↦
      let low : i < k = omega (arith, other) in
      bit_at_cat_low (truth (f k)) k (those_below k f) i low ∙ those-bit k f i low
]
  where
    truth-bit : (b : Bool) → bit_at (truth b) 0 ≡ truth b
    truth-bit true = refl
    truth-bit false = refl

-- the bits of a set are its nodes
pub bit-has : (set n : ℕ) → n < 8 → bit_at set n ≡ truth (has set n)
unfolding has
bit-has set n h = rw (lt-ltb n 8 h) (bit-truth (bit_at set n) (bit_at-lt set n))

pub has-bit : (set n : ℕ) (b : Bool) → n < 8 → bit_at set n ≡ truth b → has set n ≡ b
unfolding has
has-bit set n b h e = rw (lt-ltb n 8 h) (ap (λ v. nat_eq v 1) e ∙ truth-eqb b)

pub has-far : (set n : ℕ) → 8 ≤ n → has set n ≡ false
unfolding has
has-far set n h = rw (le-ltb n 8 h) refl

pub has-those : (f : ℕ → Bool) (n : ℕ) → n < 8 → has (those f) n ≡ f n
has-those f n h = has-bit (those f) n (f n) h (those-bit 8 f n h)

-- a number below 256 with these bits is this set
pub is-those : (x : ℕ) (f : ℕ → Bool) → x < 256 → ((n : ℕ) → n < 8 → bit_at x n ≡ truth (f n)) → x ≡ those f
is-those x f small bits =
    same_from_bits_below 8 x (those f) small (those-lt 8 f) (λ n h. bits n h ∙ sym (those-bit 8 f n h))

pub those-same : (k : ℕ) (f g : ℕ → Bool) → ((n : ℕ) → n < k → f n ≡ g n) → those_below k f ≡ those_below k g
unfolding those_below
those-same zero f g h = refl
those-same (suc k) f g h =
    let last : f k ≡ g k = h k (omega arith) in
    let rest : those_below k f ≡ those_below k g = those-same k f g (λ n few. h n (omega arith)) in
    ap (λ b. truth b * 2 ^ k + those_below k f) last ∙ ap (λ r. truth (g k) * 2 ^ k + r) rest

pub those-small : (f : ℕ → Bool) → those f ≤ 255
those-small f = let h : those f < 256 = those-lt 8 f in omega arith

-- what the code computes bit by bit
mask : (n : ℕ) → n < 8 → bit_at 255 n ≡ 1
mask n h = bit_at_ones 8 n h

either-bits : (p q : Bool) → min (max (truth p) (truth q)) 1 ≡ truth (p || q)
either-bits true true = refl
either-bits true false = refl
either-bits false true = refl
either-bits false false = refl

both-bits : (p q : Bool) → min (min (truth p) (truth q)) 1 ≡ truth (p && q)
both-bits true true = refl
both-bits true false = refl
both-bits false true = refl
both-bits false false = refl

without-bits : (p q : Bool) → min (min (truth p) (1 - truth q)) 1 ≡ truth (p && not q)
without-bits true true = refl
without-bits true false = refl
without-bits false true = refl
without-bits false false = refl

masked-lt : (x : ℕ) → bit_and x 255 < 256
masked-lt x = omega (arith, and_le_r x 255)

pub nodes_in-is : (v : ℕ) → bit_and v 255 ≡ nodes_in v
nodes_in-is v = is-those (bit_and v 255) (has v) (masked-lt v) (λ n h.
    bit_at_and v 255 n ∙ ap (min (bit_at v n)) (mask n h) ∙ ap (λ b. min b 1) (bit-has v n h) ∙ one-bit (has v n))
  where
    one-bit : (p : Bool) → min (truth p) 1 ≡ truth p
    one-bit true = refl
    one-bit false = refl

pub either-is : (s g : ℕ) → bit_and (bit_or s g) 255 ≡ either s g
either-is s g = is-those (bit_and (bit_or s g) 255) (λ n. has s n || has g n) (masked-lt (bit_or s g)) (λ n h.
    bit_at_and (bit_or s g) 255 n
    ∙ ap (λ v. min v (bit_at 255 n)) (bit_at_or s g n)
    ∙ ap (min (max (bit_at s n) (bit_at g n))) (mask n h)
    ∙ ap (λ v. min (max v (bit_at g n)) 1) (bit-has s n h)
    ∙ ap (λ v. min (max (truth (has s n)) v) 1) (bit-has g n h)
    ∙ either-bits (has s n) (has g n))

pub both-is : (s g : ℕ) → bit_and (bit_and s g) 255 ≡ both s g
both-is s g = is-those (bit_and (bit_and s g) 255) (λ n. has s n && has g n) (masked-lt (bit_and s g)) (λ n h.
    bit_at_and (bit_and s g) 255 n
    ∙ ap (λ v. min v (bit_at 255 n)) (bit_at_and s g n)
    ∙ ap (min (min (bit_at s n) (bit_at g n))) (mask n h)
    ∙ ap (λ v. min (min v (bit_at g n)) 1) (bit-has s n h)
    ∙ ap (λ v. min (min (truth (has s n)) v) 1) (bit-has g n h)
    ∙ both-bits (has s n) (has g n))

pub without-is : (s g : ℕ) → g < 2 ^ 64 → bit_and (bit_and s (bit_not w64 g)) 255 ≡ without s g
without-is s g fits = is-those (bit_and (bit_and s (bit_not w64 g)) 255) (λ n. has s n && not (has g n)) (masked-lt (bit_and s (bit_not w64 g))) (λ n h.
    let wide : n < 64 = omega arith in
    bit_at_and (bit_and s (bit_not w64 g)) 255 n
    ∙ ap (λ v. min v (bit_at 255 n)) (bit_at_and s (bit_not w64 g) n)
    ∙ ap (min (min (bit_at s n) (bit_at (bit_not w64 g) n))) (mask n h)
    ∙ ap (λ v. min (min (bit_at s n) v) 1) (bit_at_not w64 g n fits wide)
    ∙ ap (λ v. min (min v (1 - bit_at g n)) 1) (bit-has s n h)
    ∙ ap (λ v. min (min (truth (has s n)) (1 - v)) 1) (bit-has g n h)
    ∙ without-bits (has s n) (has g n))

-- those below a number
pow-small : (c : ℕ) → c ≤ 8 → 2 ^ c - 1 < 256
pow-small c h = let e : 2 ^ c ≤ 2 ^ 8 = pow-le-pow_right {n = 2} (omega arith) h in omega (arith, pow_pos c)

pub below-is : (m : ℕ) → 2 ^ min m 8 - 1 ≡ below m
below-is m = is-those (2 ^ min m 8 - 1) (λ n. nat_lt n m) (pow-small (min m 8) (omega arith)) (λ n h. elim (cases_lt n m) [
  | inl low ↦ let in_c : n < min m 8 = omega arith in bit_at_ones (min m 8) n in_c ∙ ap truth (sym (lt-ltb n m low))
  | inr far ↦ let past : min m 8 ≤ n = omega arith in bit_at_ones_above (min m 8) n past ∙ ap truth (sym (le-ltb n m far))
])

-- those from a to b
both-same : (x y : Bool) → (x ≡ true → y ≡ true) → (y ≡ true → x ≡ true) → x ≡ y
both-same true y f g = sym (f refl)
both-same false true f g = g refl
both-same false false f g = refl

between-test : (nodes a b n : ℕ) → n < 8 → (nat_lt n (min (min b 8 + 1) nodes) && not (nat_lt n a)) ≡ (nat_le a n && (nat_le n b && nat_lt n nodes))
between-test nodes a b n h = both-same _ _
    (λ e.
    let p = and_parts (nat_lt n (min (min b 8 + 1) nodes)) (not (nat_lt n a)) e in
    let end : n < min (min b 8 + 1) nodes = ltb-true n (min (min b 8 + 1) nodes) p.0 in
    let start : a ≤ n = ltb-false n a (not-true (nat_lt n a) p.1) in
    and_from (nat_le a n) (nat_le n b && nat_lt n nodes) (le-leb a n start)
    (and_from (nat_le n b) (nat_lt n nodes) (le-leb n b (omega arith)) (lt-ltb n nodes (omega arith))))
    (λ e.
    let p = and_parts (nat_le a n) (nat_le n b && nat_lt n nodes) e in
    let q = and_parts (nat_le n b) (nat_lt n nodes) p.1 in
    let start : a ≤ n = leb-true a n p.0 in
    let last : n ≤ b = leb-true n b q.0 in
    let few : n < nodes = ltb-true n nodes q.1 in
    and_from (nat_lt n (min (min b 8 + 1) nodes)) (not (nat_lt n a)) (lt-ltb n (min (min b 8 + 1) nodes) (omega arith))
    (ap not (le-ltb n a start)))

pub between-is : (nodes a b : ℕ) → without (below (min (min b 8 + 1) nodes)) (below a) ≡ between nodes a b
between-is nodes a b =
    those-same 8 (λ n. has (below (min (min b 8 + 1) nodes)) n && not (has (below a) n)) (λ n. nat_le a n && (nat_le n b && nat_lt n nodes)) (λ n h.
    ap (λ p. p && not (has (below a) n)) (has-those (λ m. nat_lt m (min (min b 8 + 1) nodes)) n h)
    ∙ ap (λ q. nat_lt n (min (min b 8 + 1) nodes) && not q) (has-those (λ m. nat_lt m a) n h)
    ∙ between-test nodes a b n h)

only-test : (nodes m n : ℕ) → (nat_le m n && (nat_le n m && nat_lt n nodes)) ≡ (nat_eq n m && nat_lt n nodes)
only-test nodes m n = both-same _ _
    (λ e.
    let p = and_parts (nat_le m n) (nat_le n m && nat_lt n nodes) e in
    let q = and_parts (nat_le n m) (nat_lt n nodes) p.1 in
    let up : m ≤ n = leb-true m n p.0 in
    let down : n ≤ m = leb-true n m q.0 in
    and_from (nat_eq n m) (nat_lt n nodes) (eq-eqb n m (omega arith)) q.1)
    (λ e.
    let p = and_parts (nat_eq n m) (nat_lt n nodes) e in
    let same : n ≡ m = eqb-true n m p.0 in
    and_from (nat_le m n) (nat_le n m && nat_lt n nodes) (le-leb m n (omega arith))
    (and_from (nat_le n m) (nat_lt n nodes) (le-leb n m (omega arith)) p.1))

pub only-is : (nodes m : ℕ) → between nodes m m ≡ only nodes m
only-is nodes m =
    those-same 8 (λ n. nat_le m n && (nat_le n m && nat_lt n nodes)) (λ n. nat_eq n m && nat_lt n nodes) (λ n h. only-test nodes m n)

-- one number more
pub count_below-hit : (k : ℕ) (f : ℕ → Bool) → f k ≡ true → count_below (k + 1) f ≡ count_below k f + 1
unfolding count_below
count_below-hit k f h = rw (add-one k, h) (omega arith)

pub count_below-miss : (k : ℕ) (f : ℕ → Bool) → f k ≡ false → count_below (k + 1) f ≡ count_below k f
unfolding count_below
count_below-miss k f h = rw (add-one k, h) (omega arith)

pub last_below-hit : (k : ℕ) (f : ℕ → Bool) (none : ℕ) → f k ≡ true → last_below (k + 1) f none ≡ k
unfolding last_below
last_below-hit k f none h = rw (add-one k, h) refl

pub last_below-miss : (k : ℕ) (f : ℕ → Bool) (none : ℕ) → f k ≡ false → last_below (k + 1) f none ≡ last_below k f none
unfolding last_below
last_below-miss k f none h = rw (add-one k, h) refl

-- what the code tests
pub has-code : (set n : ℕ) → n < 8 → has set n ≡ nat_eq (bit_and (set / 2 ^ n) 1) 1
unfolding has
has-code set n h = rw (lt-ltb n 8 h, shr_and_one set n) refl

-- the first of some numbers
pub first_from-found : (a k : ℕ) (f : ℕ → Bool) (none n : ℕ) → a ≤ n → n < a + k → f n ≡ true → ((j : ℕ) → a ≤ j → j < n → f j ≡ false)
    → first_from a k f none ≡ n
unfolding first_from
first_from-found a zero f none n low high is before = absurd (omega arith)
first_from-found a (suc k) f none n low high is before = elim (cases_eq a n) [
  | inl same ↦ rw (ap f same ∙ is) same
  | inr other ↦
      let here : a < n = omega (arith, other) in
      rw (before a (omega arith) here) (first_from-found (suc a) k f none n (omega arith) (omega arith) is (λ j from to. before j (omega arith) to))
]

pub first_from-none : (a k : ℕ) (f : ℕ → Bool) (none : ℕ) → ((j : ℕ) → a ≤ j → j < a + k → f j ≡ false) → first_from a k f none ≡ none
unfolding first_from
first_from-none a zero f none h = refl
first_from-none a (suc k) f none h =
    rw (h a (omega arith) (omega arith)) (first_from-none (suc a) k f none (λ j from to. h j (omega arith) (omega arith)))

-- the last of some numbers
pub last_below-found : (k : ℕ) (f : ℕ → Bool) (none n : ℕ) → n < k → f n ≡ true → ((j : ℕ) → n < j → f j ≡ false) → last_below k f none ≡ n
unfolding last_below
last_below-found zero f none n low is after = absurd (omega arith)
last_below-found (suc k) f none n low is after = elim (cases_eq n k) [
  | inl same ↦ rw (ap f (sym same) ∙ is) (sym same)
  | inr other ↦
      let past : n < k = omega (arith, other) in
      rw (after k past) (last_below-found k f none n past is after)
]

pub last_below-none : (k : ℕ) (f : ℕ → Bool) (none : ℕ) → ((j : ℕ) → f j ≡ false) → last_below k f none ≡ none
unfolding last_below
last_below-none zero f none h = refl
last_below-none (suc k) f none h = rw (h k) (last_below-none k f none h)
