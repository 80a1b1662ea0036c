-- What comes of a set and a body hangs on the body's values for the nodes of the set alone, and passes none of them by more than 255.
use Rattle.std.proofs.Common.{◌≡◌, ℕ, zero, suc, ◌+◌, ◌*◌, ◌<◌, ◌≤◌, Bool, true, false, cond, ◌&&◌, max}
use Rattle.std.proofs.Common.{List, [], ◌∷◌, slice_index, refl, ap, ◌∙◌, arith, add-one}
use Rattle.std.specs.Prelude.{Option, None, Some}
use Rattle.lf_rules.specs.declared.expr.Over.{Over}
use Rattle.lf_rules.specs.declared.expr.Over.TheVariants as overs
use Rattle.lf_rule_machine.specs.Sets.{truth, is_true, those_below, those}
use Rattle.lf_rule_machine.specs.Bodies.{is_member, lesser, least_below, least_of, greatest_below, over}
use Rattle.lf_rule_machine.proofs.SetsLemmas.{those-same, those-small}

-- a set, node by node
pub those-eight : (p : ℕ → Bool)
    → those p
    ≡ truth (p 0) + 2 * truth (p 1) + 4 * truth (p 2) + 8 * truth (p 3) + 16 * truth (p 4) + 32 * truth (p 5) + 64 * truth (p 6) + 128 * truth (p 7)
unfolding those_below
those-eight p =
    sums (truth (p 0)) (truth (p 1)) (truth (p 2)) (truth (p 3)) (truth (p 4)) (truth (p 5)) (truth (p 6)) (truth (p 7))
  where
    sums : (a b c e f g h i : ℕ)
        → i * 128 + (h * 64 + (g * 32 + (f * 16 + (e * 8 + (c * 4 + (b * 2 + (a * 1 + 0)))))))
        ≡ a + 2 * b + 4 * c + 8 * e + 16 * f + 32 * g + 64 * h + 128 * i
    sums a b c e f g h i = omega arith

-- one number more
pub least-more : (k : ℕ) (p : ℕ → Bool) (f : ℕ → ℕ) → least_below (k + 1) p f ≡ cond (p k) (Some (lesser (f k) (least_below k p f))) (least_below k p f)
unfolding least_below
least-more k p f = rw (add-one k) refl

pub greatest-more : (k : ℕ) (p : ℕ → Bool) (f : ℕ → ℕ) → greatest_below (k + 1) p f ≡ cond (p k) (max (f k) (greatest_below k p f)) (greatest_below k p f)
unfolding greatest_below
greatest-more k p f = rw (add-one k) refl

-- by the values where a test is so
test-same : (b x y : Bool) → (b ≡ true → x ≡ y) → (b && x) ≡ (b && y)
test-same true x y same = same refl
test-same false x y same = refl

cond-same : {A : Type 0} (b : Bool) (x y v w : A) → (b ≡ true → x ≡ y) → v ≡ w → cond b x v ≡ cond b y w
cond-same true x y v w same rest = same refl
cond-same false x y v w same rest = rest

least-same : (k : ℕ) (p : ℕ → Bool) (f g : ℕ → ℕ) → ((n : ℕ) → n < k → p n ≡ true → f n ≡ g n) → least_below k p f ≡ least_below k p g
unfolding least_below
least-same zero p f g same = refl
least-same (suc k) p f g same =
    let rest = least-same k p f g (λ n low so. same n (omega arith) so) in
    cond-same (p k) (Some (lesser (f k) (least_below k p f))) (Some (lesser (g k) (least_below k p g))) (least_below k p f) (least_below k p g)
    (λ so. ap (λ r. Some (lesser (f k) r)) rest ∙ ap (λ v. Some (lesser v (least_below k p g))) (same k (omega arith) so)) rest

greatest-same : (k : ℕ) (p : ℕ → Bool) (f g : ℕ → ℕ) → ((n : ℕ) → n < k → p n ≡ true → f n ≡ g n) → greatest_below k p f ≡ greatest_below k p g
unfolding greatest_below
greatest-same zero p f g same = refl
greatest-same (suc k) p f g same =
    let rest = greatest-same k p f g (λ n low so. same n (omega arith) so) in
    cond-same (p k) (max (f k) (greatest_below k p f)) (max (g k) (greatest_below k p g)) (greatest_below k p f) (greatest_below k p g)
    (λ so. ap (λ r. max (f k) r) rest ∙ ap (λ v. max v (greatest_below k p g)) (same k (omega arith) so)) rest

pub over-same : (nodes : ℕ) (op : Over) (set : ℕ) (f g : ℕ → ℕ) → ((n : ℕ) → n < 8 → is_member nodes set n ≡ true → f n ≡ g n)
    → over nodes op set f ≡ over nodes op set g
over-same nodes overs.Those set f g same =
    those-same 8 (λ n. is_member nodes set n && is_true (f n)) (λ n. is_member nodes set n && is_true (g n))
    (λ n low. test-same (is_member nodes set n) (is_true (f n)) (is_true (g n)) (λ so. ap is_true (same n low so)))
over-same nodes overs.Least set f g same = ap least_of (least-same 8 (is_member nodes set) f g same)
over-same nodes overs.Greatest set f g same = greatest-same 8 (is_member nodes set) f g same

-- no greater than each value, or 255
cond-small : {A : Type 0} (P : A → Type 0) (b : Bool) (x y : A) → P x → P y → P (cond b x y)
cond-small P true x y h k = h
cond-small P false x y h k = k

lesser-small : (v : ℕ) (o : Option ℕ) (m : ℕ) → v ≤ m → lesser v o ≤ m
lesser-small v None m h = h
lesser-small v (Some w) m h = omega arith

least-small : (k : ℕ) (p : ℕ → Bool) (f : ℕ → ℕ) (m : ℕ) → 255 ≤ m → ((n : ℕ) → n < k → f n ≤ m) → least_of (least_below k p f) ≤ m
unfolding least_below
least-small zero p f m floor small = floor
least-small (suc k) p f m floor small =
    cond-small (λ o. least_of o ≤ m) (p k) (Some (lesser (f k) (least_below k p f))) (least_below k p f)
    (lesser-small (f k) (least_below k p f) m (small k (omega arith))) (least-small k p f m floor (λ n low. small n (omega arith)))

greatest-small : (k : ℕ) (p : ℕ → Bool) (f : ℕ → ℕ) (m : ℕ) → ((n : ℕ) → n < k → f n ≤ m) → greatest_below k p f ≤ m
unfolding greatest_below
greatest-small zero p f m small = omega arith
greatest-small (suc k) p f m small =
    let rest = greatest-small k p f m (λ n low. small n (omega arith)) in
    let here = small k (omega arith) in
    cond-small (λ v. v ≤ m) (p k) (max (f k) (greatest_below k p f)) (greatest_below k p f) (omega (arith, rest, here)) rest

pub over-small : (nodes : ℕ) (op : Over) (set : ℕ) (f : ℕ → ℕ) (m : ℕ) → 255 ≤ m → ((n : ℕ) → n < 8 → f n ≤ m) → over nodes op set f ≤ m
over-small nodes overs.Those set f m floor small =
    let low = those-small (λ n. is_member nodes set n && is_true (f n)) in omega (arith, low, floor)
over-small nodes overs.Least set f m floor small = least-small 8 (is_member nodes set) f m floor small
over-small nodes overs.Greatest set f m floor small = greatest-small 8 (is_member nodes set) f m small

-- the values that are worked out: that of each node of the set, and 0 for the others
module _ (nodes set : ℕ) (f : ℕ → ℕ) where
  abbrev member_or : ℕ → ℕ
  member_or n = cond (is_member nodes set n) (f n) 0

  here : (n v : ℕ) → v ≡ member_or n → is_member nodes set n ≡ true → v ≡ f n
  here n v is so = is ∙ ap (λ b. cond b (f n) 0) so

  module _ (v0 v1 v2 v3 v4 v5 v6 v7 : ℕ) where
    abbrev values : List ℕ
    values = v0 ∷ v1 ∷ v2 ∷ v3 ∷ v4 ∷ v5 ∷ v6 ∷ v7 ∷ []

    pub eight-same : (op : Over) → v0 ≡ member_or 0 → v1 ≡ member_or 1 → v2 ≡ member_or 2 → v3 ≡ member_or 3 → v4 ≡ member_or 4 → v5 ≡ member_or 5
        → v6 ≡ member_or 6 → v7 ≡ member_or 7 → over nodes op set (slice_index values) ≡ over nodes op set f
    eight-same op i0 i1 i2 i3 i4 i5 i6 i7 = over-same nodes op set (slice_index values) f each
      where
        each : (n : ℕ) → n < 8 → is_member nodes set n ≡ true → slice_index values n ≡ f n
        each zero low so = here 0 v0 i0 so
        each (suc zero) low so = here 1 v1 i1 so
        each (suc (suc zero)) low so = here 2 v2 i2 so
        each (suc (suc (suc zero))) low so = here 3 v3 i3 so
        each (suc (suc (suc (suc zero)))) low so = here 4 v4 i4 so
        each (suc (suc (suc (suc (suc zero))))) low so = here 5 v5 i5 so
        each (suc (suc (suc (suc (suc (suc zero)))))) low so = here 6 v6 i6 so
        each (suc (suc (suc (suc (suc (suc (suc zero))))))) low so = here 7 v7 i7 so
        each (suc (suc (suc (suc (suc (suc (suc (suc n)))))))) low so = absurd (omega (arith, low))

    pub eight-small : (op : Over) (m : ℕ) → 255 ≤ m → v0 ≤ m → v1 ≤ m → v2 ≤ m → v3 ≤ m → v4 ≤ m → v5 ≤ m → v6 ≤ m → v7 ≤ m
        → over nodes op set (slice_index values) ≤ m
    eight-small op m floor i0 i1 i2 i3 i4 i5 i6 i7 = over-small nodes op set (slice_index values) m floor each
      where
        each : (n : ℕ) → n < 8 → slice_index values n ≤ m
        each zero low = i0
        each (suc zero) low = i1
        each (suc (suc zero)) low = i2
        each (suc (suc (suc zero))) low = i3
        each (suc (suc (suc (suc zero)))) low = i4
        each (suc (suc (suc (suc (suc zero))))) low = i5
        each (suc (suc (suc (suc (suc (suc zero)))))) low = i6
        each (suc (suc (suc (suc (suc (suc (suc zero))))))) low = i7
        each (suc (suc (suc (suc (suc (suc (suc (suc n)))))))) low = absurd (omega (arith, low))
