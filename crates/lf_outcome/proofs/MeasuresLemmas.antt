-- The depth and the atoms of a formula, from those of its parts.
use Rattle.std.proofs.Common.{◌≡◌, ◌⊎◌, ℕ, zero, suc, ◌+◌, ◌-◌, ◌*◌, ◌<◌, ◌≤◌, Bool, true, false, List, [], ◌∷◌, ◌++◌, length, refl, sym, ap, ◌∙◌, inl}
use Rattle.std.proofs.Common.{inr, map, max, min, sum, arith}
use Rattle.std.specs.List.{AllByRecursion, flat_map, fold, range_with_len}
use Rattle.std.proofs.Math.Nat.{suc-mul, zero-mul}
use Rattle.std.proofs.lemmas.Bool.{cases_lt}
use Rattle.std.proofs.lemmas.List.FromFn.{length-range_with_len}
use Rattle.std.proofs.lemmas.List.Sums.{fold-append}
use Rattle.lf_outcome.specs.declared.formula.Formula.{Formula, fold-roll-Formula}
use Rattle.lf_outcome.specs.declared.formula.Formula.TheVariants.{rolls-All, rolls-Any, rolls-Down, rolls-One, rolls-Over, rolls-Shows}
use Rattle.lf_outcome.specs.declared.formula.Formula.TheVariants as kind
use Rattle.lf_outcome.specs.declared.formula.Formula.TheOpen.{Formula-F}
use Rattle.lf_outcome.specs.Measures.{depth_of, depth_step, atoms_of, atoms_step}
use Rattle.lf_outcome.specs.Unfolding.{joined, later, steps, unfold_at, unfolded}
use Rattle.lf_outcome.proofs.Inductions.{by_induction}
use Rattle.lf_outcome.proofs.UnfoldingLemmas.{map-append, over, unfold-All, unfold-Any, unfold-Down, unfold-One, unfold-Over, unfold-Shows}

module _ {Fact : Type 0} where
  pub depth_of-parts : (f : Formula Fact) (parts : List (Formula Fact)) → (f ≡ kind.All parts) ⊎ (f ≡ kind.Any parts)
      → depth_of f ≡ fold max 0 (map depth_of parts) + 1
  depth_of-parts f parts (inl is) =
      ap depth_of is ∙ ap depth_of (sym (rolls-All parts)) ∙ fold-roll-Formula Fact ℕ depth_step (Formula-F.All parts)
  depth_of-parts f parts (inr is) =
      ap depth_of is ∙ ap depth_of (sym (rolls-Any parts)) ∙ fold-roll-Formula Fact ℕ depth_step (Formula-F.Any parts)

  pub atoms_of-parts : (f : Formula Fact) (parts : List (Formula Fact)) → (f ≡ kind.All parts) ⊎ (f ≡ kind.Any parts)
      → atoms_of f ≡ sum (map atoms_of parts)
  atoms_of-parts f parts (inl is) =
      ap atoms_of is ∙ ap atoms_of (sym (rolls-All parts)) ∙ fold-roll-Formula Fact ℕ atoms_step (Formula-F.All parts)
  atoms_of-parts f parts (inr is) =
      ap atoms_of is ∙ ap atoms_of (sym (rolls-Any parts)) ∙ fold-roll-Formula Fact ℕ atoms_step (Formula-F.Any parts)

  depth_of-Over : (every : Bool) (first last : ℕ) (parts : List (Formula Fact))
      → depth_of (kind.Over every first last parts) ≡ fold max 0 (flat_map (λ t. map depth_of parts) (steps first last)) + 1
  depth_of-Over every first last parts =
      ap depth_of (sym (rolls-Over every first last parts)) ∙ fold-roll-Formula Fact ℕ depth_step (Formula-F.Over every first last parts)

  atoms_of-Over : (every : Bool) (first last : ℕ) (parts : List (Formula Fact))
      → atoms_of (kind.Over every first last parts) ≡ sum (flat_map (λ t. map atoms_of parts) (steps first last))
  atoms_of-Over every first last parts =
      ap atoms_of (sym (rolls-Over every first last parts)) ∙ fold-roll-Formula Fact ℕ atoms_step (Formula-F.Over every first last parts)

  pub depth_of-Shows : (n t : ℕ) (fact : Fact) → depth_of (kind.Shows n t fact) ≡ 1
  depth_of-Shows n t fact = ap depth_of (sym (rolls-Shows n t fact)) ∙ fold-roll-Formula Fact ℕ depth_step (Formula-F.Shows n t fact)

  pub atoms_of-Shows : (n t : ℕ) (fact : Fact) → atoms_of (kind.Shows n t fact) ≡ 1
  atoms_of-Shows n t fact = ap atoms_of (sym (rolls-Shows n t fact)) ∙ fold-roll-Formula Fact ℕ atoms_step (Formula-F.Shows n t fact)

pub depth_of-Down : (Fact : Type 0) (n t : ℕ) → depth_of {Fact = Fact} (kind.Down n t) ≡ 1
depth_of-Down Fact n t = ap depth_of (sym (rolls-Down n t)) ∙ fold-roll-Formula Fact ℕ depth_step (Formula-F.Down n t)

pub atoms_of-Down : (Fact : Type 0) (n t : ℕ) → atoms_of {Fact = Fact} (kind.Down n t) ≡ 1
atoms_of-Down Fact n t = ap atoms_of (sym (rolls-Down n t)) ∙ fold-roll-Formula Fact ℕ atoms_step (Formula-F.Down n t)

pub depth_of-One : (Fact : Type 0) (nodes last topic : ℕ) → depth_of {Fact = Fact} (kind.One nodes last topic) ≡ 1
depth_of-One Fact nodes last topic =
    ap depth_of (sym (rolls-One nodes last topic)) ∙ fold-roll-Formula Fact ℕ depth_step (Formula-F.One nodes last topic)

pub atoms_of-One : (Fact : Type 0) (nodes last topic : ℕ) → atoms_of {Fact = Fact} (kind.One nodes last topic) ≡ 1
atoms_of-One Fact nodes last topic =
    ap atoms_of (sym (rolls-One nodes last topic)) ∙ fold-roll-Formula Fact ℕ atoms_step (Formula-F.One nodes last topic)

-- a measure of the parts is that of the parts at any step
module _ {Fact : Type 0} (m : Formula Fact → ℕ) where
  abbrev Keeps : Formula Fact → Type 0
  Keeps f = (k : ℕ) → m (unfold_at f k) ≡ m f

  each-keeps : (k : ℕ) (parts : List (Formula Fact)) → AllByRecursion Keeps parts → map m (map (λ part. unfold_at part k) parts) ≡ map m parts
  each-keeps k [] h = refl
  each-keeps k (f ∷ fs) h =
      ap (λ n. n ∷ map m (map (λ part. unfold_at part k) fs)) (h.0 k) ∙ ap (λ ns. m f ∷ ns) (each-keeps k fs h.1)

  over-keeps : (k : ℕ) (parts : List (Formula Fact)) → AllByRecursion Keeps parts → (ts : List ℕ)
      → map m (flat_map (λ t. map (λ part. unfold_at part (later k t)) parts) ts) ≡ flat_map (λ t. map m parts) ts
  over-keeps k parts h [] = refl
  over-keeps k parts h (t ∷ ts) =
      let here = map (λ part. unfold_at part (later k t)) parts in
      let rest = flat_map (λ u. map (λ part. unfold_at part (later k u)) parts) ts in
      map-append m here rest ∙ ap (λ ns. ns ++ map m rest) (each-keeps (later k t) parts h)
      ∙ ap (λ ns. map m parts ++ ns) (over-keeps k parts h ts)

module _ {Fact : Type 0} where
  depth-joined : (every : Bool) (parts : List (Formula Fact)) → depth_of (joined every parts) ≡ fold max 0 (map depth_of parts) + 1
  depth-joined true parts = depth_of-parts (kind.All parts) parts (inl refl)
  depth-joined false parts = depth_of-parts (kind.Any parts) parts (inr refl)

  atoms-joined : (every : Bool) (parts : List (Formula Fact)) → atoms_of (joined every parts) ≡ sum (map atoms_of parts)
  atoms-joined true parts = atoms_of-parts (kind.All parts) parts (inl refl)
  atoms-joined false parts = atoms_of-parts (kind.Any parts) parts (inr refl)

  -- a formula is as deep as it is unfolded, and has as many atoms
  pub depth-unfolded : (f : Formula Fact) (k : ℕ) → depth_of (unfold_at f k) ≡ depth_of f
  depth-unfolded = by_induction (Keeps depth_of) (record {
    all = λ parts h k. ap depth_of (unfold-All parts k) ∙ depth-joined true (map (λ part. unfold_at part k) parts)
        ∙ ap (λ ds. fold max 0 ds + 1) (each-keeps depth_of k parts h) ∙ sym (depth-joined true parts);
    any = λ parts h k. ap depth_of (unfold-Any parts k) ∙ depth-joined false (map (λ part. unfold_at part k) parts)
        ∙ ap (λ ds. fold max 0 ds + 1) (each-keeps depth_of k parts h) ∙ sym (depth-joined false parts);
    down = λ n t k. ap depth_of (unfold-Down n t k) ∙ depth_of-Down Fact n (later k t) ∙ sym (depth_of-Down Fact n t);
    shows = λ n t fact k. ap depth_of (unfold-Shows n t fact k) ∙ depth_of-Shows n (later k t) fact ∙ sym (depth_of-Shows n t fact);
    one = λ nodes last topic k. ap depth_of (unfold-One nodes last topic k);
    over = λ every first last parts h k. ap depth_of (unfold-Over every first last parts k) ∙ depth-joined every (over k first last parts)
        ∙ ap (λ ds. fold max 0 ds + 1) (over-keeps depth_of k parts h (steps first last)) ∙ sym (depth_of-Over every first last parts);
  })

  pub atoms-unfolded : (f : Formula Fact) (k : ℕ) → atoms_of (unfold_at f k) ≡ atoms_of f
  atoms-unfolded = by_induction (Keeps atoms_of) (record {
    all = λ parts h k. ap atoms_of (unfold-All parts k) ∙ atoms-joined true (map (λ part. unfold_at part k) parts)
        ∙ ap sum (each-keeps atoms_of k parts h) ∙ sym (atoms-joined true parts);
    any = λ parts h k. ap atoms_of (unfold-Any parts k) ∙ atoms-joined false (map (λ part. unfold_at part k) parts)
        ∙ ap sum (each-keeps atoms_of k parts h) ∙ sym (atoms-joined false parts);
    down = λ n t k. ap atoms_of (unfold-Down n t k) ∙ atoms_of-Down Fact n (later k t) ∙ sym (atoms_of-Down Fact n t);
    shows = λ n t fact k. ap atoms_of (unfold-Shows n t fact k) ∙ atoms_of-Shows n (later k t) fact ∙ sym (atoms_of-Shows n t fact);
    one = λ nodes last topic k. ap atoms_of (unfold-One nodes last topic k);
    over = λ every first last parts h k. ap atoms_of (unfold-Over every first last parts k) ∙ atoms-joined every (over k first last parts)
        ∙ ap sum (over-keeps atoms_of k parts h (steps first last)) ∙ sym (atoms_of-Over every first last parts);
  })

-- the greatest of numbers, and of them several times over
fold-max : (a : ℕ) (xs : List ℕ) → fold max a xs ≡ max a (fold max 0 xs)
fold-max a [] = omega arith
fold-max a (x ∷ xs) = let more = fold-max (max a x) xs in let less = fold-max (max 0 x) xs in omega (arith, more, less)

again-max : (ds : List ℕ) (m : ℕ) → fold max 0 ds ≤ m → (ts : List ℕ) → fold max m (flat_map (λ t. ds) ts) ≡ m
again-max ds m most [] = refl
again-max ds m most (t ∷ ts) =
    let here : fold max m ds ≡ m = let h = fold-max m ds in omega (arith, h, most) in
    fold-append max m ds (flat_map (λ t. ds) ts) ∙ ap (λ n. fold max n (flat_map (λ t. ds) ts)) here ∙ again-max ds m most ts

times-max : (ds ts : List ℕ) → 0 < length ts → fold max 0 (flat_map (λ t. ds) ts) ≡ fold max 0 ds
times-max ds [] some = absurd (omega (arith, some))
times-max ds (t ∷ ts) some = fold-append max 0 ds (flat_map (λ t. ds) ts) ∙ again-max ds (fold max 0 ds) (omega arith) ts

no-steps : (first last : ℕ) → last < first → steps first last ≡ []
no-steps first last before = let none : last + 1 - first ≡ 0 = omega (arith, before) in ap (range_with_len first) none

fold-sum : (a : ℕ) (xs : List ℕ) → fold ◌+◌ a xs ≡ a + sum xs
fold-sum a [] = omega arith
fold-sum a (x ∷ xs) = let more = fold-sum (a + x) xs in let less = fold-sum (0 + x) xs in omega (arith, more, less)

sum-append : (xs ys : List ℕ) → sum (xs ++ ys) ≡ sum xs + sum ys
sum-append xs ys = fold-append ◌+◌ 0 xs ys ∙ fold-sum (sum xs) ys

times-sum : (ds ts : List ℕ) → sum (flat_map (λ t. ds) ts) ≡ length ts * sum ds
times-sum ds [] = sym (zero-mul (sum ds))
times-sum ds (t ∷ ts) =
    let more = suc-mul (length ts) (sum ds) in
    let rest = times-sum ds ts in
    let both = sum-append ds (flat_map (λ t. ds) ts) in
    omega (arith, more, rest, both)

map-same : {X Y : Type 0} (f g : X → Y) → ((x : X) → f x ≡ g x) → (xs : List X) → map f xs ≡ map g xs
map-same f g h [] = refl
map-same f g h (x ∷ xs) = ap (λ y. y ∷ map f xs) (h x) ∙ ap (λ ys. g x ∷ ys) (map-same f g h xs)

-- the least of a product and a bound
least-times : (n s bound : ℕ) → min (n * min s bound) bound ≡ min (n * s) bound
least-times zero s bound = omega (arith, zero-mul (min s bound), zero-mul s)
least-times (suc n) s bound = elim (cases_lt bound s) [
  | inl more ↦
      let least : min s bound ≡ bound = omega (arith, more) in
      let low : bound ≤ suc n * bound = let e = suc-mul n bound in omega (arith, e) in
      let high : s ≤ suc n * s = let e = suc-mul n s in omega (arith, e) in
      ap (λ c. min (suc n * c) bound) least ∙ omega (arith, low, high, more)
  | inr all ↦ ap (λ c. min (suc n * c) bound) (omega (arith, all))
]

module _ {Fact : Type 0} where
  -- from the depth of the deepest part, and from the atoms of the parts
  abbrev pub deepest_of : List (Formula Fact) → ℕ
  deepest_of parts = fold max 0 (map (λ part. depth_of (unfolded part)) parts)

  abbrev pub total_of : List (Formula Fact) → ℕ
  total_of parts = sum (map (λ part. atoms_of (unfolded part)) parts)

  deepest-is : (parts : List (Formula Fact)) → deepest_of parts ≡ fold max 0 (map depth_of parts)
  deepest-is parts = ap (fold max 0) (map-same (λ part. depth_of (unfolded part)) depth_of (λ part. depth-unfolded part 0) parts)

  total-is : (parts : List (Formula Fact)) → total_of parts ≡ sum (map atoms_of parts)
  total-is parts = ap sum (map-same (λ part. atoms_of (unfolded part)) atoms_of (λ part. atoms-unfolded part 0) parts)

  pub depth-all : (f : Formula Fact) (parts xs : List (Formula Fact)) (deepest d : ℕ) → (f ≡ kind.All parts) ⊎ (f ≡ kind.Any parts)
      → xs ≡ parts → deepest ≡ min (deepest_of xs) 4294967295 → d ≡ min (deepest + 1) 4294967295
      → d ≡ min (depth_of (unfolded f)) 4294967295
  depth-all f parts xs deepest d is same h more =
      let whole : deepest_of xs ≡ fold max 0 (map depth_of parts) = deepest-is xs ∙ ap (λ (ys : List (Formula Fact)). fold max 0 (map depth_of ys)) same in
      omega (arith, whole, depth_of-parts f parts is, depth-unfolded f 0, h, more)

  pub depth-over : (f : Formula Fact) (every : Bool) (first last : ℕ) (parts xs : List (Formula Fact)) (deepest d : ℕ)
      → f ≡ kind.Over every first last parts → first ≤ last
      → xs ≡ parts → deepest ≡ min (deepest_of xs) 4294967295 → d ≡ min (deepest + 1) 4294967295
      → d ≡ min (depth_of (unfolded f)) 4294967295
  depth-over f every first last parts xs deepest d is some same h more =
      let whole : deepest_of xs ≡ fold max 0 (map depth_of parts) = deepest-is xs ∙ ap (λ (ys : List (Formula Fact)). fold max 0 (map depth_of ys)) same in
      let long : length (steps first last) ≡ last + 1 - first = length-range_with_len first (last + 1 - first) in
      let once = times-max (map depth_of parts) (steps first last) (omega (arith, long, some)) in
      let at : depth_of f ≡ fold max 0 (flat_map (λ t. map depth_of parts) (steps first last)) + 1 =
      ap depth_of is ∙ depth_of-Over every first last parts in
      omega (arith, whole, once, at, depth-unfolded f 0, h, more)

  pub depth-none : (f : Formula Fact) (every : Bool) (first last : ℕ) (parts : List (Formula Fact)) → f ≡ kind.Over every first last parts → last < first
      → 1 ≡ min (depth_of (unfolded f)) 4294967295
  depth-none f every first last parts is none =
      let at : depth_of f ≡ 1 =
      ap depth_of is ∙ depth_of-Over every first last parts
      ∙ ap (λ (ts : List ℕ). fold max 0 (flat_map (λ t. map depth_of parts) ts) + 1) (no-steps first last none) in
      omega (arith, at, depth-unfolded f 0)

  pub atoms-all : (f : Formula Fact) (parts xs : List (Formula Fact)) (count : ℕ) → (f ≡ kind.All parts) ⊎ (f ≡ kind.Any parts)
      → xs ≡ parts → count ≡ min (total_of xs) 4294967295 → count ≡ min (atoms_of (unfolded f)) 4294967295
  atoms-all f parts xs count is same h =
      let whole : total_of xs ≡ sum (map atoms_of parts) = total-is xs ∙ ap (λ (ys : List (Formula Fact)). sum (map atoms_of ys)) same in
      omega (arith, whole, atoms_of-parts f parts is, atoms-unfolded f 0, h)

  pub atoms-over : (f : Formula Fact) (every : Bool) (first last : ℕ) (parts xs : List (Formula Fact)) (count c : ℕ)
      → f ≡ kind.Over every first last parts → xs ≡ parts → count ≡ min (total_of xs) 4294967295
      → c ≡ min ((last + 1 - first) * count) 4294967295 → c ≡ min (atoms_of (unfolded f)) 4294967295
  atoms-over f every first last parts xs count c is same h more =
      let whole : total_of xs ≡ sum (map atoms_of parts) = total-is xs ∙ ap (λ (ys : List (Formula Fact)). sum (map atoms_of ys)) same in
      let long : length (steps first last) ≡ last + 1 - first = length-range_with_len first (last + 1 - first) in
      let at : atoms_of (unfolded f) ≡ (last + 1 - first) * sum (map atoms_of parts) =
      atoms-unfolded f 0 ∙ ap atoms_of is ∙ atoms_of-Over every first last parts ∙ times-sum (map atoms_of parts) (steps first last)
      ∙ ap (λ n. n * sum (map atoms_of parts)) long in
      more ∙ ap (λ n. min ((last + 1 - first) * n) 4294967295) (h ∙ ap (λ n. min n 4294967295) whole)
      ∙ least-times (last + 1 - first) (sum (map atoms_of parts)) 4294967295
      ∙ ap (λ n. min n 4294967295) (sym at)
