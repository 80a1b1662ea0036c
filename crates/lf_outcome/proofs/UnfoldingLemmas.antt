-- What a formula says without Over, by its kind.
use Rattle.std.proofs.Common.{◌≡◌, ℕ, ◌+◌, ◌-◌, ◌<◌, ◌≤◌, Bool, true, false, List, [], ◌∷◌, ◌++◌, length, get_or, take, refl, sym, ap, ◌∙◌, map, arith}
use Rattle.std.specs.List.{AllByRecursion, flat_map, list_all}
use Rattle.std.proofs.lemmas.Bool.{and_parts, and_from, false≢true}
use Rattle.std.proofs.lemmas.List.{flat_map_more, take_all, take_more}
use Rattle.std.proofs.lemmas.List.Folds.{list_all-map, list_all-append}
use Rattle.std.proofs.lemmas.List.FromFn.{get_or-range_with_len, length-range_with_len}
use Rattle.lf_outcome.specs.declared.formula.Formula.{Formula, fold-roll-Formula}
use Rattle.lf_outcome.specs.declared.formula.Formula.TheVariants.{rolls-All, rolls-Any, rolls-Down, rolls-One, rolls-Over, rolls-Shows}
use Rattle.lf_outcome.specs.declared.formula.Formula.TheVariants as kind
use Rattle.lf_outcome.specs.declared.formula.Formula.TheOpen.{Formula-F}
use Rattle.lf_outcome.specs.Unfolding.{is_plain, joined, later, plain_step, steps, unfold_at, unfold_step, unfolded}
use Rattle.lf_outcome.proofs.Inductions.{by_induction}

pub map-again : {X Y Z : Type 0} (g : Y → Z) (f : X → Y) (xs : List X) → map g (map f xs) ≡ map (λ x. g (f x)) xs
map-again g f [] = refl
map-again g f (x ∷ xs) = ap (λ ys. g (f x) ∷ ys) (map-again g f xs)

pub map-append : {X Y : Type 0} (f : X → Y) (xs ys : List X) → map f (xs ++ ys) ≡ map f xs ++ map f ys
map-append f [] ys = refl
map-append f (x ∷ xs) ys = ap (λ zs. f x ∷ zs) (map-append f xs ys)

pub flat_map-same : {X Y : Type 0} (f g : X → List Y) → ((x : X) → f x ≡ g x) → (xs : List X) → flat_map f xs ≡ flat_map g xs
flat_map-same f g h [] = refl
flat_map-same f g h (x ∷ xs) = ap (λ ys. ys ++ flat_map f xs) (h x) ∙ ap (λ ys. g x ++ ys) (flat_map-same f g h xs)

-- a step counted from step 0 is that step
pub later-none : (t : ℕ) → later 0 t ≡ t
later-none t = omega arith

pub later-zero : (k : ℕ) → k ≤ 4294967295 → later k 0 ≡ k
later-zero k within = omega (arith, within)

-- the parts at each of the steps
abbrev pub over : {Fact : Type 0} → ℕ → ℕ → ℕ → List (Formula Fact) → List (Formula Fact)
over k first last parts = flat_map (λ t. map (λ part. unfold_at part (later k t)) parts) (steps first last)

pub plain-Down : (Fact : Type 0) (n t : ℕ) → is_plain {Fact = Fact} (kind.Down n t) ≡ true
plain-Down Fact n t = ap (λ (f : Formula Fact). is_plain f) (sym (rolls-Down n t)) ∙ fold-roll-Formula Fact Bool plain_step (Formula-F.Down n t)

pub plain-One : (Fact : Type 0) (nodes last topic : ℕ) → is_plain {Fact = Fact} (kind.One nodes last topic) ≡ true
plain-One Fact nodes last topic =
    ap (λ (f : Formula Fact). is_plain f) (sym (rolls-One nodes last topic)) ∙ fold-roll-Formula Fact Bool plain_step (Formula-F.One nodes last topic)

module _ {Fact : Type 0} where
  pub unfold-All : (parts : List (Formula Fact)) (k : ℕ) → unfold_at (kind.All parts) k ≡ kind.All (map (λ part. unfold_at part k) parts)
  unfold-All parts k =
      ap (λ (f : Formula Fact). unfold_at f k) (sym (rolls-All parts))
      ∙ ap (λ (says : ℕ → Formula Fact). says k) (fold-roll-Formula Fact (ℕ → Formula Fact) unfold_step (Formula-F.All parts))
      ∙ ap kind.All (map-again (λ (says : ℕ → Formula Fact). says k) unfold_at parts)

  pub unfold-Any : (parts : List (Formula Fact)) (k : ℕ) → unfold_at (kind.Any parts) k ≡ kind.Any (map (λ part. unfold_at part k) parts)
  unfold-Any parts k =
      ap (λ (f : Formula Fact). unfold_at f k) (sym (rolls-Any parts))
      ∙ ap (λ (says : ℕ → Formula Fact). says k) (fold-roll-Formula Fact (ℕ → Formula Fact) unfold_step (Formula-F.Any parts))
      ∙ ap kind.Any (map-again (λ (says : ℕ → Formula Fact). says k) unfold_at parts)

  pub unfold-Down : (n t k : ℕ) → unfold_at {Fact = Fact} (kind.Down n t) k ≡ kind.Down n (later k t)
  unfold-Down n t k =
      ap (λ (f : Formula Fact). unfold_at f k) (sym (rolls-Down n t))
      ∙ ap (λ (says : ℕ → Formula Fact). says k) (fold-roll-Formula Fact (ℕ → Formula Fact) unfold_step (Formula-F.Down n t))

  pub unfold-Shows : (n t : ℕ) (fact : Fact) (k : ℕ) → unfold_at (kind.Shows n t fact) k ≡ kind.Shows n (later k t) fact
  unfold-Shows n t fact k =
      ap (λ (f : Formula Fact). unfold_at f k) (sym (rolls-Shows n t fact))
      ∙ ap (λ (says : ℕ → Formula Fact). says k) (fold-roll-Formula Fact (ℕ → Formula Fact) unfold_step (Formula-F.Shows n t fact))

  pub unfold-One : (nodes last topic k : ℕ) → unfold_at {Fact = Fact} (kind.One nodes last topic) k ≡ kind.One nodes last topic
  unfold-One nodes last topic k =
      ap (λ (f : Formula Fact). unfold_at f k) (sym (rolls-One nodes last topic))
      ∙ ap (λ (says : ℕ → Formula Fact). says k) (fold-roll-Formula Fact (ℕ → Formula Fact) unfold_step (Formula-F.One nodes last topic))

  pub unfold-Over : (every : Bool) (first last : ℕ) (parts : List (Formula Fact)) (k : ℕ)
      → unfold_at (kind.Over every first last parts) k ≡ joined every (over k first last parts)
  unfold-Over every first last parts k =
      ap (λ (f : Formula Fact). unfold_at f k) (sym (rolls-Over every first last parts))
      ∙ ap (λ (says : ℕ → Formula Fact). says k) (fold-roll-Formula Fact (ℕ → Formula Fact) unfold_step (Formula-F.Over every first last parts))
      ∙ ap (joined every) (flat_map-same (λ t. map (λ (says : ℕ → Formula Fact). says (later k t)) (map unfold_at parts))
      (λ t. map (λ part. unfold_at part (later k t)) parts)
      (λ t. map-again (λ (says : ℕ → Formula Fact). says (later k t)) unfold_at parts) (steps first last))

  -- a formula without Over, by its kind
  pub plain-All : (parts : List (Formula Fact)) → is_plain (kind.All parts) ≡ list_all is_plain parts
  plain-All parts =
      ap (λ (f : Formula Fact). is_plain f) (sym (rolls-All parts)) ∙ fold-roll-Formula Fact Bool plain_step (Formula-F.All parts)
      ∙ list_all-map (λ b. b) is_plain parts

  pub plain-Any : (parts : List (Formula Fact)) → is_plain (kind.Any parts) ≡ list_all is_plain parts
  plain-Any parts =
      ap (λ (f : Formula Fact). is_plain f) (sym (rolls-Any parts)) ∙ fold-roll-Formula Fact Bool plain_step (Formula-F.Any parts)
      ∙ list_all-map (λ b. b) is_plain parts

  pub plain-Shows : (n t : ℕ) (fact : Fact) → is_plain (kind.Shows n t fact) ≡ true
  plain-Shows n t fact =
      ap (λ (f : Formula Fact). is_plain f) (sym (rolls-Shows n t fact)) ∙ fold-roll-Formula Fact Bool plain_step (Formula-F.Shows n t fact)

  pub plain-Over : (every : Bool) (first last : ℕ) (parts : List (Formula Fact)) → is_plain (kind.Over every first last parts) ≡ false
  plain-Over every first last parts =
      ap (λ (f : Formula Fact). is_plain f) (sym (rolls-Over every first last parts))
      ∙ fold-roll-Formula Fact Bool plain_step (Formula-F.Over every first last parts)

  -- it is its own unfolding
  abbrev Own : Formula Fact → Type 0
  Own f = is_plain f ≡ true → unfolded f ≡ f

  own-each : (parts : List (Formula Fact)) → AllByRecursion Own parts → list_all is_plain parts ≡ true → map (λ part. unfold_at part 0) parts ≡ parts
  own-each [] h e = refl
  own-each (f ∷ fs) h e =
      let both = and_parts (is_plain f) (list_all is_plain fs) e in
      ap (λ g. g ∷ map (λ part. unfold_at part 0) fs) (h.0 both.0) ∙ ap (λ gs. f ∷ gs) (own-each fs h.1 both.1)

  pub unfolded-plain : (f : Formula Fact) → is_plain f ≡ true → unfolded f ≡ f
  unfolded-plain = by_induction Own (record {
    all = λ parts h e. unfold-All parts 0 ∙ ap kind.All (own-each parts h (sym (plain-All parts) ∙ e));
    any = λ parts h e. unfold-Any parts 0 ∙ ap kind.Any (own-each parts h (sym (plain-Any parts) ∙ e));
    down = λ n t e. unfold-Down n t 0 ∙ ap (kind.Down n) (later-none t);
    shows = λ n t fact e. unfold-Shows n t fact 0 ∙ ap (λ u. kind.Shows n u fact) (later-none t);
    one = λ nodes last topic e. unfold-One nodes last topic 0;
    over = λ every first last parts h e. absurd (false≢true (sym (plain-Over every first last parts) ∙ e));
  })

  -- an unfolded formula is one without Over
  abbrev Unfolds : Formula Fact → Type 0
  Unfolds f = (k : ℕ) → is_plain (unfold_at f k) ≡ true

  plain-each : (k : ℕ) (parts : List (Formula Fact)) → AllByRecursion Unfolds parts → list_all is_plain (map (λ part. unfold_at part k) parts) ≡ true
  plain-each k [] h = refl
  plain-each k (f ∷ fs) h = and_from (is_plain (unfold_at f k)) (list_all is_plain (map (λ part. unfold_at part k) fs)) (h.0 k) (plain-each k fs h.1)

  plain-over : (k : ℕ) (parts : List (Formula Fact)) → AllByRecursion Unfolds parts → (ts : List ℕ)
      → list_all is_plain (flat_map (λ t. map (λ part. unfold_at part (later k t)) parts) ts) ≡ true
  plain-over k parts h [] = refl
  plain-over k parts h (t ∷ ts) =
      let here = map (λ part. unfold_at part (later k t)) parts in
      let rest = flat_map (λ t. map (λ part. unfold_at part (later k t)) parts) ts in
      list_all-append is_plain here rest
      ∙ and_from (list_all is_plain here) (list_all is_plain rest) (plain-each (later k t) parts h) (plain-over k parts h ts)

  plain-joined : (every : Bool) (parts : List (Formula Fact)) → list_all is_plain parts ≡ true → is_plain (joined every parts) ≡ true
  plain-joined true parts e = plain-All parts ∙ e
  plain-joined false parts e = plain-Any parts ∙ e

  pub plain-unfolded : (f : Formula Fact) (k : ℕ) → is_plain (unfold_at f k) ≡ true
  plain-unfolded = by_induction Unfolds (record {
    all = λ parts h k. ap (λ (f : Formula Fact). is_plain f) (unfold-All parts k)
        ∙ plain-All (map (λ part. unfold_at part k) parts) ∙ plain-each k parts h;
    any = λ parts h k. ap (λ (f : Formula Fact). is_plain f) (unfold-Any parts k)
        ∙ plain-Any (map (λ part. unfold_at part k) parts) ∙ plain-each k parts h;
    down = λ n t k. ap (λ (f : Formula Fact). is_plain f) (unfold-Down n t k) ∙ plain-Down Fact n (later k t);
    shows = λ n t fact k. ap (λ (f : Formula Fact). is_plain f) (unfold-Shows n t fact k) ∙ plain-Shows n (later k t) fact;
    one = λ nodes last topic k. ap (λ (f : Formula Fact). is_plain f) (unfold-One nodes last topic k) ∙ plain-One Fact nodes last topic;
    over = λ every first last parts h k. ap (λ (f : Formula Fact). is_plain f) (unfold-Over every first last parts k)
        ∙ plain-joined every (over k first last parts) (plain-over k parts h (steps first last));
  })

  -- what an Over unfolds into
  pub unfolded-Over : (every : Bool) (first last : ℕ) (parts : List (Formula Fact))
      → unfolded (kind.Over every first last parts) ≡ joined every (flat_map (λ t. map (λ part. unfold_at part t) parts) (steps first last))
  unfolded-Over every first last parts =
      unfold-Over every first last parts 0
      ∙ ap (joined every) (flat_map-same (λ t. map (λ part. unfold_at part (later 0 t)) parts) (λ t. map (λ part. unfold_at part t) parts)
      (λ t. ap (λ u. map (λ part. unfold_at part u) parts) (later-none t)) (steps first last))

  pub unfolded-again : (f : Formula Fact) (k : ℕ) → unfolded (unfold_at f k) ≡ unfold_at f k
  unfolded-again f k = unfolded-plain (unfold_at f k) (plain-unfolded f k)

-- what a formula says, from its kind and its step as counted
module _ {Fact : Type 0} (f : Formula Fact) where
  pub is-down : (n t k u : ℕ) → f ≡ kind.Down n t → u ≡ later k t → unfold_at f k ≡ kind.Down n u
  is-down n t k u is at = ap (λ (g : Formula Fact). unfold_at g k) is ∙ unfold-Down n t k ∙ ap (kind.Down n) (sym at)

  pub is-shows : (n t : ℕ) (fact : Fact) (k u : ℕ) → f ≡ kind.Shows n t fact → u ≡ later k t → unfold_at f k ≡ kind.Shows n u fact
  is-shows n t fact k u is at = ap (λ (g : Formula Fact). unfold_at g k) is ∙ unfold-Shows n t fact k ∙ ap (λ v. kind.Shows n v fact) (sym at)

  pub is-one : (nodes last topic k : ℕ) → f ≡ kind.One nodes last topic → unfold_at f k ≡ kind.One nodes last topic
  is-one nodes last topic k is = ap (λ (g : Formula Fact). unfold_at g k) is ∙ unfold-One nodes last topic k

-- a loop over the steps
module _ (first last t : ℕ) (low : first ≤ t) where
  pub in-steps : t ≤ last → t - first < length (steps first last)
  in-steps high = let long = length-range_with_len first (last + 1 - first) in omega (arith, low, high, long)

  pub at-steps : t ≤ last → t ≡ get_or (steps first last) (t - first) t
  at-steps high =
      let at : get_or (steps first last) (t - first) t ≡ first + (t - first) =
      get_or-range_with_len first (last + 1 - first) (t - first) t (omega (arith, low, high)) in
      omega (arith, at, low)

  pub next-step : (t + 1) - first ≡ (t - first) + 1
  next-step = omega (arith, low)

  pub all-steps : last < t → length (steps first last) ≤ t - first
  all-steps past = let long = length-range_with_len first (last + 1 - first) in omega (arith, low, past, long)

  pub last-step : last ≤ t → length (steps first last) ≤ (t - first) + 1
  last-step end = let long = length-range_with_len first (last + 1 - first) in omega (arith, low, end, long)

-- a formula as it is unfolded, from its parts, as read
module _ {Fact : Type 0} (f : Formula Fact) (parts xs : List (Formula Fact)) (k : ℕ) (us : List (Formula Fact)) (read : xs ≡ parts) where
  pub unfolded-from_all : f ≡ kind.All parts → us ≡ map (λ part. unfold_at part k) xs → kind.All us ≡ unfold_at f k
  unfolded-from_all is h =
      ap kind.All (h ∙ ap (map (λ part. unfold_at part k)) read) ∙ sym (ap (λ (g : Formula Fact). unfold_at g k) is ∙ unfold-All parts k)

  pub unfolded-from_any : f ≡ kind.Any parts → us ≡ map (λ part. unfold_at part k) xs → kind.Any us ≡ unfold_at f k
  unfolded-from_any is h =
      ap kind.Any (h ∙ ap (map (λ part. unfold_at part k)) read) ∙ sym (ap (λ (g : Formula Fact). unfold_at g k) is ∙ unfold-Any parts k)

  pub unfolded-from_over : (every : Bool) (first last : ℕ) (g : Formula Fact) → f ≡ kind.Over every first last parts → g ≡ joined every us
      → us ≡ over k first last xs → g ≡ unfold_at f k
  unfolded-from_over every first last g is so h =
      so ∙ ap (joined every) (h ∙ ap (over k first last) read)
      ∙ sym (ap (λ (e : Formula Fact). unfold_at e k) is ∙ unfold-Over every first last parts k)

-- the parts at the steps so far
module _ {Fact : Type 0} (parts : List (Formula Fact)) (k first last t : ℕ) (low : first ≤ t) where
  abbrev so_far : List ℕ → List (Formula Fact)
  so_far ts = flat_map (λ u. map (λ part. unfold_at part (later k u)) parts) ts

  module _ (u : ℕ) (high : t ≤ last) (at : u ≡ later k t) (sofar new : List (Formula Fact)) (more : new ≡ sofar ++ map (λ part. unfold_at part u) parts)
      (before : sofar ≡ so_far (take (t - first) (steps first last))) where
    one-more : new ≡ so_far (take ((t - first) + 1) (steps first last))
    one-more =
        more ∙ ap (λ v. sofar ++ map (λ part. unfold_at part v) parts) at
        ∙ ap (λ fs. fs ++ map (λ part. unfold_at part (later k t)) parts) before
        ∙ flat_map_more (λ v. map (λ part. unfold_at part (later k v)) parts) [] (take (t - first) (steps first last)) t
        ∙ ap so_far (ap (λ v. take (t - first) (steps first last) ++ v ∷ []) (at-steps first last t low high)
        ∙ sym (take_more (steps first last) (t - first) t (in-steps first last t low high)))

    pub flat-more : new ≡ so_far (take ((t + 1) - first) (steps first last))
    flat-more = one-more ∙ ap (λ i. so_far (take i (steps first last))) (sym (next-step first last t low))

    pub flat-end : last ≤ t → new ≡ so_far (steps first last)
    flat-end end = one-more ∙ ap so_far (take_all ((t - first) + 1) (steps first last) (last-step first last t low end))

  pub flat-all : (sofar : List (Formula Fact)) → last < t → sofar ≡ so_far (take (t - first) (steps first last)) → sofar ≡ so_far (steps first last)
  flat-all sofar past before = before ∙ ap so_far (take_all (t - first) (steps first last) (all-steps first last t low past))
