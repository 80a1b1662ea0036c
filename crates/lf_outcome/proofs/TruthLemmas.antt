-- The truth of a formula by its kind.
use Rattle.std.proofs.Common.{◌≡◌, ℕ, ◌+◌, ◌-◌, ◌<◌, ◌≤◌, Bool, true, false, List, [], ◌∷◌, length, get_or, take, refl, sym, ap, ◌∙◌, map, ◌&&◌, ◌||◌}
use Rattle.std.specs.List.{flat_map, list_all, list_any}
use Rattle.std.proofs.lemmas.List.{take_all}
use Rattle.std.proofs.lemmas.List.Folds.{list_all-append, list_all-map, list_all_at, list_all_more, list_any-append, list_any_at, list_any_more}
use Rattle.lf_outcome.specs.declared.formula.Formula.{Formula, fold-roll-Formula}
use Rattle.lf_outcome.specs.declared.formula.Formula.TheVariants.{rolls-All, rolls-Any, rolls-Down, rolls-One, rolls-Over, rolls-Shows}
use Rattle.lf_outcome.specs.declared.formula.Formula.TheVariants as kind
use Rattle.lf_outcome.specs.declared.formula.Formula.TheOpen.{Formula-F}
use Rattle.lf_outcome.specs.Truth.{truth, truth_step}
use Rattle.lf_outcome.specs.Unfolding.{joined, later, steps, unfold_at, unfolded}
use Rattle.lf_outcome.proofs.UnfoldingLemmas.{all-steps, at-steps, in-steps, last-step, later-none}
use Rattle.lf_outcome.proofs.UnfoldingLemmas.{next-step, over, unfold-All, unfold-Any, unfold-Down, unfold-One}
use Rattle.lf_outcome.proofs.UnfoldingLemmas.{unfold-Over, unfold-Shows, unfolded-again, unfolded-Over}

list_any-map : {X Y : Type 0} (p : X → Bool) (h : Y → X) (ys : List Y) → list_any p (map h ys) ≡ list_any (λ y. p (h y)) ys
list_any-map p h [] = refl
list_any-map p h (y ∷ ys) = ap (λ b. p (h y) || b) (list_any-map p h ys)

-- a test of each element in turn, as a loop makes it: at an element, and after the last
module _ {X : Type 0} (p : X → Bool) (xs : List X) (i : ℕ) where
  module _ (x : X) (b : Bool) (within : i < length xs) (is : x ≡ get_or xs i x) (tested : b ≡ p x) where
    pub all-more : list_all p (take i xs) ≡ true → b ≡ true → list_all p (take (i + 1) xs) ≡ true
    all-more before holds =
        list_all_more p xs i x within ∙ ap (λ c. c && p (get_or xs i x)) before ∙ ap p (sym is) ∙ sym tested ∙ holds

    pub all-wrong : b ≡ false → false ≡ list_all p xs
    all-wrong fails = sym (list_all_at p xs i x within (ap p (sym is) ∙ sym tested ∙ fails))

    pub any-more : list_any p (take i xs) ≡ false → b ≡ false → list_any p (take (i + 1) xs) ≡ false
    any-more before fails =
        list_any_more p xs i x within ∙ ap (λ c. c || p (get_or xs i x)) before ∙ ap p (sym is) ∙ sym tested ∙ fails

    pub any-right : b ≡ true → true ≡ list_any p xs
    any-right holds = sym (list_any_at p xs i x within (ap p (sym is) ∙ sym tested ∙ holds))

  pub all-last : length xs ≤ i → list_all p (take i xs) ≡ true → true ≡ list_all p xs
  all-last far before = sym before ∙ ap (list_all p) (take_all i xs far)

  pub any-last : length xs ≤ i → list_any p (take i xs) ≡ false → false ≡ list_any p xs
  any-last far before = sym before ∙ ap (list_any p) (take_all i xs far)

-- the same of each step of a span, as a loop over its steps makes it
module _ (p : ℕ → Bool) (first last t : ℕ) (low : first ≤ t) where
  module _ (b : Bool) (high : t ≤ last) (tested : b ≡ p t) where
    pub steps-all-more : list_all p (take (t - first) (steps first last)) ≡ true → b ≡ true → list_all p (take ((t + 1) - first) (steps first last)) ≡ true
    steps-all-more before holds =
        ap (λ i. list_all p (take i (steps first last))) (next-step first last t low)
        ∙ all-more p (steps first last) (t - first) t b (in-steps first last t low high) (at-steps first last t low high) tested before holds

    pub steps-all-end : last ≤ t → list_all p (take (t - first) (steps first last)) ≡ true → b ≡ true → true ≡ list_all p (steps first last)
    steps-all-end end before holds =
        all-last p (steps first last) ((t - first) + 1) (last-step first last t low end)
        (all-more p (steps first last) (t - first) t b (in-steps first last t low high) (at-steps first last t low high) tested before holds)

    pub steps-all-wrong : b ≡ false → false ≡ list_all p (steps first last)
    steps-all-wrong = all-wrong p (steps first last) (t - first) t b (in-steps first last t low high) (at-steps first last t low high) tested

    pub steps-any-more : list_any p (take (t - first) (steps first last)) ≡ false → b ≡ false → list_any p (take ((t + 1) - first) (steps first last)) ≡ false
    steps-any-more before fails =
        ap (λ i. list_any p (take i (steps first last))) (next-step first last t low)
        ∙ any-more p (steps first last) (t - first) t b (in-steps first last t low high) (at-steps first last t low high) tested before fails

    pub steps-any-end : last ≤ t → list_any p (take (t - first) (steps first last)) ≡ false → b ≡ false → false ≡ list_any p (steps first last)
    steps-any-end end before fails =
        any-last p (steps first last) ((t - first) + 1) (last-step first last t low end)
        (any-more p (steps first last) (t - first) t b (in-steps first last t low high) (at-steps first last t low high) tested before fails)

    pub steps-any-right : b ≡ true → true ≡ list_any p (steps first last)
    steps-any-right = any-right p (steps first last) (t - first) t b (in-steps first last t low high) (at-steps first last t low high) tested

  pub steps-all-last : last < t → list_all p (take (t - first) (steps first last)) ≡ true → true ≡ list_all p (steps first last)
  steps-all-last past = all-last p (steps first last) (t - first) (all-steps first last t low past)

  pub steps-any-last : last < t → list_any p (take (t - first) (steps first last)) ≡ false → false ≡ list_any p (steps first last)
  steps-any-last past = any-last p (steps first last) (t - first) (all-steps first last t low past)

module _ {Fact : Type 0} (down : ℕ → ℕ → Bool) (shown : ℕ → ℕ → Fact → Bool) (single : ℕ → ℕ → ℕ → Bool) where
  pub truth-All : (parts : List (Formula Fact)) → truth down shown single (kind.All parts) ≡ list_all (truth down shown single) parts
  truth-All parts =
      ap (truth down shown single) (sym (rolls-All parts)) ∙ fold-roll-Formula Fact Bool (truth_step down shown single) (Formula-F.All parts)
      ∙ list_all-map (λ b. b) (truth down shown single) parts

  pub truth-Any : (parts : List (Formula Fact)) → truth down shown single (kind.Any parts) ≡ list_any (truth down shown single) parts
  truth-Any parts =
      ap (truth down shown single) (sym (rolls-Any parts)) ∙ fold-roll-Formula Fact Bool (truth_step down shown single) (Formula-F.Any parts)
      ∙ list_any-map (λ b. b) (truth down shown single) parts

  pub truth-Down : (n t : ℕ) → truth down shown single (kind.Down n t) ≡ down n t
  truth-Down n t =
      ap (truth down shown single) (sym (rolls-Down n t)) ∙ fold-roll-Formula Fact Bool (truth_step down shown single) (Formula-F.Down n t)

  pub truth-Shows : (n t : ℕ) (fact : Fact) → truth down shown single (kind.Shows n t fact) ≡ shown n t fact
  truth-Shows n t fact =
      ap (truth down shown single) (sym (rolls-Shows n t fact)) ∙ fold-roll-Formula Fact Bool (truth_step down shown single) (Formula-F.Shows n t fact)

  pub truth-One : (nodes last topic : ℕ) → truth down shown single (kind.One nodes last topic) ≡ single nodes last topic
  truth-One nodes last topic =
      ap (truth down shown single) (sym (rolls-One nodes last topic))
      ∙ fold-roll-Formula Fact Bool (truth_step down shown single) (Formula-F.One nodes last topic)

  pub truth-Over : (every : Bool) (first last : ℕ) (parts : List (Formula Fact)) → truth down shown single (kind.Over every first last parts) ≡ false
  truth-Over every first last parts =
      ap (truth down shown single) (sym (rolls-Over every first last parts))
      ∙ fold-roll-Formula Fact Bool (truth_step down shown single) (Formula-F.Over every first last parts)

  -- what the formula says, its steps counted from the step k
  abbrev says : ℕ → Formula Fact → Bool
  says k f = truth down shown single (unfold_at f k)

  pub says-All : (parts : List (Formula Fact)) (k : ℕ) → says k (kind.All parts) ≡ list_all (says k) parts
  says-All parts k =
      ap (truth down shown single) (unfold-All parts k) ∙ truth-All (map (λ part. unfold_at part k) parts)
      ∙ list_all-map (truth down shown single) (λ part. unfold_at part k) parts

  pub says-Any : (parts : List (Formula Fact)) (k : ℕ) → says k (kind.Any parts) ≡ list_any (says k) parts
  says-Any parts k =
      ap (truth down shown single) (unfold-Any parts k) ∙ truth-Any (map (λ part. unfold_at part k) parts)
      ∙ list_any-map (truth down shown single) (λ part. unfold_at part k) parts

  all-over : (parts : List (Formula Fact)) (k : ℕ) (ts : List ℕ)
      → list_all (truth down shown single) (flat_map (λ t. map (λ part. unfold_at part (later k t)) parts) ts)
      ≡ list_all (λ t. list_all (says (later k t)) parts) ts
  all-over parts k [] = refl
  all-over parts k (t ∷ ts) =
      let here = map (λ part. unfold_at part (later k t)) parts in
      let rest = flat_map (λ u. map (λ part. unfold_at part (later k u)) parts) ts in
      list_all-append (truth down shown single) here rest
      ∙ ap (λ b. b && list_all (truth down shown single) rest) (list_all-map (truth down shown single) (λ part. unfold_at part (later k t)) parts)
      ∙ ap (λ b. list_all (says (later k t)) parts && b) (all-over parts k ts)

  any-over : (parts : List (Formula Fact)) (k : ℕ) (ts : List ℕ)
      → list_any (truth down shown single) (flat_map (λ t. map (λ part. unfold_at part (later k t)) parts) ts)
      ≡ list_any (λ t. list_any (says (later k t)) parts) ts
  any-over parts k [] = refl
  any-over parts k (t ∷ ts) =
      let here = map (λ part. unfold_at part (later k t)) parts in
      let rest = flat_map (λ u. map (λ part. unfold_at part (later k u)) parts) ts in
      list_any-append (truth down shown single) here rest
      ∙ ap (λ b. b || list_any (truth down shown single) rest) (list_any-map (truth down shown single) (λ part. unfold_at part (later k t)) parts)
      ∙ ap (λ b. list_any (says (later k t)) parts || b) (any-over parts k ts)

  says-every : (first last : ℕ) (parts : List (Formula Fact)) (k : ℕ)
      → says k (kind.Over true first last parts) ≡ list_all (λ t. list_all (says (later k t)) parts) (steps first last)
  says-every first last parts k =
      ap (truth down shown single) (unfold-Over true first last parts k) ∙ truth-All (over k first last parts) ∙ all-over parts k (steps first last)

  says-some : (first last : ℕ) (parts : List (Formula Fact)) (k : ℕ)
      → says k (kind.Over false first last parts) ≡ list_any (λ t. list_any (says (later k t)) parts) (steps first last)
  says-some first last parts k =
      ap (truth down shown single) (unfold-Over false first last parts k) ∙ truth-Any (over k first last parts) ∙ any-over parts k (steps first last)

  -- what it says at the steps that it names
  pub said-All : (parts : List (Formula Fact)) → truth down shown single (unfolded (kind.All parts))
      ≡ list_all (λ f. truth down shown single (unfolded f)) parts
  said-All parts = says-All parts 0

  pub said-Any : (parts : List (Formula Fact)) → truth down shown single (unfolded (kind.Any parts))
      ≡ list_any (λ f. truth down shown single (unfolded f)) parts
  said-Any parts = says-Any parts 0

  pub said-Down : (n t : ℕ) → truth down shown single (unfolded (kind.Down n t)) ≡ down n t
  said-Down n t = ap (truth down shown single) (unfold-Down n t 0) ∙ truth-Down n (later 0 t) ∙ ap (down n) (later-none t)

  pub said-Shows : (n t : ℕ) (fact : Fact) → truth down shown single (unfolded (kind.Shows n t fact)) ≡ shown n t fact
  said-Shows n t fact =
      ap (truth down shown single) (unfold-Shows n t fact 0) ∙ truth-Shows n (later 0 t) fact ∙ ap (λ u. shown n u fact) (later-none t)

  pub said-One : (nodes last topic : ℕ) → truth down shown single (unfolded (kind.One nodes last topic)) ≡ single nodes last topic
  said-One nodes last topic = ap (truth down shown single) (unfold-One nodes last topic 0) ∙ truth-One nodes last topic

  pub said-Over : (every : Bool) (first last : ℕ) (parts : List (Formula Fact))
      → truth down shown single (unfolded (kind.Over every first last parts))
      ≡ truth down shown single (unfolded (joined every (flat_map (λ t. map (λ part. unfold_at part t) parts) (steps first last))))
  said-Over every first last parts =
      ap (truth down shown single) (sym (unfolded-again (kind.Over every first last parts) 0)
      ∙ ap (λ (f : Formula Fact). unfolded f) (unfolded-Over every first last parts))

  -- from the truth of the parts, as read
  pub truth-from_all : (f : Formula Fact) (parts xs : List (Formula Fact)) (k : ℕ) (b : Bool) → f ≡ kind.All parts → xs ≡ parts
      → b ≡ list_all (says k) xs → b ≡ truth down shown single (unfold_at f k)
  truth-from_all f parts xs k b is read h = h ∙ ap (list_all (says k)) read ∙ sym (says-All parts k) ∙ ap (says k) (sym is)

  pub truth-from_any : (f : Formula Fact) (parts xs : List (Formula Fact)) (k : ℕ) (b : Bool) → f ≡ kind.Any parts → xs ≡ parts
      → b ≡ list_any (says k) xs → b ≡ truth down shown single (unfold_at f k)
  truth-from_any f parts xs k b is read h = h ∙ ap (list_any (says k)) read ∙ sym (says-Any parts k) ∙ ap (says k) (sym is)

  pub truth-from_every : (f : Formula Fact) (every : Bool) (first last : ℕ) (parts xs : List (Formula Fact)) (k : ℕ) (b : Bool)
      → f ≡ kind.Over every first last parts → every ≡ true → xs ≡ parts
      → b ≡ list_all (λ t. list_all (says (later k t)) xs) (steps first last) → b ≡ truth down shown single (unfold_at f k)
  truth-from_every f every first last parts xs k b is so read h =
      h ∙ ap (λ fs. list_all (λ t. list_all (says (later k t)) fs) (steps first last)) read ∙ sym (says-every first last parts k)
      ∙ ap (λ c. says k (kind.Over c first last parts)) (sym so) ∙ ap (says k) (sym is)

  pub truth-from_some : (f : Formula Fact) (every : Bool) (first last : ℕ) (parts xs : List (Formula Fact)) (k : ℕ) (b : Bool)
      → f ≡ kind.Over every first last parts → every ≡ false → xs ≡ parts
      → b ≡ list_any (λ t. list_any (says (later k t)) xs) (steps first last) → b ≡ truth down shown single (unfold_at f k)
  truth-from_some f every first last parts xs k b is so read h =
      h ∙ ap (λ fs. list_any (λ t. list_any (says (later k t)) fs) (steps first last)) read ∙ sym (says-some first last parts k)
      ∙ ap (λ c. says k (kind.Over c first last parts)) (sym so) ∙ ap (says k) (sym is)

  -- from the test of the node, at the step as it is counted
  pub truth-from_down : (f : Formula Fact) (n t k u : ℕ) (b : Bool) → f ≡ kind.Down n t → u ≡ later k t → b ≡ down n u
      → b ≡ truth down shown single (unfold_at f k)
  truth-from_down f n t k u b is at h =
      h ∙ ap (down n) at ∙ sym (ap (truth down shown single) (unfold-Down n t k) ∙ truth-Down n (later k t)) ∙ ap (says k) (sym is)

  pub truth-from_shows : (f : Formula Fact) (n t : ℕ) (fact : Fact) (k u : ℕ) (b : Bool) → f ≡ kind.Shows n t fact → u ≡ later k t → b ≡ shown n u fact
      → b ≡ truth down shown single (unfold_at f k)
  truth-from_shows f n t fact k u b is at h =
      h ∙ ap (λ v. shown n v fact) at ∙ sym (ap (truth down shown single) (unfold-Shows n t fact k) ∙ truth-Shows n (later k t) fact) ∙ ap (says k) (sym is)

  pub truth-from_one : (f : Formula Fact) (nodes last topic k : ℕ) (b : Bool) → f ≡ kind.One nodes last topic → b ≡ single nodes last topic
      → b ≡ truth down shown single (unfold_at f k)
  truth-from_one f nodes last topic k b is h =
      h ∙ sym (ap (truth down shown single) (unfold-One nodes last topic k) ∙ truth-One nodes last topic) ∙ ap (says k) (sym is)
