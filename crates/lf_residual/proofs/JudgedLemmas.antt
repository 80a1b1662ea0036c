-- The truths of a formula's parts, in runs that differ at no points but marked ones, and how they are judged again one by one.
use Rattle.std.proofs.Common.{◌≡◌, ℕ, zero, suc, ◌+◌, ◌<◌, ◌≤◌, Bool, true, false, not, ◌&&◌, ◌||◌, List, [], ◌∷◌, ◌++◌, length, take, drop}
use Rattle.std.proofs.Common.{get_or, set, map, refl, sym, ap, ◌∙◌, subst, arith}
use Rattle.std.specs.Prelude.{if◌then◌else◌, None, Some, slice_get}
use Rattle.std.specs.List.{AllByRecursion, flat_map, list_all, list_any, range_with_len}
use Rattle.std.specs.Option.{option_to_list, unwrap_or}
use Rattle.std.proofs.Math.Nat.{min-le_left, min-le_right, le-max_left, le-max_right}
use Rattle.std.proofs.Math.Seq.{get_or-append_seam}
use Rattle.std.proofs.lemmas.List.{append-nil, append_assoc, drop_all, drop_more, flat_map_more, length-append, length_push, set_at, take_all, take_more}
use Rattle.std.proofs.lemmas.List.Sums.{AllPass-from_list_all}
use Rattle.std.proofs.lemmas.List.Folds.{list_all_more, list_any_more}
use Rattle.lf_faults.specs.declared.fault.Parts.{Parts}
use Rattle.lf_sim.specs.Changes.{AreSameBut, IsSameAt}
use Rattle.lf_sim.specs.Marks.{is_marked}
use Rattle.lf_sim.specs.Runs.{World, is_up, view}
use Rattle.lf_sim.proofs.Laws.{IsRunning-up}
use Rattle.lf_outcome.specs.declared.formula.Formula.{Formula}
use Rattle.lf_outcome.specs.declared.formula.Formula.TheVariants as kind
use Rattle.lf_outcome.specs.declared.point.Point.{Point}
use Rattle.lf_outcome.specs.Truth.{all_agree, entered, is_down, is_shown, is_single, points_at, points_to}
use Rattle.lf_outcome.specs.Unfolding.{is_plain, unfolded}
use Rattle.lf_outcome.proofs.Laws.{plain-All, plain-Any, plain-Down, plain-One, plain-Shows, unfolded-plain}
use Rattle.lf_protocols.specs.declared.fact.Fact.{Fact}
use Rattle.lf_residual.specs.declared.part.Part.{Part}
use Rattle.lf_residual.specs.declared.part.Scope.{Scope}
use Rattle.lf_residual.specs.Judging.{said, truths_of, truths_step}
use Rattle.lf_residual.specs.Parts.{IsWithin, all_parts, both_scopes, part_of, parts_of, scope_at, scope_to, size_of}
use Rattle.lf_residual.specs.Recursion.{Made}
use Rattle.lf_residual.proofs.Formulas.{by_induction, everywhere, by-All, by-Any, by-Down, by-Shows, by-One, by-Over}
use Rattle.lf_residual.proofs.Formulas.{part-All, part-Any, part-Down, part-Shows, part-One, part-Over}
use Rattle.lf_residual.proofs.Formulas.{truth-All, truth-Any, truth-Down, truth-Shows, truth-One, truth-Over}
use Rattle.lf_residual.proofs.Likeness.{sizes}
use Rattle.lf_residual.proofs.Places.{parts-count, split-first, split-rest}

flat-map : {X Y Z : Type 0} (p : X → List Z) (h : Y → X) (ys : List Y) → flat_map p (map h ys) ≡ flat_map (λ y. p (h y)) ys
flat-map p h [] = refl
flat-map p h (y ∷ ys) = ap (λ zs. p (h y) ++ zs) (flat-map p h ys)

-- The truths by the kind of the formula
module _ {State Note : Type 0} (w : World State Note Fact) (faults : List Parts) where
  abbrev with_truths : Formula Fact → Made (List Bool)
  with_truths f = record { formula = f; it = truths_of w faults f }

  pub truths-All : (parts : List (Formula Fact))
      → truths_of w faults (kind.All parts) ≡ said w faults (kind.All parts) ∷ flat_map (truths_of w faults) parts
  truths-All parts =
      by-All (truths_step w faults) parts
      ∙ ap (λ bs. said w faults (kind.All parts) ∷ bs) (flat-map (λ (m : Made (List Bool)). m.it) with_truths parts)

  pub truths-Any : (parts : List (Formula Fact))
      → truths_of w faults (kind.Any parts) ≡ said w faults (kind.Any parts) ∷ flat_map (truths_of w faults) parts
  truths-Any parts =
      by-Any (truths_step w faults) parts
      ∙ ap (λ bs. said w faults (kind.Any parts) ∷ bs) (flat-map (λ (m : Made (List Bool)). m.it) with_truths parts)

  pub truths-Down : (n t : ℕ) → truths_of w faults (kind.Down n t) ≡ said w faults (kind.Down n t) ∷ []
  truths-Down n t = by-Down (truths_step w faults) n t

  pub truths-Shows : (n t : ℕ) (fact : Fact) → truths_of w faults (kind.Shows n t fact) ≡ said w faults (kind.Shows n t fact) ∷ []
  truths-Shows n t fact = by-Shows (truths_step w faults) n t fact

  pub truths-One : (nodes last topic : ℕ) → truths_of w faults (kind.One nodes last topic) ≡ said w faults (kind.One nodes last topic) ∷ []
  truths-One nodes last topic = by-One (truths_step w faults) nodes last topic

  pub truths-Over : (every : Bool) (first last : ℕ) (parts : List (Formula Fact))
      → truths_of w faults (kind.Over every first last parts) ≡ said w faults (kind.Over every first last parts) ∷ []
  truths-Over every first last parts = by-Over (truths_step w faults) every first last parts

  pub said-All : (parts : List (Formula Fact)) → said w faults (kind.All parts) ≡ list_all (said w faults) parts
  said-All parts = truth-All (is_down w faults) (is_shown w faults) (is_single w faults) parts

  pub said-Any : (parts : List (Formula Fact)) → said w faults (kind.Any parts) ≡ list_any (said w faults) parts
  said-Any parts = truth-Any (is_down w faults) (is_shown w faults) (is_single w faults) parts

  -- the first is that of the formula
  pub truths-head : (f : Formula Fact) → (rest : List Bool) × (truths_of w faults f ≡ said w faults f ∷ rest)
  truths-head =
      by_induction (λ f. (rest : List Bool) × (truths_of w faults f ≡ said w faults f ∷ rest))
      (record {
        all = λ parts every. (flat_map (truths_of w faults) parts, truths-All parts);
        any = λ parts every. (flat_map (truths_of w faults) parts, truths-Any parts);
        down = λ n t. ([], truths-Down n t);
        shows = λ n t fact. ([], truths-Shows n t fact);
        one = λ nodes last topic. ([], truths-One nodes last topic);
        over = λ every first last parts own. ([], truths-Over every first last parts);
      })

  -- there are as many as parts
  abbrev Counts : Formula Fact → Type 0
  Counts f = length (truths_of w faults f) ≡ size_of f

  flat-count : (parts : List (Formula Fact)) → AllByRecursion Counts parts → length (flat_map (truths_of w faults) parts) ≡ sizes parts
  flat-count [] every = refl
  flat-count (part ∷ parts) every =
      length-append (truths_of w faults part) (flat_map (truths_of w faults) parts) ∙ (λ i. every.0 i + flat-count parts every.1 i)

  node-count : (f : Formula Fact) (parts : List (Formula Fact)) → truths_of w faults f ≡ said w faults f ∷ flat_map (truths_of w faults) parts
      → size_of f ≡ sizes parts + 1 → AllByRecursion Counts parts → Counts f
  node-count f parts is size every =
      let inner = flat-count parts every in
      let one : length (said w faults f ∷ flat_map (truths_of w faults) parts) ≡ length (flat_map (truths_of w faults) parts) + 1 = omega arith in
      ap length is ∙ omega (arith, one, inner, size)

  pub truths-count : (f : Formula Fact) → Counts f
  truths-count =
      by_induction Counts
      (record {
        all = λ parts every. node-count (kind.All parts) parts (truths-All parts) (ap (λ (p : Part). p.size) (part-All parts)) every;
        any = λ parts every. node-count (kind.Any parts) parts (truths-Any parts) (ap (λ (p : Part). p.size) (part-Any parts)) every;
        down = λ n t. ap length (truths-Down n t) ∙ sym (ap (λ (p : Part). p.size) (part-Down n t));
        shows = λ n t fact. ap length (truths-Shows n t fact) ∙ sym (ap (λ (p : Part). p.size) (part-Shows n t fact));
        one = λ nodes last topic. ap length (truths-One nodes last topic) ∙ sym (ap (λ (p : Part). p.size) (part-One nodes last topic));
        over = λ every first last parts own.
            ap length (truths-Over every first last parts) ∙ sym (ap (λ (p : Part). p.size) (part-Over every first last parts));
      })

  pub flat-truths : (parts : List (Formula Fact)) → length (flat_map (truths_of w faults) parts) ≡ sizes parts
  flat-truths parts = flat-count parts (everywhere truths-count parts)

-- The truths of a formula by its kind, with its parts as read
module _ {State Note : Type 0} (w : World State Note Fact) (faults : List Parts) (f : Formula Fact) where
  abbrev Has : List (Formula Fact) → Type 0
  Has xs = truths_of w faults f ≡ said w faults f ∷ flat_map (truths_of w faults) xs

  pub truths-from_all : (parts xs : List (Formula Fact)) → f ≡ kind.All parts → xs ≡ parts → Has xs
  truths-from_all parts xs is read =
      subst Has (sym read)
      (subst (λ g. truths_of w faults g ≡ said w faults g ∷ flat_map (truths_of w faults) parts) (sym is) (truths-All w faults parts))

  pub truths-from_any : (parts xs : List (Formula Fact)) → f ≡ kind.Any parts → xs ≡ parts → Has xs
  truths-from_any parts xs is read =
      subst Has (sym read)
      (subst (λ g. truths_of w faults g ≡ said w faults g ∷ flat_map (truths_of w faults) parts) (sym is) (truths-Any w faults parts))

  pub said-from_all : (parts xs : List (Formula Fact)) → f ≡ kind.All parts → xs ≡ parts → list_all (said w faults) xs ≡ said w faults f
  said-from_all parts xs is read = ap (list_all (said w faults)) read ∙ sym (said-All w faults parts) ∙ ap (said w faults) (sym is)

  pub said-from_any : (parts xs : List (Formula Fact)) → f ≡ kind.Any parts → xs ≡ parts → list_any (said w faults) xs ≡ said w faults f
  said-from_any parts xs is read = ap (list_any (said w faults)) read ∙ sym (said-Any w faults parts) ∙ ap (said w faults) (sym is)

  abbrev HasOne : Formula Fact → Type 0
  HasOne g = truths_of w faults g ≡ said w faults g ∷ []

  pub truths-from_down : (n t : ℕ) → f ≡ kind.Down n t → HasOne f
  truths-from_down n t is = subst HasOne (sym is) (truths-Down w faults n t)

  pub truths-from_shows : (n t : ℕ) (fact : Fact) → f ≡ kind.Shows n t fact → HasOne f
  truths-from_shows n t fact is = subst HasOne (sym is) (truths-Shows w faults n t fact)

  pub truths-from_one : (nodes last topic : ℕ) → f ≡ kind.One nodes last topic → HasOne f
  truths-from_one nodes last topic is = subst HasOne (sym is) (truths-One w faults nodes last topic)

  pub truths-from_over : (every : Bool) (first last : ℕ) (parts : List (Formula Fact)) → f ≡ (kind.Over every first last parts) → HasOne f
  truths-from_over every first last parts is = subst HasOne (sym is) (truths-Over w faults every first last parts)

  -- which is false
  pub said-from_over : (every : Bool) (first last : ℕ) (parts : List (Formula Fact)) → f ≡ (kind.Over every first last parts) → said w faults f ≡ false
  said-from_over every first last parts is =
      ap (said w faults) is ∙ truth-Over (is_down w faults) (is_shown w faults) (is_single w faults) every first last parts

-- An atom is as it is unfolded
module _ (f : Formula Fact) where
  pub own-down : (n t : ℕ) → f ≡ kind.Down n t → unfolded f ≡ f
  own-down n t is = subst (λ (g : Formula Fact). unfolded g ≡ g) (sym is) (unfolded-plain (kind.Down n t) (plain-Down Fact n t))

  pub own-shows : (n t : ℕ) (fact : Fact) → f ≡ kind.Shows n t fact → unfolded f ≡ f
  own-shows n t fact is = subst (λ (g : Formula Fact). unfolded g ≡ g) (sym is) (unfolded-plain (kind.Shows n t fact) (plain-Shows n t fact))

  pub own-one : (nodes last topic : ℕ) → f ≡ kind.One nodes last topic → unfolded f ≡ f
  own-one nodes last topic is =
      subst (λ (g : Formula Fact). unfolded g ≡ g) (sym is) (unfolded-plain (kind.One nodes last topic) (plain-One Fact nodes last topic))

  -- and so are the parts of a formula without Over, as read
  pub plain-from_all : (parts xs : List (Formula Fact)) → f ≡ kind.All parts → xs ≡ parts → is_plain f ≡ true → list_all is_plain xs ≡ true
  plain-from_all parts xs is read plain =
      ap (list_all is_plain) read ∙ sym (plain-All parts) ∙ ap (λ (g : Formula Fact). is_plain g) (sym is) ∙ plain

  pub plain-from_any : (parts xs : List (Formula Fact)) → f ≡ kind.Any parts → xs ≡ parts → is_plain f ≡ true → list_all is_plain xs ≡ true
  plain-from_any parts xs is read plain =
      ap (list_all is_plain) read ∙ sym (plain-Any parts) ∙ ap (λ (g : Formula Fact). is_plain g) (sym is) ∙ plain

pub one-plain : (parts : List (Formula Fact)) (i : ℕ) (part : Formula Fact) → list_all is_plain parts ≡ true → i < length parts
    → part ≡ get_or parts i part → is_plain part ≡ true
one-plain parts i part plain inside is =
    ap (λ (g : Formula Fact). is_plain g) is ∙ AllPass-from_list_all is_plain parts plain i part inside

-- Scopes
within-left : (a b : Scope) (n t : ℕ) → IsWithin a n t → IsWithin (both_scopes a b) n t
within-left a b n t h = record {
  node_first = omega (arith, h.node_first, min-le_left a.nodes.first b.nodes.first);
  node_last = omega (arith, h.node_last, le-max_left a.nodes.last b.nodes.last);
  step_first = omega (arith, h.step_first, min-le_left a.steps.first b.steps.first);
  step_last = omega (arith, h.step_last, le-max_left a.steps.last b.steps.last);
}

within-right : (a b : Scope) (n t : ℕ) → IsWithin b n t → IsWithin (both_scopes a b) n t
within-right a b n t h = record {
  node_first = omega (arith, h.node_first, min-le_right a.nodes.first b.nodes.first);
  node_last = omega (arith, h.node_last, le-max_right a.nodes.last b.nodes.last);
  step_first = omega (arith, h.step_first, min-le_right a.steps.first b.steps.first);
  step_last = omega (arith, h.step_last, le-max_right a.steps.last b.steps.last);
}

within-at : (n t : ℕ) → IsWithin (scope_at n t) n t
within-at n t = record {
  node_first = omega arith;
  node_last = omega arith;
  step_first = omega arith;
  step_last = omega arith;
}

-- and what is within that of a point is the point
at-point : (n t m u : ℕ) → IsWithin (scope_at n t) m u → (m ≡ n) × (u ≡ t)
at-point n t m u h = (omega (arith, h.node_first, h.node_last), omega (arith, h.step_first, h.step_last))

-- Points of so many nodes and steps
module _ (P : Point → Type 0) where
  all-append : (ps qs : List Point) → AllByRecursion P ps → AllByRecursion P qs → AllByRecursion P (ps ++ qs)
  all-append [] qs h k = k
  all-append (p ∷ ps) qs h k = (h.0, all-append ps qs h.1 k)

  all-at : (t a n : ℕ) → ((k : ℕ) → a ≤ k → k < a + n → P (record { node = k; step = t }))
      → AllByRecursion P (map (λ n. record { node = n; step = t }) (range_with_len a n))
  all-at t a zero h = tt
  all-at t a (suc n) h = (h a (omega arith) (omega arith), all-at t (a + 1) n (λ k low high. h k (omega (arith, low)) (omega (arith, high))))

  all-to : (nodes a n : ℕ) → ((k t : ℕ) → k < nodes → a ≤ t → t < a + n → P (record { node = k; step = t }))
      → AllByRecursion P (flat_map (points_at nodes) (range_with_len a n))
  all-to nodes a zero h = tt
  all-to nodes a (suc n) h =
      all-append (points_at nodes a) (flat_map (points_at nodes) (range_with_len (a + 1) n))
      (all-at a 0 nodes (λ k low high. h k a (omega (arith, high)) (omega arith) (omega arith)))
      (all-to nodes (a + 1) n (λ k t node low high. h k t node (omega (arith, low)) (omega (arith, high))))

flat-same : {X Y : Type 0} (f g : X → List Y) (xs : List X) → AllByRecursion (λ x. f x ≡ g x) xs → flat_map f xs ≡ flat_map g xs
flat-same f g [] every = refl
flat-same f g (x ∷ xs) every = λ i. every.0 i ++ flat-same f g xs every.1 i

-- Tests
both-ways : (a b : Bool) → (a ≡ true → b ≡ true) → (b ≡ true → a ≡ true) → a ≡ b
both-ways true b to from = sym (to refl)
both-ways false true to from = from refl
both-ways false false to from = refl

and-same : (a b x y : Bool) → a ≡ b → (b ≡ true → x ≡ y) → (a && x) ≡ (b && y)
and-same a true x y is same = ap (λ c. c && x) is ∙ same refl
and-same a false x y is same = ap (λ c. c && x) is

if-same : {A : Type 0} (a b : Bool) (x y none : A) → a ≡ b → (b ≡ true → x ≡ y) → (if a then x else none) ≡ (if b then y else none)
if-same a true x y none is same = ap (λ c. if c then x else none) is ∙ same refl
if-same a false x y none is same = ap (λ c. if c then x else none) is

-- What two runs show that differ at no points but marked ones
module _ {State Note : Type 0} (w : World State Note Fact) (from to : List Parts) (points : List Bool) (same : AreSameBut w from to points) where
  -- a point isn't marked, if it is one
  abbrev pub IsFree : ℕ → ℕ → Type 0
  IsFree n t = n < w.rules.nodes → t ≤ w.horizon → is_marked points n t ≡ false

  -- and so for all within a scope
  abbrev pub AreFree : Scope → Type 0
  AreFree s = (n t : ℕ) → n < w.rules.nodes → t ≤ w.horizon → IsWithin s n t → is_marked points n t ≡ false

  same-from : (n t : ℕ) → IsFree n t → is_up w from n t ≡ true → IsSameAt w from to n t
  same-from n t free up = let r = IsRunning-up w from n t up in same n t r.node r.first r.last (free r.node r.last)

  same-to : (n t : ℕ) → IsFree n t → is_up w to n t ≡ true → IsSameAt w from to n t
  same-to n t free up = let r = IsRunning-up w to n t up in same n t r.node r.first r.last (free r.node r.last)

  up-same : (n t : ℕ) → IsFree n t → is_up w from n t ≡ is_up w to n t
  up-same n t free =
      both-ways (is_up w from n t) (is_up w to n t) (λ up. sym (same-from n t free up).up ∙ up) (λ up. (same-to n t free up).up ∙ up)

  shown-same : (n t : ℕ) (fact : Fact) → IsFree n t → is_shown w from n t fact ≡ is_shown w to n t fact
  shown-same n t fact free =
      and-same (is_up w from n t) (is_up w to n t) (w.rules.shows n (view w from n t) fact) (w.rules.shows n (view w to n t) fact)
      (up-same n t free) (λ up. ap (λ v. w.rules.shows n v fact) (same-to n t free up).view)

  entered-same : (topic n t : ℕ) → IsFree n t → entered w from topic n t ≡ entered w to topic n t
  entered-same topic n t free =
      if-same (is_up w from n t) (is_up w to n t) (w.rules.entry n (view w from n t) topic) (w.rules.entry n (view w to n t) topic) None
      (up-same n t free) (λ up. ap (λ v. w.rules.entry n v topic) (same-to n t free up).view)

  single-same : (nodes last topic : ℕ) → ((n t : ℕ) → n < nodes → 1 ≤ t → t ≤ last → IsFree n t)
      → is_single w from nodes last topic ≡ is_single w to nodes last topic
  single-same nodes last topic free =
      ap all_agree
      (flat-same (λ p. option_to_list (entered w from topic p.node p.step)) (λ p. option_to_list (entered w to topic p.node p.step)) (points_to nodes last)
      (all-to (λ p. option_to_list (entered w from topic p.node p.step) ≡ option_to_list (entered w to topic p.node p.step)) nodes 1 last
      (λ n t node first below. ap option_to_list (entered-same topic n t (free n t node first (omega (arith, below)))))))

  -- so a formula of whose points none is marked has the same truth in both, and so have its parts
  abbrev IsKept : Formula Fact → Type 0
  IsKept f = AreFree (part_of f).scope → (said w from f ≡ said w to f) × (truths_of w from f ≡ truths_of w to f)

  record AreKept (parts : List (Formula Fact)) : Type 0 where
    all : list_all (said w from) parts ≡ list_all (said w to) parts
    any : list_any (said w from) parts ≡ list_any (said w to) parts
    truths : flat_map (truths_of w from) parts ≡ flat_map (truths_of w to) parts

  are-kept : (parts : List (Formula Fact)) → AllByRecursion IsKept parts → AreFree (all_parts part_of parts).scope → AreKept parts
  are-kept [] every free = record { all = refl; any = refl; truths = refl }
  are-kept (part ∷ parts) every free =
      let own : Scope = (part_of part).scope in
      let others : Scope = (all_parts part_of parts).scope in
      let first = every.0 (λ n t node last within. free n t node last (within-left own others n t within)) in
      let rest = are-kept parts every.1 (λ n t node last within. free n t node last (within-right own others n t within)) in
      record {
        all = λ i. first.0 i && rest.all i;
        any = λ i. first.0 i || rest.any i;
        truths = λ i. first.1 i ++ rest.truths i;
      }

  -- in its scope, as that is told
  free-in : (f : Formula Fact) (s : Scope) → (part_of f).scope ≡ s → AreFree (part_of f).scope → AreFree s
  free-in f s is free n t node last within = free n t node last (subst (λ x. IsWithin x n t) (sym is) within)

  atom-kept : (f : Formula Fact) → ((faults : List Parts) → truths_of w faults f ≡ said w faults f ∷ [])
      → said w from f ≡ said w to f → (said w from f ≡ said w to f) × (truths_of w from f ≡ truths_of w to f)
  atom-kept f truths is = (is, truths from ∙ ap (λ b. b ∷ []) is ∙ sym (truths to))

  abbrev truth_by : Formula Fact → List Parts → Bool
  truth_by f faults = said w faults f

  pub kept : (f : Formula Fact) → IsKept f
  kept =
      by_induction IsKept
      (record {
        all = λ parts every free.
            let each = are-kept parts every (free-in (kind.All parts) (all_parts part_of parts).scope (ap (λ (p : Part). p.scope) (part-All parts)) free) in
            let is = said-All w from parts ∙ each.all ∙ sym (said-All w to parts) in
            (is, truths-All w from parts ∙ (λ i. is i ∷ each.truths i) ∙ sym (truths-All w to parts));
        any = λ parts every free.
            let each = are-kept parts every (free-in (kind.Any parts) (all_parts part_of parts).scope (ap (λ (p : Part). p.scope) (part-Any parts)) free) in
            let is = said-Any w from parts ∙ each.any ∙ sym (said-Any w to parts) in
            (is, truths-Any w from parts ∙ (λ i. is i ∷ each.truths i) ∙ sym (truths-Any w to parts));
        down = λ n t free.
            let at = free-in (kind.Down n t) (scope_at n t) (ap (λ (p : Part). p.scope) (part-Down n t)) free in
            atom-kept (kind.Down n t) (λ faults. truths-Down w faults n t)
            (truth-Down (is_down w from) (is_shown w from) (is_single w from) n t
            ∙ ap not (up-same n t (λ node last. at n t node last (within-at n t)))
            ∙ sym (truth-Down (is_down w to) (is_shown w to) (is_single w to) n t));
        shows = λ n t fact free.
            let at = free-in (kind.Shows n t fact) (scope_at n t) (ap (λ (p : Part). p.scope) (part-Shows n t fact)) free in
            atom-kept (kind.Shows n t fact) (λ faults. truths-Shows w faults n t fact)
            (truth-Shows (is_down w from) (is_shown w from) (is_single w from) n t fact
            ∙ shown-same n t fact (λ node last. at n t node last (within-at n t))
            ∙ sym (truth-Shows (is_down w to) (is_shown w to) (is_single w to) n t fact));
        one = λ nodes last topic free.
            let at = free-in (kind.One nodes last topic) (scope_to nodes last) (ap (λ (p : Part). p.scope) (part-One nodes last topic)) free in
            atom-kept (kind.One nodes last topic) (λ faults. truths-One w faults nodes last topic)
            (truth-One (is_down w from) (is_shown w from) (is_single w from) nodes last topic
            ∙ single-same nodes last topic (λ n t below first early node within. at n t node within (record {
              node_first = omega arith;
              node_last = omega (arith, below);
              step_first = first;
              step_last = early;
            }))
            ∙ sym (truth-One (is_down w to) (is_shown w to) (is_single w to) nodes last topic));
        over = λ every first last parts own free.
            atom-kept (kind.Over every first last parts) (λ faults. truths-Over w faults every first last parts)
            (truth-Over (is_down w from) (is_shown w from) (is_single w from) every first last parts
            ∙ sym (truth-Over (is_down w to) (is_shown w to) (is_single w to) every first last parts));
      })

  -- and an atom whose one point isn't marked
  pub atom-free : (f : Formula Fact) (n t : ℕ) → (part_of f).scope ≡ scope_at n t → (n < w.rules.nodes → t ≤ w.horizon → is_marked points n t ≡ false)
      → said w from f ≡ said w to f
  atom-free f n t is free =
      (kept f (λ m u node last within.
      let at = at-point n t m u (subst (λ s. IsWithin s m u) is within) in
      ap (λ k. is_marked points k u) at.0 ∙ ap (λ k. is_marked points n k) at.1
      ∙ free (subst (λ k. k < w.rules.nodes) at.0 node) (subst (λ k. k ≤ w.horizon) at.1 last))).0

-- a formula is no larger than those among which it is
pub sizes-part : (parts : List (Formula Fact)) (i : ℕ) (d : Formula Fact) → i < length parts → size_of (get_or parts i d) ≤ sizes parts
sizes-part [] i d inside = absurd (omega (arith, inside))
sizes-part (x ∷ xs) zero d inside = omega arith
sizes-part (x ∷ xs) (suc i) d inside = let rest = sizes-part xs i d (omega (arith, inside)) in omega (arith, rest)

-- Truths among others
module _ {State Note : Type 0} (w : World State Note Fact) (to : List Parts) (points : List Bool) where
  -- whoever's truths they were, among others: now they are these
  abbrev pub Judges : ℕ → Bool → Bool → (List Parts → List Bool) → List Bool → List Bool → Type 0
  Judges at truth value truths old new =
      (from : List Parts) (before behind : List Bool) → AreSameBut w from to points → length before ≡ at → old ≡ before ++ (truths from ++ behind)
      → (truth ≡ value) × (new ≡ before ++ (truths to ++ behind))

  first-truth : (faults : List Parts) (f : Formula Fact) (at : ℕ) (before behind truths : List Bool) (d : Bool) → length before ≡ at
      → truths ≡ before ++ (truths_of w faults f ++ behind) → get_or truths at d ≡ said w faults f
  first-truth faults f at before behind truths d count is =
      let head = truths-head w faults f in
      ap (λ xs. get_or xs at d) (is ∙ ap (λ xs. before ++ (xs ++ behind)) head.1)
      ∙ ap (λ n. get_or (before ++ said w faults f ∷ (head.0 ++ behind)) n d) (sym count)
      ∙ get_or-append_seam before (said w faults f) (head.0 ++ behind) d

  -- a formula whose scope has no marked point stays as it is
  pub judges-apart : (f : Formula Fact) (at : ℕ) (truth d : Bool) (old : List Bool)
      → ((n t : ℕ) → n < w.rules.nodes → IsWithin (part_of f).scope n t → is_marked points n t ≡ false)
      → truth ≡ get_or old at d → Judges at truth (said w to f) (λ faults. truths_of w faults f) old old
  judges-apart f at truth d old free read from before behind same count is =
      let own = kept w from to points same f (λ n t node last within. free n t node within) in (
        read ∙ first-truth from f at before behind old d count is ∙ own.0,
        is ∙ ap (λ xs. before ++ (xs ++ behind)) own.1,
      )

  -- an atom's truth, put in its place
  pub judges-atom : (f : Formula Fact) (at : ℕ) (truth d : Bool) (old : List Bool) → ((faults : List Parts) → truths_of w faults f ≡ said w faults f ∷ [])
      → ((from : List Parts) → AreSameBut w from to points → get_or old at d ≡ said w from f → truth ≡ said w to f)
      → Judges at truth (said w to f) (λ faults. truths_of w faults f) old (set old at truth)
  judges-atom f at truth d old own judged from before behind same count is =
      let now = judged from same (first-truth from f at before behind old d count is) in (
        now,
        ap (λ xs. set xs at truth) (is ∙ ap (λ xs. before ++ (xs ++ behind)) (own from))
            ∙ set_at before (said w from f) behind truth at count ∙ ap (λ b. before ++ b ∷ behind) now
            ∙ ap (λ xs. before ++ (xs ++ behind)) (sym (own to)),
      )

  -- and that of a formula with parts, after those of its parts
  pub judges-node : (f : Formula Fact) (xs : List (Formula Fact)) (at : ℕ) (truth value : Bool) (old new : List Bool)
      → ((faults : List Parts) → truths_of w faults f ≡ said w faults f ∷ flat_map (truths_of w faults) xs) → value ≡ said w to f
      → Judges (at + 1) truth value (λ faults. flat_map (truths_of w faults) xs) old new
      → Judges at truth (said w to f) (λ faults. truths_of w faults f) old (set new at truth)
  judges-node f xs at truth value old new own is_value inner from before behind same count is =
      let was : Bool = said w from f in
      let within = inner from (before ++ was ∷ []) behind same (length_push before was ∙ ap (λ n. n + 1) count)
      (is ∙ ap (λ ys. before ++ (ys ++ behind)) (own from) ∙ sym (append_assoc before (was ∷ []) (flat_map (truths_of w from) xs ++ behind))) in
      let now : truth ≡ said w to f = within.0 ∙ is_value in (
        now,
        ap (λ ys. set ys at truth) (within.1 ∙ append_assoc before (was ∷ []) (flat_map (truths_of w to) xs ++ behind))
            ∙ set_at before was (flat_map (truths_of w to) xs ++ behind) truth at count
            ∙ ap (λ b. before ++ b ∷ (flat_map (truths_of w to) xs ++ behind)) now
            ∙ ap (λ ys. before ++ (ys ++ behind)) (sym (own to)),
      )

  -- Formulas that are gone through one by one
  module _ (fold : List (Formula Fact) → Bool) (ps : List Part) (parts : List (Formula Fact)) (first : ℕ) (old : List Bool) where
    -- the truths of the first i are judged again, and the next one stands at a place
    pub record SoFar (i at : ℕ) (truth : Bool) (truths : List Bool) : Type 0 where
      pub place : at ≡ first + sizes (take i parts)
      pub table : take (sizes (drop i parts)) (drop at ps) ≡ flat_map parts_of (drop i parts)
      pub count : length truths ≡ length old
      pub judged : (from : List Parts) (before behind : List Bool) → AreSameBut w from to points → length before ≡ first
          → old ≡ before ++ (flat_map (truths_of w from) parts ++ behind)
          → (truth ≡ fold (take i parts))
          × (truths ≡ (before ++ flat_map (truths_of w to) (take i parts)) ++ (flat_map (truths_of w from) (drop i parts) ++ behind))

    pub so_far-none : (truth : Bool) → truth ≡ fold [] → take (sizes parts) (drop first ps) ≡ flat_map parts_of parts → SoFar 0 first truth old
    so_far-none truth is table = record {
      place = omega arith;
      table = table;
      count = refl;
      judged = λ from before behind same count was. (is, was ∙ ap (λ xs. xs ++ (flat_map (truths_of w from) parts ++ behind)) (sym (append-nil before)));
    }

    size-push : (xs : List (Formula Fact)) (x : Formula Fact) → sizes (xs ++ x ∷ []) ≡ sizes xs + size_of x
    size-push [] x = omega arith
    size-push (y ∷ ys) x = let more = size-push ys x in omega (arith, more)

    module _ (i at : ℕ) (truth : Bool) (truths : List Bool) (part : Formula Fact) (inside : i < length parts) (is : part ≡ get_or parts i part)
        (so_far : SoFar i at truth truths) where
      abbrev later : List (Formula Fact)
      later = drop (i + 1) parts

      split : drop i parts ≡ part ∷ later
      split = drop_more parts i part inside ∙ ap (λ x. x ∷ later) (sym is)

      taken : take (i + 1) parts ≡ take i parts ++ part ∷ []
      taken = take_more parts i part inside ∙ ap (λ x. take i parts ++ x ∷ []) (sym is)

      table_now : take (size_of part + sizes later) (drop at ps) ≡ parts_of part ++ flat_map parts_of later
      table_now = subst (λ xs. take (sizes xs) (drop at ps) ≡ flat_map parts_of xs) split so_far.table

      pub next-at : take (size_of part) (drop at ps) ≡ parts_of part
      next-at = split-first (size_of part) (sizes later) at ps (parts_of part) (flat_map parts_of later) (parts-count part) table_now

      module _ (b next : Bool) (new : List Bool) (child : Judges at b (said w to part) (λ faults. truths_of w faults part) truths new)
          (same_count : length new ≡ length truths)
          (more : truth ≡ fold (take i parts) → b ≡ said w to part → next ≡ fold (take (i + 1) parts)) where
        further : (from : List Parts) (before behind : List Bool) → AreSameBut w from to points → length before ≡ first
            → old ≡ before ++ (flat_map (truths_of w from) parts ++ behind)
            → (next ≡ fold (take (i + 1) parts))
            × (new ≡ (before ++ flat_map (truths_of w to) (take (i + 1) parts)) ++ (flat_map (truths_of w from) later ++ behind))
        further from before behind same count was =
            let rest : List Bool = flat_map (truths_of w from) later in
            let done : List Bool = before ++ flat_map (truths_of w to) (take i parts) in
            let sofar = so_far.judged from before behind same count was in
            let long : length done ≡ at =
            length-append before (flat_map (truths_of w to) (take i parts)) ∙ (λ j. count j + flat-truths w to (take i parts) j) ∙ sym so_far.place in
            let open_now : truths ≡ done ++ (truths_of w from part ++ (rest ++ behind)) =
            sofar.1 ∙ ap (λ xs. done ++ (flat_map (truths_of w from) xs ++ behind)) split
            ∙ ap (λ xs. done ++ xs) (append_assoc (truths_of w from part) rest behind) in
            let judged_now = child from done (rest ++ behind) same long open_now in (
              more sofar.0 judged_now.0,
              judged_now.1 ∙ sym (append_assoc done (truths_of w to part) (rest ++ behind))
                  ∙ ap (λ xs. xs ++ (rest ++ behind))
                  (flat_map_more (truths_of w to) before (take i parts) part ∙ ap (λ xs. before ++ flat_map (truths_of w to) xs) (sym taken)),
            )

        pub one-further : SoFar (i + 1) (at + size_of part) next new
        one-further = record {
          place = let so = so_far.place in let grown = ap sizes taken ∙ size-push (take i parts) part in omega (arith, so, grown);
          table = split-rest (size_of part) (sizes later) at ps (parts_of part) (flat_map parts_of later) (parts-count part) table_now;
          count = same_count ∙ so_far.count;
          judged = further;
        }

    pub so_far-all : (i at : ℕ) (truth : Bool) (truths : List Bool) → length parts ≤ i → SoFar i at truth truths
        → Judges first truth (fold parts) (λ faults. flat_map (truths_of w faults) parts) old truths
    so_far-all i at truth truths far so_far from before behind same count was =
        let all = take_all i parts far in
        let sofar = so_far.judged from before behind same count was in (
          sofar.0 ∙ ap fold all,
          sofar.1 ∙ ap (λ xs. (before ++ flat_map (truths_of w to) xs) ++ (flat_map (truths_of w from) (drop i parts) ++ behind)) all
              ∙ ap (λ xs. (before ++ flat_map (truths_of w to) parts) ++ (flat_map (truths_of w from) xs ++ behind)) (drop_all i parts far)
              ∙ append_assoc before (flat_map (truths_of w to) parts) behind,
        )

  pub all-more : (parts : List (Formula Fact)) (i : ℕ) (part : Formula Fact) (truth b : Bool) → i < length parts → part ≡ get_or parts i part
      → truth ≡ list_all (said w to) (take i parts) → b ≡ said w to part → (truth && b) ≡ list_all (said w to) (take (i + 1) parts)
  all-more parts i part truth b inside is so one =
      (λ j. so j && one j) ∙ ap (λ x. list_all (said w to) (take i parts) && said w to x) is
      ∙ sym (list_all_more (said w to) parts i part inside)

  pub any-more : (parts : List (Formula Fact)) (i : ℕ) (part : Formula Fact) (truth b : Bool) → i < length parts → part ≡ get_or parts i part
      → truth ≡ list_any (said w to) (take i parts) → b ≡ said w to part → (truth || b) ≡ list_any (said w to) (take (i + 1) parts)
  any-more parts i part truth b inside is so one =
      (λ j. so j || one j) ∙ ap (λ x. list_any (said w to) (take i parts) || said w to x) is
      ∙ sym (list_any_more (said w to) parts i part inside)

-- A whole formula's truths
module _ {State Note : Type 0} (w : World State Note Fact) (faults : List Parts) where
  pub first-of_all : (f : Formula Fact) (truths : List Bool) (truth : Bool) → truths ≡ truths_of w faults f → Some truth ≡ slice_get truths 0
      → truth ≡ said w faults f
  first-of_all f truths truth is read =
      let head = truths-head w faults f in
      let same : Some truth ≡ Some (said w faults f) = read ∙ ap (λ xs. slice_get xs 0) (is ∙ head.1) in
      ap (λ o. unwrap_or o truth) same

  pub none-of_all : (f : Formula Fact) (truths : List Bool) → truths ≡ truths_of w faults f → None ≡ slice_get truths 0 → ⊥
  none-of_all f truths is read =
      let head = truths-head w faults f in
      let same : None ≡ Some (said w faults f) = read ∙ ap (λ xs. slice_get xs 0) (is ∙ head.1) in cc

  pub all-truths : (f : Formula Fact) (truths : List Bool) → truths ≡ truths_of w faults f → take (size_of f) truths ≡ truths_of w faults f
  all-truths f truths is =
      let count = truths-count w faults f in
      ap (take (size_of f)) is ∙ take_all (size_of f) (truths_of w faults f) (omega (arith, count))
