-- What a true formula rests on.
use Rattle.std.proofs.Common.{◌≡◌, ℕ, ◌+◌, ◌-◌, ◌<◌, ◌≤◌, Bool, true, false, not, cond, ◌&&◌, ◌||◌, List, [], ◌∷◌}
use Rattle.std.proofs.Common.{arith, ◌++◌, length, get_or, take, drop, refl, sym, ap, ◌∙◌, subst, inl, inr, map, append_assoc}
use Rattle.std.specs.Prelude.{Option, None, Some, IfSome, All, if◌then◌else◌}
use Rattle.std.specs.List.{filter, flat_map, list_all, list_any, AllByRecursion}
use Rattle.std.specs.Option.{is_some, option_map, option_and_then, unwrap_or}
use Rattle.std.proofs.lemmas.Bool.{and_parts, and_from, or_cases, or_left, or_right, false≢true}
use Rattle.std.proofs.lemmas.List.{append-nil, drop_more, drop_all, take_at}
use Rattle.std.proofs.lemmas.List.Elements.{All-append, All-nil, All-cons, All-head, All-tail}
use Rattle.lf_outcome.specs.declared.formula.Formula.{Formula, fold-roll-Formula}
use Rattle.lf_outcome.specs.declared.formula.Formula.TheVariants.{rolls-All, rolls-Any, rolls-Down, rolls-One, rolls-Over, rolls-Shows}
use Rattle.lf_outcome.specs.declared.formula.Formula.TheVariants as kind
use Rattle.lf_outcome.specs.declared.formula.Formula.TheOpen.{Formula-F}
use Rattle.lf_outcome.specs.declared.point.Point.{Point}
use Rattle.lf_outcome.specs.Truth.{points_to, truth}
use Rattle.lf_outcome.specs.Evidence.{all_of, first_of, points_up, rests_on, rests_step}
use Rattle.lf_outcome.proofs.Inductions.{by_induction}
use Rattle.lf_outcome.specs.Unfolding.{later, steps, unfold_at}
use Rattle.lf_outcome.proofs.TruthLemmas.{truth-All, truth-Any, truth-Down, truth-One, truth-Over, truth-Shows}
use Rattle.lf_outcome.proofs.UnfoldingLemmas.{all-steps, at-steps, in-steps, last-step, map-again, map-append, next-step, over, unfold-All, unfold-Any}
use Rattle.lf_outcome.proofs.UnfoldingLemmas.{unfold-Over}

-- `rests_on`, by the kind of the formula
module _ {Fact : Type 0} (down : ℕ → ℕ → Bool) (shown : ℕ → ℕ → Fact → Bool) (single : ℕ → ℕ → ℕ → Bool) where
  pub rests_on-All : (parts : List (Formula Fact)) → rests_on down shown single (kind.All parts) ≡ all_of (map (rests_on down shown single) parts)
  rests_on-All parts =
      ap (rests_on down shown single) (sym (rolls-All parts))
      ∙ fold-roll-Formula Fact (Option (List Point)) (rests_step down shown single) (Formula-F.All parts)

  pub rests_on-Any : (parts : List (Formula Fact)) → rests_on down shown single (kind.Any parts) ≡ first_of (map (rests_on down shown single) parts)
  rests_on-Any parts =
      ap (rests_on down shown single) (sym (rolls-Any parts))
      ∙ fold-roll-Formula Fact (Option (List Point)) (rests_step down shown single) (Formula-F.Any parts)

  pub rests_on-Down : (n t : ℕ) → rests_on down shown single (kind.Down n t) ≡ (if down n t then Some [] else None)
  rests_on-Down n t =
      ap (rests_on down shown single) (sym (rolls-Down n t))
      ∙ fold-roll-Formula Fact (Option (List Point)) (rests_step down shown single) (Formula-F.Down n t)

  pub rests_on-Shows : (n t : ℕ) (fact : Fact)
      → rests_on down shown single (kind.Shows n t fact) ≡ (if shown n t fact then Some (record { node = n; step = t } ∷ []) else None)
  rests_on-Shows n t fact =
      ap (rests_on down shown single) (sym (rolls-Shows n t fact))
      ∙ fold-roll-Formula Fact (Option (List Point)) (rests_step down shown single) (Formula-F.Shows n t fact)

  pub rests_on-One : (nodes last topic : ℕ)
      → rests_on down shown single (kind.One nodes last topic) ≡ (if single nodes last topic then Some (points_up down nodes last) else None)
  rests_on-One nodes last topic =
      ap (rests_on down shown single) (sym (rolls-One nodes last topic))
      ∙ fold-roll-Formula Fact (Option (List Point)) (rests_step down shown single) (Formula-F.One nodes last topic)

  pub rests_on-Over : (every : Bool) (first last : ℕ) (parts : List (Formula Fact)) → rests_on down shown single (kind.Over every first last parts) ≡ None
  rests_on-Over every first last parts =
      ap (rests_on down shown single) (sym (rolls-Over every first last parts))
      ∙ fold-roll-Formula Fact (Option (List Point)) (rests_step down shown single) (Formula-F.Over every first last parts)

-- one list more, which may be missing
abbrev joined : {A : Type 0} → Option (List A) → Option (List A) → Option (List A)
joined o r = option_and_then (λ xs. option_map (λ ys. xs ++ ys) r) o

joined-again : {A : Type 0} (o p r : Option (List A)) → joined (joined o p) r ≡ joined o (joined p r)
joined-again None p r = refl
joined-again (Some xs) None r = refl
joined-again (Some xs) (Some ys) None = refl
joined-again (Some xs) (Some ys) (Some zs) = ap Some (append_assoc xs ys zs)

from-none : {A : Type 0} (o : Option (List A)) → o ≡ joined (Some []) o
from-none None = refl
from-none (Some xs) = refl

all_of-append : {A : Type 0} (xs ys : List (Option (List A))) → all_of (xs ++ ys) ≡ joined (all_of xs) (all_of ys)
all_of-append [] ys = from-none (all_of ys)
all_of-append (o ∷ xs) ys = ap (joined o) (all_of-append xs ys) ∙ sym (joined-again o (all_of xs) (all_of ys))

first_of-append : {A : Type 0} (xs ys : List (Option A)) → first_of (xs ++ ys) ≡ first_of (first_of xs ∷ first_of ys ∷ [])
first_of-append [] [] = refl
first_of-append [] (None ∷ ys) = first_of-append [] ys
first_of-append [] (Some y ∷ ys) = refl
first_of-append (None ∷ xs) ys = first_of-append xs ys
first_of-append (Some x ∷ xs) ys = refl

first_of-one : {A : Type 0} (o : Option A) → first_of (o ∷ []) ≡ o
first_of-one None = refl
first_of-one (Some x) = refl

first_of-two : {A : Type 0} (o : Option A) (r : List (Option A)) → first_of (o ∷ first_of r ∷ []) ≡ first_of (o ∷ r)
first_of-two None r = first_of-one (first_of r)
first_of-two (Some x) r = refl

-- what a formula rests on, its steps counted from the step k
module _ {Fact : Type 0} (down : ℕ → ℕ → Bool) (shown : ℕ → ℕ → Fact → Bool) (single : ℕ → ℕ → ℕ → Bool) where
  abbrev rests_at : ℕ → Formula Fact → Option (List Point)
  rests_at k f = rests_on down shown single (unfold_at f k)

  rests_at-All : (parts : List (Formula Fact)) (k : ℕ) → rests_at k (kind.All parts) ≡ all_of (map (rests_at k) parts)
  rests_at-All parts k =
      ap (rests_on down shown single) (unfold-All parts k) ∙ rests_on-All down shown single (map (λ part. unfold_at part k) parts)
      ∙ ap all_of (map-again (rests_on down shown single) (λ part. unfold_at part k) parts)

  rests_at-Any : (parts : List (Formula Fact)) (k : ℕ) → rests_at k (kind.Any parts) ≡ first_of (map (rests_at k) parts)
  rests_at-Any parts k =
      ap (rests_on down shown single) (unfold-Any parts k) ∙ rests_on-Any down shown single (map (λ part. unfold_at part k) parts)
      ∙ ap first_of (map-again (rests_on down shown single) (λ part. unfold_at part k) parts)

  abbrev parts_at : List (Formula Fact) → ℕ → ℕ → List (Formula Fact)
  parts_at parts k t = map (λ part. unfold_at part (later k t)) parts

  all-over : (parts : List (Formula Fact)) (k : ℕ) (ts : List ℕ)
      → all_of (map (rests_on down shown single) (flat_map (parts_at parts k) ts)) ≡ all_of (map (λ t. all_of (map (rests_at (later k t)) parts)) ts)
  all-over parts k [] = refl
  all-over parts k (t ∷ ts) =
      let rest = flat_map (parts_at parts k) ts in
      ap all_of (map-append (rests_on down shown single) (parts_at parts k t) rest)
      ∙ all_of-append (map (rests_on down shown single) (parts_at parts k t)) (map (rests_on down shown single) rest)
      ∙ ap (λ fs. joined (all_of fs) (all_of (map (rests_on down shown single) rest)))
      (map-again (rests_on down shown single) (λ part. unfold_at part (later k t)) parts)
      ∙ ap (joined (all_of (map (rests_at (later k t)) parts))) (all-over parts k ts)

  any-over : (parts : List (Formula Fact)) (k : ℕ) (ts : List ℕ)
      → first_of (map (rests_on down shown single) (flat_map (parts_at parts k) ts)) ≡ first_of (map (λ t. first_of (map (rests_at (later k t)) parts)) ts)
  any-over parts k [] = refl
  any-over parts k (t ∷ ts) =
      let rest = flat_map (parts_at parts k) ts in
      let here = first_of (map (rests_at (later k t)) parts) in
      ap first_of (map-append (rests_on down shown single) (parts_at parts k t) rest)
      ∙ first_of-append (map (rests_on down shown single) (parts_at parts k t)) (map (rests_on down shown single) rest)
      ∙ ap (λ fs. first_of (first_of fs ∷ first_of (map (rests_on down shown single) rest) ∷ []))
      (map-again (rests_on down shown single) (λ part. unfold_at part (later k t)) parts)
      ∙ ap (λ o. first_of (here ∷ o ∷ [])) (any-over parts k ts)
      ∙ first_of-two here (map (λ u. first_of (map (rests_at (later k u)) parts)) ts)

  -- from what the parts rest on, as read
  pub rests_on-from_all : (f : Formula Fact) (parts xs : List (Formula Fact)) (k : ℕ) → f ≡ kind.All parts → xs ≡ parts
      → all_of (map (rests_at k) xs) ≡ rests_on down shown single (unfold_at f k)
  rests_on-from_all f parts xs k is read = ap (λ fs. all_of (map (rests_at k) fs)) read ∙ sym (rests_at-All parts k) ∙ ap (rests_at k) (sym is)

  pub rests_on-from_any : (f : Formula Fact) (parts xs : List (Formula Fact)) (k : ℕ) → f ≡ kind.Any parts → xs ≡ parts
      → first_of (map (rests_at k) xs) ≡ rests_on down shown single (unfold_at f k)
  rests_on-from_any f parts xs k is read = ap (λ fs. first_of (map (rests_at k) fs)) read ∙ sym (rests_at-Any parts k) ∙ ap (rests_at k) (sym is)

  pub rests_on-from_every : (f : Formula Fact) (every : Bool) (first last : ℕ) (parts xs : List (Formula Fact)) (k : ℕ)
      → f ≡ kind.Over every first last parts → every ≡ true → xs ≡ parts
      → all_of (map (λ t. all_of (map (rests_at (later k t)) xs)) (steps first last)) ≡ rests_on down shown single (unfold_at f k)
  rests_on-from_every f every first last parts xs k is so read =
      ap (λ fs. all_of (map (λ t. all_of (map (rests_at (later k t)) fs)) (steps first last))) read
      ∙ sym (ap (rests_on down shown single) (unfold-Over true first last parts k) ∙ rests_on-All down shown single (over k first last parts)
      ∙ all-over parts k (steps first last))
      ∙ ap (λ c. rests_at k (kind.Over c first last parts)) (sym so) ∙ ap (rests_at k) (sym is)

  pub rests_on-from_some : (f : Formula Fact) (every : Bool) (first last : ℕ) (parts xs : List (Formula Fact)) (k : ℕ)
      → f ≡ kind.Over every first last parts → every ≡ false → xs ≡ parts
      → first_of (map (λ t. first_of (map (rests_at (later k t)) xs)) (steps first last)) ≡ rests_on down shown single (unfold_at f k)
  rests_on-from_some f every first last parts xs k is so read =
      ap (λ fs. first_of (map (λ t. first_of (map (rests_at (later k t)) fs)) (steps first last))) read
      ∙ sym (ap (rests_on down shown single) (unfold-Over false first last parts k) ∙ rests_on-Any down shown single (over k first last parts)
      ∙ any-over parts k (steps first last))
      ∙ ap (λ c. rests_at k (kind.Over c first last parts)) (sym so) ∙ ap (rests_at k) (sym is)

is_some-joined : {A : Type 0} (o r : Option (List A)) → is_some (joined o r) ≡ (is_some o && is_some r)
is_some-joined None r = refl
is_some-joined (Some xs) None = refl
is_some-joined (Some xs) (Some ys) = refl

is_some-first : {A : Type 0} (o : Option A) (r : List (Option A)) → is_some (first_of (o ∷ r)) ≡ (is_some o || is_some (first_of r))
is_some-first None r = refl
is_some-first (Some x) r = refl

is_some-if : {A : Type 0} (b : Bool) (x : A) → is_some (if b then Some x else None) ≡ b
is_some-if true x = refl
is_some-if false x = refl

none-if : (b : Bool) (points : List Point) → points ≡ [] → unwrap_or (if b then Some points else None) [] ≡ []
none-if true points e = e
none-if false points e = refl

-- what is found at a node that is down, and at one that shows a fact or not, and what is put behind the points before
module _ {Fact : Type 0} (down : ℕ → ℕ → Bool) (shown : ℕ → ℕ → Fact → Bool) (single : ℕ → ℕ → ℕ → Bool) where
  abbrev some_of : Formula Fact → Bool
  some_of f = is_some (rests_on down shown single f)

  abbrev behind : List Point → Option (List Point) → List Point
  behind ps found = ps ++ unwrap_or found []

  pub found-down : (f : Formula Fact) (n t : ℕ) (b : Bool) → f ≡ kind.Down n t → b ≡ down n t → b ≡ is_some (rests_on down shown single f)
  found-down f n t b is h =
      h ∙ sym (is_some-if {A = List Point} (down n t) []) ∙ sym (ap is_some (rests_on-Down down shown single n t)) ∙ sym (ap some_of is)

  pub behind-down : (f : Formula Fact) (n t : ℕ) (ps : List Point) → f ≡ kind.Down n t → ps ≡ ps ++ unwrap_or (rests_on down shown single f) []
  behind-down f n t ps is =
      sym (ap (λ x. behind ps (rests_on down shown single x)) is ∙ ap (behind ps) (rests_on-Down down shown single n t)
      ∙ ap (λ xs. ps ++ xs) (none-if (down n t) [] refl) ∙ append-nil ps)

  pub found-shows : (f : Formula Fact) (n t : ℕ) (fact : Fact) (b : Bool) → f ≡ kind.Shows n t fact → b ≡ shown n t fact
      → b ≡ is_some (rests_on down shown single f)
  found-shows f n t fact b is h =
      h ∙ sym (is_some-if {A = List Point} (shown n t fact) (record { node = n; step = t } ∷ []))
      ∙ sym (ap is_some (rests_on-Shows down shown single n t fact)) ∙ sym (ap some_of is)

  pub behind-shows : (f : Formula Fact) (n t : ℕ) (fact : Fact) (ps : List Point) → f ≡ kind.Shows n t fact → shown n t fact ≡ true
      → ps ++ record { node = n; step = t } ∷ [] ≡ ps ++ unwrap_or (rests_on down shown single f) []
  behind-shows f n t fact ps is h =
      sym (ap (λ x. behind ps (rests_on down shown single x)) is ∙ ap (behind ps) (rests_on-Shows down shown single n t fact)
      ∙ ap (λ b. behind ps (if b then Some (record { node = n; step = t } ∷ []) else None)) h)

  pub behind-hidden : (f : Formula Fact) (n t : ℕ) (fact : Fact) (ps : List Point) → f ≡ kind.Shows n t fact → shown n t fact ≡ false
      → ps ≡ ps ++ unwrap_or (rests_on down shown single f) []
  behind-hidden f n t fact ps is h =
      sym (ap (λ x. behind ps (rests_on down shown single x)) is ∙ ap (behind ps) (rests_on-Shows down shown single n t fact)
      ∙ ap (λ b. behind ps (if b then Some (record { node = n; step = t } ∷ []) else None)) h ∙ append-nil ps)

  pub found-one : (f : Formula Fact) (nodes last topic : ℕ) (b : Bool) → f ≡ kind.One nodes last topic → b ≡ single nodes last topic
      → b ≡ is_some (rests_on down shown single f)
  found-one f nodes last topic b is h =
      h ∙ sym (is_some-if {A = List Point} (single nodes last topic) (points_up down nodes last))
      ∙ sym (ap is_some (rests_on-One down shown single nodes last topic)) ∙ sym (ap some_of is)

  pub behind-one : (f : Formula Fact) (nodes last topic : ℕ) (ps : List Point) → f ≡ kind.One nodes last topic → single nodes last topic ≡ true
      → ps ++ points_up down nodes last ≡ ps ++ unwrap_or (rests_on down shown single f) []
  behind-one f nodes last topic ps is h =
      sym (ap (λ x. behind ps (rests_on down shown single x)) is ∙ ap (behind ps) (rests_on-One down shown single nodes last topic)
      ∙ ap (λ b. behind ps (if b then Some (points_up down nodes last) else None)) h)

  pub behind-many : (f : Formula Fact) (nodes last topic : ℕ) (ps : List Point) → f ≡ kind.One nodes last topic → single nodes last topic ≡ false
      → ps ≡ ps ++ unwrap_or (rests_on down shown single f) []
  behind-many f nodes last topic ps is h =
      sym (ap (λ x. behind ps (rests_on down shown single x)) is ∙ ap (behind ps) (rests_on-One down shown single nodes last topic)
      ∙ ap (λ b. behind ps (if b then Some (points_up down nodes last) else None)) h ∙ append-nil ps)

-- a formula rests on something where it is true, and only there
module _ {Fact : Type 0} (down : ℕ → ℕ → Bool) (shown : ℕ → ℕ → Fact → Bool) (single : ℕ → ℕ → ℕ → Bool) where
  abbrev Agrees : Formula Fact → Type 0
  Agrees f = is_some (rests_on down shown single f) ≡ truth down shown single f

  some-all : (parts : List (Formula Fact)) → AllByRecursion Agrees parts
      → is_some (all_of (map (rests_on down shown single) parts)) ≡ list_all (truth down shown single) parts
  some-all [] h = refl
  some-all (f ∷ fs) h =
      let rest = all_of (map (rests_on down shown single) fs) in
      is_some-joined (rests_on down shown single f) rest
      ∙ ap (λ b. b && is_some rest) h.0 ∙ ap (λ b. truth down shown single f && b) (some-all fs h.1)

  some-any : (parts : List (Formula Fact)) → AllByRecursion Agrees parts
      → is_some (first_of (map (rests_on down shown single) parts)) ≡ list_any (truth down shown single) parts
  some-any [] h = refl
  some-any (f ∷ fs) h =
      let rest = map (rests_on down shown single) fs in
      is_some-first (rests_on down shown single f) rest
      ∙ ap (λ b. b || is_some (first_of rest)) h.0 ∙ ap (λ b. truth down shown single f || b) (some-any fs h.1)

  pub rests_on-truth : (f : Formula Fact) → is_some (rests_on down shown single f) ≡ truth down shown single f
  rests_on-truth = by_induction Agrees (record {
    all = λ parts h. ap is_some (rests_on-All down shown single parts) ∙ some-all parts h ∙ sym (truth-All down shown single parts);
    any = λ parts h. ap is_some (rests_on-Any down shown single parts) ∙ some-any parts h ∙ sym (truth-Any down shown single parts);
    down = λ n t. ap is_some (rests_on-Down down shown single n t) ∙ is_some-if (down n t) [] ∙ sym (truth-Down down shown single n t);
    shows = λ n t fact.
        ap is_some (rests_on-Shows down shown single n t fact) ∙ is_some-if (shown n t fact) (record { node = n; step = t } ∷ [])
        ∙ sym (truth-Shows down shown single n t fact);
    one = λ nodes last topic.
        ap is_some (rests_on-One down shown single nodes last topic) ∙ is_some-if (single nodes last topic) (points_up down nodes last)
        ∙ sym (truth-One down shown single nodes last topic);
    over = λ every first last parts h.
        ap is_some (rests_on-Over down shown single every first last parts) ∙ sym (truth-Over down shown single every first last parts);
  })

-- what holds by less holds by more
module _ {Fact : Type 0} (down later_down : ℕ → ℕ → Bool) (shown later_shown : ℕ → ℕ → Fact → Bool) (single later_single : ℕ → ℕ → ℕ → Bool)
    (downs : (n t : ℕ) → down n t ≡ true → later_down n t ≡ true)
    (shows : (n t : ℕ) (fact : Fact) → shown n t fact ≡ true → later_shown n t fact ≡ true)
    (ones : (nodes last topic : ℕ) → single nodes last topic ≡ true → later_single nodes last topic ≡ true) where
  abbrev Stays : Formula Fact → Type 0
  Stays f = truth down shown single f ≡ true → truth later_down later_shown later_single f ≡ true

  all-more : (parts : List (Formula Fact)) → AllByRecursion Stays parts
      → list_all (truth down shown single) parts ≡ true → list_all (truth later_down later_shown later_single) parts ≡ true
  all-more [] h e = refl
  all-more (f ∷ fs) h e =
      let p = and_parts (truth down shown single f) (list_all (truth down shown single) fs) e in
      and_from (truth later_down later_shown later_single f) (list_all (truth later_down later_shown later_single) fs) (h.0 p.0) (all-more fs h.1 p.1)

  any-more : (parts : List (Formula Fact)) → AllByRecursion Stays parts
      → list_any (truth down shown single) parts ≡ true → list_any (truth later_down later_shown later_single) parts ≡ true
  any-more [] h e = e
  any-more (f ∷ fs) h e =
      let here = truth later_down later_shown later_single f in
      let rest = list_any (truth later_down later_shown later_single) fs in
      elim (or_cases (truth down shown single f) (list_any (truth down shown single) fs) e) [
        | inl first ↦ or_left here rest (h.0 first)
        | inr later ↦ or_right here rest (any-more fs h.1 later)
      ]

  pub truth-more : (f : Formula Fact) → truth down shown single f ≡ true → truth later_down later_shown later_single f ≡ true
  truth-more = by_induction Stays (record {
    all = λ parts h e. truth-All later_down later_shown later_single parts ∙ all-more parts h (sym (truth-All down shown single parts) ∙ e);
    any = λ parts h e. truth-Any later_down later_shown later_single parts ∙ any-more parts h (sym (truth-Any down shown single parts) ∙ e);
    down = λ n t e. truth-Down later_down later_shown later_single n t ∙ downs n t (sym (truth-Down down shown single n t) ∙ e);
    shows = λ n t fact e. truth-Shows later_down later_shown later_single n t fact ∙ shows n t fact (sym (truth-Shows down shown single n t fact) ∙ e);
    one = λ nodes last topic e.
        truth-One later_down later_shown later_single nodes last topic ∙ ones nodes last topic (sym (truth-One down shown single nodes last topic) ∙ e);
    over = λ every first last parts h e. absurd (false≢true (sym (truth-Over down shown single every first last parts) ∙ e));
  })

-- what holds of each point of two lists, and of the first list that is there
IfSome-joined : {A : Type 0} (P : A → Type 0) (o r : Option (List A)) → IfSome o (All P) → IfSome r (All P) → IfSome (joined o r) (All P)
IfSome-joined P None r h k = tt
IfSome-joined P (Some xs) None h k = tt
IfSome-joined P (Some xs) (Some ys) h k = All-append P xs ys h k

IfSome-first : {A : Type 0} (P : A → Type 0) (o : Option A) (r : List (Option A)) → IfSome o P → IfSome (first_of r) P → IfSome (first_of (o ∷ r)) P
IfSome-first P None r h k = k
IfSome-first P (Some x) r h k = h

IfSome-if : {A : Type 0} (P : A → Type 0) (b : Bool) (x : A) → (b ≡ true → P x) → IfSome (if b then Some x else None) P
IfSome-if P true x h = h refl
IfSome-if P false x h = tt

-- what holds of each point at which a fact is shown holds of each point on which a formula rests
module _ {Fact : Type 0} (down : ℕ → ℕ → Bool) (shown : ℕ → ℕ → Fact → Bool) (single : ℕ → ℕ → ℕ → Bool) (P : Point → Type 0)
    (here : (n t : ℕ) (fact : Fact) → shown n t fact ≡ true → P (record { node = n; step = t }))
    (awake : (p : Point) → down p.node p.step ≡ false → P p) where
  abbrev woken : List Point → List Point
  woken = filter (λ p. not (down p.node p.step))

  awake-one : (p : Point) (ps : List Point) (b : Bool) → down p.node p.step ≡ b → All P (woken ps) → All P (woken (p ∷ ps))
  awake-one p ps true e rest = rw e rest
  awake-one p ps false e rest = rw e (All-cons P p (woken ps) (awake p e) rest)

  awake-each : (points : List Point) → All P (woken points)
  awake-each [] = All-nil P
  awake-each (p ∷ ps) = awake-one p ps (down p.node p.step) refl (awake-each ps)

  abbrev Rests : Formula Fact → Type 0
  Rests f = IfSome (rests_on down shown single f) (All P)

  rests-all : (parts : List (Formula Fact)) → AllByRecursion Rests parts → IfSome (all_of (map (rests_on down shown single) parts)) (All P)
  rests-all [] h = All-nil P
  rests-all (f ∷ fs) h =
      IfSome-joined P (rests_on down shown single f) (all_of (map (rests_on down shown single) fs)) h.0 (rests-all fs h.1)

  rests-any : (parts : List (Formula Fact)) → AllByRecursion Rests parts → IfSome (first_of (map (rests_on down shown single) parts)) (All P)
  rests-any [] h = tt
  rests-any (f ∷ fs) h =
      IfSome-first (All P) (rests_on down shown single f) (map (rests_on down shown single) fs) h.0 (rests-any fs h.1)

  pub rests_on-points : (f : Formula Fact) → IfSome (rests_on down shown single f) (All P)
  rests_on-points = by_induction Rests (record {
    all = λ parts h. rw (rests_on-All down shown single parts) (rests-all parts h);
    any = λ parts h. rw (rests_on-Any down shown single parts) (rests-any parts h);
    down = λ n t. rw (rests_on-Down down shown single n t) (IfSome-if (All P) (down n t) [] (λ _. All-nil P));
    shows = λ n t fact. rw (rests_on-Shows down shown single n t fact)
        (IfSome-if (All P) (shown n t fact) (record { node = n; step = t } ∷ [])
        (λ e. All-cons P (record { node = n; step = t }) [] (here n t fact e) (All-nil P)));
    one = λ nodes last topic. rw (rests_on-One down shown single nodes last topic)
        (IfSome-if (All P) (single nodes last topic) (points_up down nodes last) (λ _. awake-each (points_to nodes last)));
    over = λ every first last parts h. rw (rests_on-Over down shown single every first last parts) tt;
  })

All-left : {A : Type 0} (P : A → Type 0) (xs ys : List A) → All P (xs ++ ys) → All P xs
All-left P [] ys every = All-nil P
All-left P (x ∷ xs) ys every = All-cons P x xs (All-head P x (xs ++ ys) every) (All-left P xs ys (All-tail P x (xs ++ ys) every))

All-right : {A : Type 0} (P : A → Type 0) (xs ys : List A) → All P (xs ++ ys) → All P ys
All-right P [] ys every = every
All-right P (x ∷ xs) ys every = All-right P xs ys (All-tail P x (xs ++ ys) every)

-- a formula is true by the points alone on which it rests
module _ {Fact : Type 0} (down : ℕ → ℕ → Bool) (shown : ℕ → ℕ → Fact → Bool) (single : ℕ → ℕ → ℕ → Bool) (counts : ℕ → ℕ → Bool) where
  abbrev single_counted : ℕ → ℕ → ℕ → Bool
  single_counted nodes last topic = list_all (λ p. down p.node p.step || counts p.node p.step) (points_to nodes last) && single nodes last topic

  abbrev T : Formula Fact → Bool
  T = truth down (λ n t fact. counts n t && shown n t fact) single_counted

  abbrev Counts : Point → Type 0
  Counts p = counts p.node p.step ≡ true

  abbrev Suffices : Formula Fact → Type 0
  Suffices f = IfSome (rests_on down shown single f) (λ points. All Counts points → T f ≡ true)

  joined-true : (o r : Option (List Point)) (a b : Bool) → IfSome o (λ points. All Counts points → a ≡ true)
      → IfSome r (λ points. All Counts points → b ≡ true) → IfSome (joined o r) (λ points. All Counts points → (a && b) ≡ true)
  joined-true None r a b h k = tt
  joined-true (Some xs) None a b h k = tt
  joined-true (Some xs) (Some ys) a b h k =
      λ every. and_from a b (h (All-left Counts xs ys every)) (k (All-right Counts xs ys every))

  weaker : (o : Option (List Point)) (a b : Bool) → IfSome o (λ points. All Counts points → b ≡ true)
      → IfSome o (λ points. All Counts points → (a || b) ≡ true)
  weaker None a b h = tt
  weaker (Some xs) a b h = λ every. or_right a b (h every)

  first-true : (o : Option (List Point)) (r : List (Option (List Point))) (a b : Bool) → IfSome o (λ points. All Counts points → a ≡ true)
      → IfSome (first_of r) (λ points. All Counts points → b ≡ true)
      → IfSome (first_of (o ∷ r)) (λ points. All Counts points → (a || b) ≡ true)
  first-true None r a b h k = weaker (first_of r) a b k
  first-true (Some xs) r a b h k = λ every. or_left a b (h every)

  suffices-all : (parts : List (Formula Fact)) → AllByRecursion Suffices parts
      → IfSome (all_of (map (rests_on down shown single) parts)) (λ points. All Counts points → list_all T parts ≡ true)
  suffices-all [] h = λ every. refl
  suffices-all (f ∷ fs) h =
      joined-true (rests_on down shown single f) (all_of (map (rests_on down shown single) fs)) (T f) (list_all T fs) h.0 (suffices-all fs h.1)

  suffices-any : (parts : List (Formula Fact)) → AllByRecursion Suffices parts
      → IfSome (first_of (map (rests_on down shown single) parts)) (λ points. All Counts points → list_any T parts ≡ true)
  suffices-any [] h = tt
  suffices-any (f ∷ fs) h =
      first-true (rests_on down shown single f) (map (rests_on down shown single) fs) (T f) (list_any T fs) h.0 (suffices-any fs h.1)

  -- points that count where their nodes are up
  abbrev up_of : List Point → List Point
  up_of = filter (λ p. not (down p.node p.step))

  abbrev ok : Point → Bool
  ok p = down p.node p.step || counts p.node p.step

  counts-one : (p : Point) (ps : List Point) (b : Bool) → down p.node p.step ≡ b → (All Counts (up_of ps) → list_all ok ps ≡ true)
      → All Counts (cond (not b) (p ∷ up_of ps) (up_of ps)) → ((b || counts p.node p.step) && list_all ok ps) ≡ true
  counts-one p ps true e rest every = rest every
  counts-one p ps false e rest every =
      and_from (counts p.node p.step) (list_all ok ps) (All-head Counts p (up_of ps) every) (rest (All-tail Counts p (up_of ps) every))

  counts-each : (points : List Point) → All Counts (up_of points) → list_all ok points ≡ true
  counts-each [] every = refl
  counts-each (p ∷ ps) every = counts-one p ps (down p.node p.step) refl (counts-each ps) every

  abbrev counted : ℕ → ℕ → Fact → Bool
  counted n t fact = counts n t && shown n t fact

  pub rests_on-suffices : (f : Formula Fact)
      → IfSome (rests_on down shown single f) (λ points. All Counts points → T f ≡ true)
  rests_on-suffices = by_induction Suffices (record {
    all = λ parts h. rw (rests_on-All down shown single parts, truth-All down counted single_counted parts) (suffices-all parts h);
    any = λ parts h. rw (rests_on-Any down shown single parts, truth-Any down counted single_counted parts) (suffices-any parts h);
    down = λ n t. rw (rests_on-Down down shown single n t, truth-Down down counted single_counted n t)
        (IfSome-if (λ points. All Counts points → down n t ≡ true) (down n t) [] (λ e every. e));
    shows = λ n t fact. rw (rests_on-Shows down shown single n t fact, truth-Shows down counted single_counted n t fact)
        (IfSome-if (λ points. All Counts points → counted n t fact ≡ true) (shown n t fact) (record { node = n; step = t } ∷ [])
        (λ e every. and_from (counts n t) (shown n t fact) (All-head Counts (record { node = n; step = t }) [] every) e));
    one = λ nodes last topic. rw (rests_on-One down shown single nodes last topic, truth-One down counted single_counted nodes last topic)
        (IfSome-if (λ points. All Counts points → single_counted nodes last topic ≡ true) (single nodes last topic) (points_up down nodes last)
        (λ e every. and_from (list_all ok (points_to nodes last)) (single nodes last topic)
        (counts-each (points_to nodes last) every) e));
    over = λ every first last parts h. rw (rests_on-Over down shown single every first last parts) tt;
  })

-- a list that is there, and one that is missing
is_there : {A : Type 0} (o : Option (List A)) → is_some o ≡ true → o ≡ Some (unwrap_or o [])
is_there None h = absurd cc
is_there (Some xs) h = refl

pub is_missing : {A : Type 0} (o : Option A) → is_some o ≡ false → o ≡ None
is_missing None h = refl
is_missing (Some x) h = absurd cc

first-there : {A : Type 0} (o : Option A) (r : List (Option A)) → is_some o ≡ true → first_of (o ∷ r) ≡ o
first-there None r h = absurd cc
first-there (Some x) r h = refl

same_map : {A : Type 0} (o : Option (List A)) → o ≡ option_map (λ ys. [] ++ ys) o
same_map None = refl
same_map (Some xs) = refl

regrouped : {A : Type 0} (xs ys : List A) (o : Option (List A))
    → option_map (λ zs. xs ++ zs) (joined (Some ys) o) ≡ option_map (λ zs. (xs ++ ys) ++ zs) o
regrouped xs ys None = refl
regrouped xs ys (Some zs) = ap Some (sym (append_assoc xs ys zs))

-- a list that was found, and what is true of it
module _ {A : Type 0} (o : Option (List A)) (b : Bool) (items : List A) (found : b ≡ is_some o) (is : items ≡ [] ++ unwrap_or o []) (is_so : b ≡ true) where
  pub it_is : o ≡ Some items
  it_is = is_there o (sym found ∙ is_so) ∙ ap Some (sym is)

  pub true_of_it : (P : List A → Type 0) → IfSome o P → P items
  true_of_it P h = subst (λ p. IfSome p P) it_is h

-- a list on the way through the parts of an All
module _ {F : Type 0} (S : F → Option (List Point)) (parts : List F) where
  -- the first i parts are true, and their points are put behind those of the list
  pub record IsGathered (i : ℕ) (before now : List Point) : Type 0 where
    pub sofar : List Point
    pub items : now ≡ before ++ sofar
    pub rest : all_of (map S parts) ≡ option_map (λ ys. sofar ++ ys) (all_of (map S (drop i parts)))

  pub gathered-none : (before : List Point) → IsGathered 0 before before
  gathered-none before = record { sofar = []; items = sym (append-nil before); rest = same_map (all_of (map S parts)) }

  -- the parts from i on, where x is the one at i
  from_here : (i : ℕ) (x : F) → i < length parts → x ≡ get_or parts i x → drop i parts ≡ x ∷ drop (i + 1) parts
  from_here i x within is = drop_more parts i x within ∙ ap (λ y. y ∷ drop (i + 1) parts) (sym is)

  module _ (i : ℕ) (x : F) (within : i < length parts) (is : x ≡ get_or parts i x) (before now new : List Point) (sofar : IsGathered i before now)
      (b : Bool) (found : b ≡ is_some (S x)) (more : new ≡ now ++ unwrap_or (S x) []) where
    here : all_of (map S parts) ≡ option_map (λ ys. sofar.sofar ++ ys) (joined (S x) (all_of (map S (drop (i + 1) parts))))
    here = sofar.rest ∙ ap (λ fs. option_map (λ ys. sofar.sofar ++ ys) (all_of (map S fs))) (from_here i x within is)

    pub gathered-more : b ≡ true → IsGathered (i + 1) before new
    gathered-more is_so =
        let there = is_there (S x) (sym found ∙ is_so) in
        record {
          sofar = sofar.sofar ++ unwrap_or (S x) [];
          items = more ∙ ap (λ ys. ys ++ unwrap_or (S x) []) sofar.items ∙ append_assoc before sofar.sofar (unwrap_or (S x) []);
          rest = here ∙ ap (λ o. option_map (λ ys. sofar.sofar ++ ys) (joined o (all_of (map S (drop (i + 1) parts))))) there
              ∙ regrouped sofar.sofar (unwrap_or (S x) []) (all_of (map S (drop (i + 1) parts)));
        }

    pub gathered-missing : b ≡ false → all_of (map S parts) ≡ None
    gathered-missing is_not =
        here ∙ ap (λ o. option_map (λ ys. sofar.sofar ++ ys) (joined o (all_of (map S (drop (i + 1) parts))))) (is_missing (S x) (sym found ∙ is_not))

    pub gathered-back : (cut : List Point) → cut ≡ take (length before) new → cut ≡ before
    gathered-back cut is_cut =
        is_cut ∙ ap (take (length before)) (more ∙ ap (λ ys. ys ++ unwrap_or (S x) []) sofar.items ∙ append_assoc before sofar.sofar (unwrap_or (S x) []))
        ∙ take_at before (sofar.sofar ++ unwrap_or (S x) []) (length before) refl

  pub gathered-all : (i : ℕ) (before now : List Point) → length parts ≤ i → (sofar : IsGathered i before now) → all_of (map S parts) ≡ Some sofar.sofar
  gathered-all i before now far sofar =
      sofar.rest ∙ ap (λ fs. option_map (λ ys. sofar.sofar ++ ys) (all_of (map S fs))) (drop_all i parts far)
      ∙ ap Some (append-nil sofar.sofar)

  -- the first true part of an Any, after parts that are false
  module _ (i : ℕ) (x : F) (within : i < length parts) (is : x ≡ get_or parts i x)
      (rest : first_of (map S parts) ≡ first_of (map S (drop i parts))) (b : Bool) (found : b ≡ is_some (S x)) where
    at_x : first_of (map S parts) ≡ first_of (S x ∷ map S (drop (i + 1) parts))
    at_x = rest ∙ ap (λ fs. first_of (map S fs)) (from_here i x within is)

    pub first-found : b ≡ true → first_of (map S parts) ≡ S x
    first-found is_so = at_x ∙ first-there (S x) (map S (drop (i + 1) parts)) (sym found ∙ is_so)

    pub first-later : b ≡ false → first_of (map S parts) ≡ first_of (map S (drop (i + 1) parts))
    first-later is_not = at_x ∙ ap (λ o. first_of (o ∷ map S (drop (i + 1) parts))) (is_missing (S x) (sym found ∙ is_not))

  pub first-none : (i : ℕ) → length parts ≤ i → first_of (map S parts) ≡ first_of (map S (drop i parts)) → first_of (map S parts) ≡ None
  first-none i far rest = rest ∙ ap (λ fs. first_of (map S fs)) (drop_all i parts far)

-- a list on the way through the parts of an Any: the first i parts are false, and the list is as it was
abbrev pub IsPassed : {F : Type 0} → (F → Option (List Point)) → List F → ℕ → List Point → List Point → Type 0
IsPassed S parts i before now = (now ≡ before) × (first_of (map S parts) ≡ first_of (map S (drop i parts)))

-- before the first step
module _ (S : ℕ → Option (List Point)) (first last : ℕ) (before : List Point) where
  none-yet : first - first ≡ 0
  none-yet = omega arith

  pub steps-gathered-none : IsGathered S (steps first last) (first - first) before before
  steps-gathered-none = subst (λ i. IsGathered S (steps first last) i before before) (sym none-yet) (gathered-none S (steps first last) before)

  pub steps-passed-none : IsPassed S (steps first last) (first - first) before before
  steps-passed-none = (refl, ap (λ i. first_of (map S (drop i (steps first last)))) (sym none-yet))

-- at a step, and after the last
module _ (S : ℕ → Option (List Point)) (first last t : ℕ) (low : first ≤ t) (before now : List Point) where
  abbrev items_of : Option (List Point) → List Point
  items_of o = before ++ unwrap_or o []

  module _ (new : List Point) (high : t ≤ last) (b : Bool) (found : b ≡ is_some (S t)) (more : new ≡ now ++ unwrap_or (S t) []) where
    module _ (sofar : IsGathered S (steps first last) (t - first) before now) where
      next : b ≡ true → IsGathered S (steps first last) ((t - first) + 1) before new
      next =
          gathered-more S (steps first last) (t - first) t (in-steps first last t low high) (at-steps first last t low high) before now new sofar b
          found more

      missing : b ≡ false → all_of (map S (steps first last)) ≡ None
      missing =
          gathered-missing S (steps first last) (t - first) t (in-steps first last t low high)
          (at-steps first last t low high) before now new sofar b found more

      pub steps-gathered-more : b ≡ true → IsGathered S (steps first last) ((t + 1) - first) before new
      steps-gathered-more so = subst (λ i. IsGathered S (steps first last) i before new) (sym (next-step first last t low)) (next so)

      pub steps-gathered-end : last ≤ t → b ≡ true → (true ≡ is_some (all_of (map S (steps first last)))) × (new ≡ items_of (all_of (map S (steps first last))))
      steps-gathered-end end so =
          let all = gathered-all S (steps first last) ((t - first) + 1) before new (last-step first last t low end) (next so) in
          (sym (ap is_some all), (next so).items ∙ ap items_of (sym all))

      pub steps-missing : (cut : List Point) → cut ≡ take (length before) new → b ≡ false
          → (false ≡ is_some (all_of (map S (steps first last)))) × (cut ≡ items_of (all_of (map S (steps first last))))
      steps-missing cut is so = (
        sym (ap is_some (missing so)),
        gathered-back S (steps first last) (t - first) t (in-steps first last t low high)
            (at-steps first last t low high) before now new sofar b found more cut is
            ∙ sym (append-nil before) ∙ ap items_of (sym (missing so)),
      )

    module _ (sofar : IsPassed S (steps first last) (t - first) before now) where
      later-part : b ≡ false → first_of (map S (steps first last)) ≡ first_of (map S (drop ((t - first) + 1) (steps first last)))
      later-part =
          first-later S (steps first last) (t - first) t (in-steps first last t low high) (at-steps first last t low high) sofar.1 b found

      as_before : b ≡ false → new ≡ before
      as_before so =
          more ∙ ap (λ o. now ++ unwrap_or o []) (is_missing (S t) (sym found ∙ so)) ∙ append-nil now ∙ sofar.0

      pub steps-passed-more : b ≡ false → IsPassed S (steps first last) ((t + 1) - first) before new
      steps-passed-more so = (
        as_before so,
        later-part so ∙ ap (λ i. first_of (map S (drop i (steps first last)))) (sym (next-step first last t low)),
      )

      pub steps-passed-end : last ≤ t → b ≡ false
          → (false ≡ is_some (first_of (map S (steps first last)))) × (new ≡ items_of (first_of (map S (steps first last))))
      steps-passed-end end so =
          let none = first-none S (steps first last) ((t - first) + 1) (last-step first last t low end) (later-part so) in
          (sym (ap is_some none), as_before so ∙ sym (append-nil before) ∙ ap items_of (sym none))

      pub steps-found : b ≡ true → (true ≡ is_some (first_of (map S (steps first last)))) × (new ≡ items_of (first_of (map S (steps first last))))
      steps-found so =
          let it = first-found S (steps first last) (t - first) t (in-steps first last t low high) (at-steps first last t low high) sofar.1 b found so in
          (sym so ∙ found ∙ ap is_some (sym it), more ∙ ap (λ ps. ps ++ unwrap_or (S t) []) sofar.0 ∙ ap items_of (sym it))

  pub steps-gathered-all : last < t → IsGathered S (steps first last) (t - first) before now
      → (true ≡ is_some (all_of (map S (steps first last)))) × (now ≡ items_of (all_of (map S (steps first last))))
  steps-gathered-all past sofar =
      let all = gathered-all S (steps first last) (t - first) before now (all-steps first last t low past) sofar in
      (sym (ap is_some all), sofar.items ∙ ap items_of (sym all))

  pub steps-passed-all : last < t → IsPassed S (steps first last) (t - first) before now
      → (false ≡ is_some (first_of (map S (steps first last)))) × (now ≡ items_of (first_of (map S (steps first last))))
  steps-passed-all past sofar =
      let none = first-none S (steps first last) (t - first) (all-steps first last t low past) sofar.1 in
      (sym (ap is_some none), sofar.0 ∙ sym (append-nil before) ∙ ap items_of (sym none))
