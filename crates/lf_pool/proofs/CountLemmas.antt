-- How many sets are answered: filing raises it by one, and nothing else changes it.
use Rattle.std.proofs.Common.{◌≡◌, ◌≢◌, ℕ, ◌+◌, ◌<◌, refl, sym, ap, ◌∙◌, subst, arith, List, [], ◌∷◌, length, inl, inr}
use Rattle.std.specs.Prelude.{◌⊎◌, Option, None, Some, IsSome}
use Rattle.std.specs.Option.{option_map}
use Rattle.std.specs.List.{Contains}
use mathlib.Core.Logic.{∥∥₁_map}
use Rattle.std.proofs.lemmas.Bool.{cases_eq}
use Rattle.lf_list.proofs.Laws.{none-in, Contains-first, Contains-more, cases_in, each-from, decide_some_below}
use Rattle.lf_marks.specs.Steps.{Mark, Marking, kid_of, kids_beneath, IsAnswer, IsShape, IsSame, Took, Answered, GaveBack, Reclaimed, WentDown}
use Rattle.lf_marks.specs.Steps.{freed, raised, only_root}
use Rattle.lf_marks.specs.Steps as mark
use Rattle.lf_marks.specs.Counting.{AreThose, IsCount, OfKind}

-- the paths with a property, each once
Listing : (List ℕ → Type 0) → ℕ → Type 0
Listing P n = (ps : List (List ℕ)) × AreThose P ps × (length ps ≡ n)

-- the same property in other words
pub count-same : (P Q : List ℕ → Type 0) → ((p : List ℕ) → P p → Q p) → ((p : List ℕ) → Q p → P p) → (n : ℕ) → IsCount P n → IsCount Q n
count-same P Q to from n c = ∥∥₁_map c (λ l. (
  l.0,
  record { apart = l.1.apart; all = λ p h. l.1.all p (from p h); only = λ p h. to p (l.1.only p h) },
  l.2,
))

-- one path more
more_listing : (P Q : List ℕ → Type 0) (p : List ℕ) → (P p → ⊥) → Q p → ((q : List ℕ) → P q → Q q) → ((q : List ℕ) → Q q → P q ⊎ (q ≡ p))
    → (n : ℕ) → Listing P n → Listing Q (n + 1)
unfolding Listing
more_listing P Q p out is to from n l = (
  p ∷ l.0,
  record {
    apart = (each-from (λ q. p ≢ q) l.0 (λ q h e. out (subst P (sym e) (l.1.only q h))), l.1.apart);
    all = λ q h. elim (from q h) [
      | inl old ↦ Contains-more p l.0 q (l.1.all q old)
      | inr same ↦ subst (λ r. Contains (p ∷ l.0) r) (sym same) (Contains-first p l.0)
    ];
    only = λ q h. elim (cases_in p l.0 q h) [
      | inl same ↦ subst Q same is
      | inr old ↦ to q (l.1.only q old)
    ];
  },
  omega (arith, l.2),
)

count_more : (P Q : List ℕ → Type 0) (p : List ℕ) → (P p → ⊥) → Q p → ((q : List ℕ) → P q → Q q) → ((q : List ℕ) → Q q → P q ⊎ (q ≡ p))
    → (n : ℕ) → IsCount P n → IsCount Q (n + 1)
unfolding Listing
count_more P Q p out is to from n c = ∥∥₁_map c (more_listing P Q p out is to from n)

-- no path
count_none : (P : List ℕ → Type 0) → ((p : List ℕ) → P p → ⊥) → IsCount P 0
count_none P never = ∣ ([], record { apart = tt; all = λ p h. absurd (never p h); only = λ p h. absurd (none-in p h) }, refl) ∣₁

-- whether two paths are one
cases_path : (p q : List ℕ) → (p ≡ q) ⊎ (p ≡ q → ⊥)
cases_path [] [] = inl refl
cases_path [] (j ∷ q) = inr (λ e. cc)
cases_path (i ∷ p) [] = inr (λ e. cc)
cases_path (i ∷ p) (j ∷ q) = elim (cases_eq i j) [
  | inr other ↦ inr (λ e. other cc)
  | inl same ↦ elim (cases_path p q) [
    | inl rest ↦ inl cc
    | inr apart ↦ inr (λ e. apart cc)
  ]
]

-- whether a path is that of one of the first kids of a set
cases_kid : (p : List ℕ) (n : ℕ) (q : List ℕ) → ((i : ℕ) × (i < n) × (q ≡ kid_of p i)) ⊎ ((i : ℕ) → i < n → q ≢ kid_of p i)
cases_kid p n q = elim (decide_some_below (λ i. q ≡ kid_of p i) (λ i. cases_path q (kid_of p i)) n) [
  | inl found ↦ inl found
  | inr none ↦ inr (λ i few e. none (i, few, e))
]

-- answered sets
abbrev pub Counted : Marking → ℕ → Type 0
Counted at = IsCount (λ q. OfKind IsAnswer (at q))

answer_stands : (o : Option Mark) → OfKind IsAnswer o → IsSome o
answer_stands None h = absurd h
answer_stands (Some m) h = refl

-- at the beginning none is
root_unanswered : (p : List ℕ) → OfKind IsAnswer (only_root p) → ⊥
root_unanswered [] h = h
root_unanswered (i ∷ p) h = h

pub start-counted : (at : Marking) → IsSame only_root at → Counted at 0
start-counted at same = count_none (λ q. OfKind IsAnswer (at q)) (λ p h. root_unanswered p (subst (OfKind IsAnswer) (same p) h))

-- nothing changed
pub same-counted : (old new : Marking) (n : ℕ) → IsSame old new → Counted old n → Counted new n
same-counted old new n same = count-same (λ q. OfKind IsAnswer (old q)) (λ q. OfKind IsAnswer (new q))
    (λ q h. subst (OfKind IsAnswer) (sym (same q)) h) (λ q h. subst (OfKind IsAnswer) (same q) h) n

-- a set that wasn't answered still isn't
changed_counted : (old new : Marking) (p : List ℕ) (n : ℕ) → (OfKind IsAnswer (old p) → ⊥) → (OfKind IsAnswer (new p) → ⊥)
    → ((q : List ℕ) → q ≢ p → new q ≡ old q) → Counted old n → Counted new n
changed_counted old new p n out gone others = count-same (λ q. OfKind IsAnswer (old q)) (λ q. OfKind IsAnswer (new q))
    (λ q h. subst (OfKind IsAnswer) (sym (others q (λ e. out (subst (λ r. OfKind IsAnswer (old r)) e h)))) h)
    (λ q h. subst (OfKind IsAnswer) (others q (λ e. gone (subst (λ r. OfKind IsAnswer (new r)) e h))) h) n

pub took-counted : (old new : Marking) (p : List ℕ) (t n : ℕ) → Took p t old new → Counted old n → Counted new n
took-counted old new p t n s = changed_counted old new p n (λ h. subst (OfKind IsAnswer) s.was h) (λ h. subst (OfKind IsAnswer) s.is h) s.others

pub back-counted : (old new : Marking) (p : List ℕ) (t n : ℕ) → GaveBack p t old new → Counted old n → Counted new n
back-counted old new p t n s = changed_counted old new p n (λ h. subst (OfKind IsAnswer) s.was h) (λ h. subst (OfKind IsAnswer) s.is h) s.others

-- what waited is open
raised_answer : (o : Option Mark) → (OfKind IsAnswer (option_map raised o) → OfKind IsAnswer o) × (OfKind IsAnswer o → OfKind IsAnswer (option_map raised o))
raised_answer None = (λ h. h, λ h. h)
raised_answer (Some mark.Waiting) = (λ h. h, λ h. h)
raised_answer (Some mark.Open) = (λ h. h, λ h. h)
raised_answer (Some (mark.Claimed t)) = (λ h. h, λ h. h)
raised_answer (Some mark.Misses) = (λ h. h, λ h. h)
raised_answer (Some mark.Reaches) = (λ h. h, λ h. h)
raised_answer (Some (mark.Branch reach edges)) = (λ h. h, λ h. h)

pub down-counted : (old new : Marking) (n : ℕ) → WentDown old new → Counted old n → Counted new n
down-counted old new n went = count-same (λ q. OfKind IsAnswer (old q)) (λ q. OfKind IsAnswer (new q))
    (λ q h. subst (OfKind IsAnswer) (sym (went q)) ((raised_answer (old q)).1 h))
    (λ q h. (raised_answer (old q)).0 (subst (OfKind IsAnswer) (went q) h)) n

-- nothing stands beneath a claimed set
module _ (level : ℕ) (old new : Marking) (p : List ℕ) (t : ℕ) (m : Mark) (shape : IsShape level old) (is : IsAnswer m)
    (s : Answered p t m old new) where
  no_kids : (m' : Mark) (i : ℕ) → Some (mark.Claimed t) ≡ Some m' → i < kids_beneath m' → ⊥
  no_kids m' i e few = let same : m' ≡ mark.Claimed t = cc in let none : i < 0 = subst (λ x. i < kids_beneath x) same few in omega (arith, none)

  bare : (i : ℕ) → OfKind IsAnswer (old (kid_of p i)) → ⊥
  bare i h =
      let parent = shape.parents p i (answer_stands (old (kid_of p i)) h) in
      no_kids parent.0 i (sym s.was ∙ parent.1) parent.2

  still : (q : List ℕ) → OfKind IsAnswer (old q) → OfKind IsAnswer (new q)
  still q h = elim (cases_kid p (kids_beneath m) q) [
    | inl kid ↦ absurd (bare kid.0 (subst (λ r. OfKind IsAnswer (old r)) kid.2 h))
    | inr beyond ↦
        subst (OfKind IsAnswer) (sym (s.others q (λ e. subst (OfKind IsAnswer) (ap old e ∙ s.was) h) beyond)) h
  ]

  only_more : (q : List ℕ) → OfKind IsAnswer (new q) → OfKind IsAnswer (old q) ⊎ (q ≡ p)
  only_more q h = elim (cases_path q p) [
    | inl same ↦ inr same
    | inr other ↦ elim (cases_kid p (kids_beneath m) q) [
      | inl kid ↦ absurd (subst (OfKind IsAnswer) (ap new kid.2 ∙ s.kids kid.0 kid.1) h)
      | inr beyond ↦ inl (subst (OfKind IsAnswer) (s.others q other beyond) h)
    ]
  ]

  -- a set that was claimed is answered: one more
  pub filed-counted : (n : ℕ) → Counted old n → Counted new (n + 1)
  filed-counted = count_more (λ q. OfKind IsAnswer (old q)) (λ q. OfKind IsAnswer (new q)) p
      (λ h. subst (OfKind IsAnswer) s.was h) (subst (OfKind IsAnswer) (sym s.is) is) still only_more
