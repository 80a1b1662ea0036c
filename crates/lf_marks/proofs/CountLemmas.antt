-- How the counts of marks change with each step.
use Rattle.std.proofs.Common.{◌≡◌, ◌≢◌, ℕ, zero, suc, ◌+◌, ◌<◌, refl, sym, ap, ◌∙◌, subst, arith, Option, Some, None, List, [], ◌∷◌, ◌++◌, length, inl, inr}
use Rattle.std.proofs.Common.{length-append}
use Rattle.std.specs.Prelude.{◌⊎◌}
use Rattle.std.specs.Option.{option_map}
use Rattle.std.specs.List.{Contains}
use mathlib.Core.Logic.{∥∥₁_elim, ∥∥₁_map}
use Rattle.std.proofs.lemmas.Bool.{cases_eq, cases_lt}
use Rattle.std.proofs.lemmas.List.{same_from_push}
use Rattle.std.proofs.lemmas.List.Elements.{Contains-append_left, Contains-append_right, Contains-append_cases}
use Rattle.lf_list.proofs.Laws.{none-in, Contains-first, Contains-more, cases_in, each-in, each-from, decide_some_below}
use Rattle.lf_marks.specs.Steps.{Mark, Marking, kid_of, kids_beneath, IsAnswer, Took, Answered, GaveBack, Reclaimed, WentDown, freed, raised, IsMarked}
use Rattle.lf_marks.specs.Steps.{IsUnmarked, only_root}
use Rattle.lf_marks.specs.Steps as mark
use Rattle.lf_marks.specs.Counting.{IsApart, AreThose, IsCount, IsClaim, OfKind, AreCounts}

-- the paths with a property, each once
Listing : (List ℕ → Type 0) → ℕ → Type 0
Listing P n = (ps : List (List ℕ)) × AreThose P ps × (length ps ≡ n)

-- the same property in other words
same_listing : (P Q : List ℕ → Type 0) → ((p : List ℕ) → P p → Q p) → ((p : List ℕ) → Q p → P p) → (n : ℕ) → Listing P n → Listing Q n
unfolding Listing
same_listing P Q to from n l = (l.0, record { apart = l.1.apart; all = λ p h. l.1.all p (from p h); only = λ p h. to p (l.1.only p h) }, l.2)

-- one path more
more_listing : (P Q : List ℕ → Type 0) (p : List ℕ) → (P p → ⊥) → Q p → ((q : List ℕ) → P q → Q q) → ((q : List ℕ) → Q q → P q ⊎ (q ≡ p))
    → (n : ℕ) → Listing P n → Listing Q (n + 1)
unfolding Listing
more_listing P Q p out is to from n l = (
  p ∷ l.0,
  record {
    apart = (each-from (λ q. p ≢ q) l.0 (λ q h e. out (subst P (sym e) (l.1.only q h))), l.1.apart);
    all = λ q h. elim (from q h) [
      | inl old ↦ Contains-more p l.0 q (l.1.all q old)
      | inr same ↦ subst (λ r. Contains (p ∷ l.0) r) (sym same) (Contains-first p l.0)
    ];
    only = λ q h. elim (cases_in p l.0 q h) [
      | inl same ↦ subst Q same is
      | inr old ↦ to q (l.1.only q old)
    ];
  },
  omega (arith, l.2),
)

-- a list without one of its paths
record Rest (ps : List (List ℕ)) (p : List ℕ) : Type 0 where
  rest : List (List ℕ)
  apart : IsApart rest
  out : Contains rest p → ⊥
  kept : (q : List ℕ) → Contains ps q → (q ≡ p) ⊎ Contains rest q
  within : (q : List ℕ) → Contains rest q → Contains ps q
  count : length rest + 1 ≡ length ps

without : (ps : List (List ℕ)) (p : List ℕ) → IsApart ps → Contains ps p → Rest ps p
without [] p a h = absurd (none-in p h)
without (x ∷ xs) p a h = elim (cases_in x xs p h) [
  | inl same ↦ record {
    rest = xs;
    apart = a.1;
    out = λ k. each-in (λ q. x ≢ q) xs a.0 p k same;
    kept = λ q k. elim (cases_in x xs q k) [ inl is ↦ inl (sym is ∙ same) | inr later ↦ inr later ];
    within = λ q k. Contains-more x xs q k;
    count = omega arith;
  }
  | inr later ↦
      let r = without xs p a.1 later in record {
        rest = x ∷ r.rest;
        apart = (each-from (λ q. x ≢ q) r.rest (λ q k. each-in (λ q. x ≢ q) xs a.0 q (r.within q k)), r.apart);
        out = λ k. elim (cases_in x r.rest p k) [ inl is ↦ each-in (λ q. x ≢ q) xs a.0 p later is | inr k' ↦ r.out k' ];
        kept = λ q k. elim (cases_in x xs q k) [
          | inl is ↦ inr (subst (λ z. Contains (x ∷ r.rest) z) is (Contains-first x r.rest))
          | inr k' ↦ elim (r.kept q k') [ inl is ↦ inl is | inr k'' ↦ inr (Contains-more x r.rest q k'') ]
        ];
        within = λ q k. elim (cases_in x r.rest q k) [
          | inl is ↦ subst (λ z. Contains (x ∷ xs) z) is (Contains-first x xs)
          | inr k' ↦ Contains-more x xs q (r.within q k')
        ];
        count = omega (arith, r.count);
      }
]

-- one path fewer
fewer_listing : (P Q : List ℕ → Type 0) (p : List ℕ) → P p → (Q p → ⊥) → ((q : List ℕ) → Q q → P q) → ((q : List ℕ) → q ≢ p → P q → Q q)
    → (n m : ℕ) → m + 1 ≡ n → Listing P n → Listing Q m
unfolding Listing
fewer_listing P Q p is out from to n m less l =
    let r = without l.0 p l.1.apart (l.1.all p is) in (
      r.rest,
      record {
        apart = r.apart;
        all = λ q h. elim (r.kept q (l.1.all q (from q h))) [
          | inl same ↦ absurd (out (subst Q same h))
          | inr k ↦ k
        ];
        only = λ q h. to q (λ e. r.out (subst (λ z. Contains r.rest z) e h)) (l.1.only q (r.within q h));
      },
      omega (arith, r.count, l.2, less),
    )

-- two lists with no path in common
pub apart-append : (ps qs : List (List ℕ)) → IsApart ps → IsApart qs → ((p : List ℕ) → Contains ps p → Contains qs p → ⊥) → IsApart (ps ++ qs)
apart-append [] qs a b never = b
apart-append (p ∷ ps) qs a b never = (
  each-from (λ q. p ≢ q) (ps ++ qs) (λ q h e. elim (Contains-append_cases ps qs q h) [
    | inl k ↦ each-in (λ q. p ≢ q) ps a.0 q k e
    | inr k ↦ never q (subst (λ z. Contains (p ∷ ps) z) e (Contains-first p ps)) k
  ]),
  apart-append ps qs a.1 b (λ q h k. never q (Contains-more p ps q h) k),
)

-- two properties that no path has both
join_listing : (P Q R : List ℕ → Type 0) → ((p : List ℕ) → P p → Q p → ⊥) → ((p : List ℕ) → P p → R p) → ((p : List ℕ) → Q p → R p)
    → ((p : List ℕ) → R p → P p ⊎ Q p) → (n m : ℕ) → Listing P n → Listing Q m → Listing R (n + m)
unfolding Listing
join_listing P Q R never left right cases n m l k = (
  l.0 ++ k.0,
  record {
    apart = apart-append l.0 k.0 l.1.apart k.1.apart (λ p h i. never p (l.1.only p h) (k.1.only p i));
    all = λ p h. elim (cases p h) [
      | inl a ↦ Contains-append_left l.0 k.0 p (l.1.all p a)
      | inr b ↦ Contains-append_right l.0 k.0 p (k.1.all p b)
    ];
    only = λ p h. elim (Contains-append_cases l.0 k.0 p h) [
      | inl a ↦ left p (l.1.only p a)
      | inr b ↦ right p (k.1.only p b)
    ];
  },
  omega (arith, length-append l.0 k.0, l.2, k.2),
)

-- no path
none_listing : (P : List ℕ → Type 0) → ((p : List ℕ) → P p → ⊥) → Listing P 0
unfolding Listing
none_listing P never = ([], record { apart = tt; all = λ p h. absurd (never p h); only = λ p h. absurd (none-in p h) }, refl)

-- the first kids of a set
kid-cancel : (p : List ℕ) (i j : ℕ) → kid_of p i ≡ kid_of p j → i ≡ j
kid-cancel p i j e = (same_from_push p p i j e).1

kids_listing : (p : List ℕ) (n : ℕ) → Listing (λ q. (i : ℕ) × (i < n) × (q ≡ kid_of p i)) n
kids_listing p zero = none_listing (λ q. (i : ℕ) × (i < 0) × (q ≡ kid_of p i)) (λ q h. omega (arith, h.1))
kids_listing p (suc n) =
    more_next p n (more_listing (λ q. (i : ℕ) × (i < n) × (q ≡ kid_of p i)) (λ q. (i : ℕ) × (i < suc n) × (q ≡ kid_of p i)) (kid_of p n)
    (λ h. let never : ⊥ = omega (arith, h.1, kid-cancel p n h.0 h.2) in never) (n, omega arith, refl)
    (λ q h. (h.0, omega (arith, h.1), h.2))
    (λ q h. elim (cases_eq h.0 n) [
      | inl same ↦ inr (h.2 ∙ ap (kid_of p) same)
      | inr other ↦ inl (h.0, omega (arith, h.1, other), h.2)
    ]) n (kids_listing p n))
  where
    more_next : (p : List ℕ) (n : ℕ) → Listing (λ q. (i : ℕ) × (i < suc n) × (q ≡ kid_of p i)) (n + 1)
        → Listing (λ q. (i : ℕ) × (i < suc n) × (q ≡ kid_of p i)) (suc n)
    more_next p n l = subst (λ k. Listing (λ q. (i : ℕ) × (i < suc n) × (q ≡ kid_of p i)) k) (omega arith) l

to_count : (P : List ℕ → Type 0) (n : ℕ) → Listing P n → IsCount P n
unfolding Listing
to_count P n l = ∣ l ∣₁

from_count : (P : List ℕ → Type 0) (n : ℕ) → IsCount P n → ∥ Listing P n ∥₁
unfolding Listing
from_count P n c = c

-- whether two paths are one
pub cases_path : (p q : List ℕ) → (p ≡ q) ⊎ (p ≡ q → ⊥)
cases_path [] [] = inl refl
cases_path [] (j ∷ q) = inr (λ e. cc)
cases_path (i ∷ p) [] = inr (λ e. cc)
cases_path (i ∷ p) (j ∷ q) = elim (cases_eq i j) [
  | inr other ↦ inr (λ e. other cc)
  | inl same ↦ elim (cases_path p q) [
    | inl rest ↦ inl cc
    | inr apart ↦ inr (λ e. apart cc)
  ]
]

-- whether a path is that of one of the first kids of a set
cases_kid : (p : List ℕ) (n : ℕ) (q : List ℕ) → ((i : ℕ) × (i < n) × (q ≡ kid_of p i)) ⊎ ((i : ℕ) → i < n → q ≢ kid_of p i)
cases_kid p n q = elim (decide_some_below (λ i. q ≡ kid_of p i) (λ i. cases_path q (kid_of p i)) n) [
  | inl found ↦ inl found
  | inr none ↦ inr (λ i few e. none (i, few, e))
]

-- a kind of marks at a path that changes, where all others keep theirs as far as the kind goes
module _ (K : Option Mark → Type 0) (old new : Marking) (p : List ℕ)
    (to : (q : List ℕ) → q ≢ p → K (old q) → K (new q)) (from : (q : List ℕ) → q ≢ p → K (new q) → K (old q)) where
  pub kind-more : (K (old p) → ⊥) → K (new p) → (n : ℕ) → IsCount (λ q. K (old q)) n → IsCount (λ q. K (new q)) (n + 1)
  unfolding Listing
  kind-more out is n c = ∥∥₁_map c (more_listing (λ q. K (old q)) (λ q. K (new q)) p out is
      (λ q h. to q (λ e. out (subst (λ r. K (old r)) e h)) h)
      (λ q h. elim (cases_path q p) [ inl same ↦ inr same | inr other ↦ inl (from q other h) ]) n)

  pub kind-fewer : K (old p) → (K (new p) → ⊥) → (n m : ℕ) → m + 1 ≡ n → IsCount (λ q. K (old q)) n → IsCount (λ q. K (new q)) m
  unfolding Listing
  kind-fewer is out n m less c = ∥∥₁_map c (fewer_listing (λ q. K (old q)) (λ q. K (new q)) p is out
      (λ q h. from q (λ e. out (subst (λ r. K (new r)) e h)) h) to n m less)

  pub kind-same : (K (old p) → ⊥) → (K (new p) → ⊥) → (n : ℕ) → IsCount (λ q. K (old q)) n → IsCount (λ q. K (new q)) n
  unfolding Listing
  kind-same out gone n c = ∥∥₁_map c (same_listing (λ q. K (old q)) (λ q. K (new q))
      (λ q h. to q (λ e. out (subst (λ r. K (old r)) e h)) h) (λ q h. from q (λ e. gone (subst (λ r. K (new r)) e h)) h) n)

-- the kinds that are counted
abbrev pub IsReady : Option Mark → Type 0
IsReady o = o ≡ Some mark.Open

abbrev pub IsWaiting : Option Mark → Type 0
IsWaiting o = o ≡ Some mark.Waiting

kept_to : (K : Option Mark → Type 0) (a b : Option Mark) → b ≡ a → K a → K b
kept_to K a b e h = subst K (sym e) h

module _ (old new : Marking) (p : List ℕ) (others : (q : List ℕ) → q ≢ p → new q ≡ old q) where
  to_new : (K : Option Mark → Type 0) (q : List ℕ) → q ≢ p → K (old q) → K (new q)
  to_new K q apart h = subst K (sym (others q apart)) h

  from_new : (K : Option Mark → Type 0) (q : List ℕ) → q ≢ p → K (new q) → K (old q)
  from_new K q apart h = subst K (others q apart) h

pub counts-took : (old new : Marking) (p : List ℕ) (t r r' c a w : ℕ) → Took p t old new → r' + 1 ≡ r → AreCounts old r c a w → AreCounts new r' (c + 1) a w
counts-took old new p t r r' c a w s less k = record {
  ready = kind-fewer IsReady old new p (to_new old new p s.others IsReady) (from_new old new p s.others IsReady)
      s.was (λ h. let e : Some mark.Open ≡ Some (mark.Claimed t) = sym h ∙ s.is in absurd cc) r r' less k.ready;
  claimed = kind-more (OfKind IsClaim) old new p (to_new old new p s.others (OfKind IsClaim)) (from_new old new p s.others (OfKind IsClaim))
      (λ h. subst (OfKind IsClaim) s.was h) (subst (OfKind IsClaim) (sym s.is) tt) c k.claimed;
  answered = kind-same (OfKind IsAnswer) old new p (to_new old new p s.others (OfKind IsAnswer)) (from_new old new p s.others (OfKind IsAnswer))
      (λ h. subst (OfKind IsAnswer) s.was h) (λ h. subst (OfKind IsAnswer) s.is h) a k.answered;
  waiting = kind-same IsWaiting old new p (to_new old new p s.others IsWaiting) (from_new old new p s.others IsWaiting)
      (λ h. let e : Some mark.Open ≡ Some mark.Waiting = sym s.was ∙ h in absurd cc)
      (λ h. let e : Some (mark.Claimed t) ≡ Some mark.Waiting = sym s.is ∙ h in absurd cc) w k.waiting;
}

pub counts-back : (old new : Marking) (p : List ℕ) (t r c c' a w : ℕ) → GaveBack p t old new → c' + 1 ≡ c → AreCounts old r c a w → AreCounts new (r + 1) c' a w
counts-back old new p t r c c' a w s less k = record {
  ready = kind-more IsReady old new p (to_new old new p s.others IsReady) (from_new old new p s.others IsReady)
      (λ h. let e : Some mark.Open ≡ Some (mark.Claimed t) = sym h ∙ s.was in absurd cc) s.is r k.ready;
  claimed = kind-fewer (OfKind IsClaim) old new p (to_new old new p s.others (OfKind IsClaim)) (from_new old new p s.others (OfKind IsClaim))
      (subst (OfKind IsClaim) (sym s.was) tt) (λ h. subst (OfKind IsClaim) s.is h) c c' less k.claimed;
  answered = kind-same (OfKind IsAnswer) old new p (to_new old new p s.others (OfKind IsAnswer)) (from_new old new p s.others (OfKind IsAnswer))
      (λ h. subst (OfKind IsAnswer) s.was h) (λ h. subst (OfKind IsAnswer) s.is h) a k.answered;
  waiting = kind-same IsWaiting old new p (to_new old new p s.others IsWaiting) (from_new old new p s.others IsWaiting)
      (λ h. let e : Some (mark.Claimed t) ≡ Some mark.Waiting = sym s.was ∙ h in absurd cc)
      (λ h. let e : Some mark.Open ≡ Some mark.Waiting = sym s.is ∙ h in absurd cc) w k.waiting;
}

-- an answer is no other kind
answer_shut : (m : Mark) → IsAnswer m → (Some m ≡ Some mark.Open) → ⊥
answer_shut m h e = let same : m ≡ mark.Open = cc in subst IsAnswer same h

answer_still : (m : Mark) → IsAnswer m → (Some m ≡ Some mark.Waiting) → ⊥
answer_still m h e = let same : m ≡ mark.Waiting = cc in subst IsAnswer same h

answer_free : (m : Mark) → IsAnswer m → IsClaim m → ⊥
answer_free mark.Waiting h k = h
answer_free mark.Open h k = h
answer_free (mark.Claimed t) h k = h
answer_free mark.Misses h k = k
answer_free mark.Reaches h k = k
answer_free (mark.Branch reach edges) h k = k

module _ (old new : Marking) (p : List ℕ) (t : ℕ) (m : Mark) (is : IsAnswer m) (s : Answered p t m old new)
    (bare : (i : ℕ) → old (kid_of p i) ≡ None) where
  -- a kind that neither what waits has nor what doesn't stand
  a_to : (K : Option Mark → Type 0) → (K None → ⊥) → (K (Some mark.Waiting) → ⊥) → (q : List ℕ) → q ≢ p → K (old q) → K (new q)
  a_to K none waits q apart h = elim (cases_kid p (kids_beneath m) q) [
    | inr beyond ↦ subst K (sym (s.others q apart beyond)) h
    | inl kid ↦ absurd (none (subst K (ap old kid.2 ∙ bare kid.0) h))
  ]

  a_from : (K : Option Mark → Type 0) → (K None → ⊥) → (K (Some mark.Waiting) → ⊥) → (q : List ℕ) → q ≢ p → K (new q) → K (old q)
  a_from K none waits q apart h = elim (cases_kid p (kids_beneath m) q) [
    | inr beyond ↦ subst K (s.others q apart beyond) h
    | inl kid ↦ absurd (waits (subst K (ap new kid.2 ∙ s.kids kid.0 kid.1) h))
  ]

  waits_to : (q : List ℕ) → IsWaiting (old q) → IsWaiting (new q)
  waits_to q h = elim (cases_kid p (kids_beneath m) q) [
    | inl kid ↦ ap new kid.2 ∙ s.kids kid.0 kid.1
    | inr beyond ↦ s.others q (λ e. let no : Some (mark.Claimed t) ≡ Some mark.Waiting = sym s.was ∙ ap old (sym e) ∙ h in absurd cc) beyond ∙ h
  ]

  waits_from : (q : List ℕ) → IsWaiting (new q) → IsWaiting (old q) ⊎ ((i : ℕ) × (i < kids_beneath m) × (q ≡ kid_of p i))
  waits_from q h = elim (cases_kid p (kids_beneath m) q) [
    | inl kid ↦ inr kid
    | inr beyond ↦ inl (sym (s.others q (λ e. answer_still m is (sym s.is ∙ ap new (sym e) ∙ h)) beyond) ∙ h)
  ]

  waits_more : (w : ℕ) → IsCount (λ q. IsWaiting (old q)) w → IsCount (λ q. IsWaiting (new q)) (w + kids_beneath m)
  unfolding Listing
  waits_more w c = ∥∥₁_map c (λ l. join_listing (λ q. IsWaiting (old q)) (λ q. (i : ℕ) × (i < kids_beneath m) × (q ≡ kid_of p i)) (λ q. IsWaiting (new q))
      (λ q h kid. let no : None ≡ Some mark.Waiting = sym (bare kid.0) ∙ ap old (sym kid.2) ∙ h in absurd cc)
      waits_to (λ q kid. ap new kid.2 ∙ s.kids kid.0 kid.1) waits_from w (kids_beneath m) l (kids_listing p (kids_beneath m)))

  pub counts-answered : (r c c' a w : ℕ) → c' + 1 ≡ c → AreCounts old r c a w → AreCounts new r c' (a + 1) (w + kids_beneath m)
  counts-answered r c c' a w less k = record {
    ready = kind-same IsReady old new p (a_to IsReady (λ e. absurd cc) (λ e. absurd cc)) (a_from IsReady (λ e. absurd cc) (λ e. absurd cc))
        (λ h. let e : Some (mark.Claimed t) ≡ Some mark.Open = sym s.was ∙ h in absurd cc) (λ h. answer_shut m is (sym s.is ∙ h)) r k.ready;
    claimed = kind-fewer (OfKind IsClaim) old new p (a_to (OfKind IsClaim) (λ e. e) (λ e. e)) (a_from (OfKind IsClaim) (λ e. e) (λ e. e))
        (subst (OfKind IsClaim) (sym s.was) tt) (λ h. answer_free m is (subst (OfKind IsClaim) s.is h)) c c' less k.claimed;
    answered = kind-more (OfKind IsAnswer) old new p (a_to (OfKind IsAnswer) (λ e. e) (λ e. e)) (a_from (OfKind IsAnswer) (λ e. e) (λ e. e))
        (λ h. subst (OfKind IsAnswer) s.was h) (subst (OfKind IsAnswer) (sym s.is) is) a k.answered;
    waiting = waits_more w k.waiting;
  }

-- what was raised
raised-open : (o : Option Mark) → o ≢ Some mark.Open → option_map raised o ≡ Some mark.Open → o ≡ Some mark.Waiting
raised-open None f h = cc
raised-open (Some mark.Waiting) f h = refl
raised-open (Some mark.Open) f h = absurd (f refl)
raised-open (Some (mark.Claimed t)) f h = cc
raised-open (Some mark.Misses) f h = cc
raised-open (Some mark.Reaches) f h = cc
raised-open (Some (mark.Branch reach edges)) f h = cc

raised-waits : (o : Option Mark) → option_map raised o ≡ Some mark.Waiting → ⊥
raised-waits None h = absurd cc
raised-waits (Some mark.Waiting) h = absurd cc
raised-waits (Some mark.Open) h = absurd cc
raised-waits (Some (mark.Claimed t)) h = absurd cc
raised-waits (Some mark.Misses) h = absurd cc
raised-waits (Some mark.Reaches) h = absurd cc
raised-waits (Some (mark.Branch reach edges)) h = absurd cc

raised-claim : (o : Option Mark) → (OfKind IsClaim (option_map raised o) → OfKind IsClaim o) × (OfKind IsClaim o → OfKind IsClaim (option_map raised o))
raised-claim None = (λ h. h, λ h. h)
raised-claim (Some mark.Waiting) = (λ h. h, λ h. h)
raised-claim (Some mark.Open) = (λ h. h, λ h. h)
raised-claim (Some (mark.Claimed t)) = (λ h. h, λ h. h)
raised-claim (Some mark.Misses) = (λ h. h, λ h. h)
raised-claim (Some mark.Reaches) = (λ h. h, λ h. h)
raised-claim (Some (mark.Branch reach edges)) = (λ h. h, λ h. h)

raised-answer : (o : Option Mark) → (OfKind IsAnswer (option_map raised o) → OfKind IsAnswer o) × (OfKind IsAnswer o → OfKind IsAnswer (option_map raised o))
raised-answer None = (λ h. h, λ h. h)
raised-answer (Some mark.Waiting) = (λ h. h, λ h. h)
raised-answer (Some mark.Open) = (λ h. h, λ h. h)
raised-answer (Some (mark.Claimed t)) = (λ h. h, λ h. h)
raised-answer (Some mark.Misses) = (λ h. h, λ h. h)
raised-answer (Some mark.Reaches) = (λ h. h, λ h. h)
raised-answer (Some (mark.Branch reach edges)) = (λ h. h, λ h. h)

pub counts-down : (old new : Marking) (r c a w : ℕ) → WentDown old new → IsUnmarked old mark.Open → AreCounts old r c a w → AreCounts new w c a 0
unfolding Listing
counts-down old new r c a w s never k = record {
  ready = ∥∥₁_map k.waiting (same_listing (λ q. IsWaiting (old q)) (λ q. IsReady (new q)) (λ q h. s q ∙ ap (option_map raised) h)
      (λ q h. raised-open (old q) (never q) (sym (s q) ∙ h)) w);
  claimed = ∥∥₁_map k.claimed (same_listing (λ q. OfKind IsClaim (old q)) (λ q. OfKind IsClaim (new q))
      (λ q h. subst (OfKind IsClaim) (sym (s q)) ((raised-claim (old q)).1 h)) (λ q h. (raised-claim (old q)).0 (subst (OfKind IsClaim) (s q) h)) c);
  answered = ∥∥₁_map k.answered (same_listing (λ q. OfKind IsAnswer (old q)) (λ q. OfKind IsAnswer (new q))
      (λ q h. subst (OfKind IsAnswer) (sym (s q)) ((raised-answer (old q)).1 h)) (λ q h. (raised-answer (old q)).0 (subst (OfKind IsAnswer) (s q) h)) a);
  waiting = ∣ none_listing (λ q. IsWaiting (new q)) (λ q h. raised-waits (old q) (sym (s q) ∙ h)) ∣₁;
}

-- at the beginning the root alone is open
pub counts-root : (at : Marking) → ((p : List ℕ) → at p ≡ only_root p) → AreCounts at 1 0 0 0
unfolding Listing
counts-root at is = record {
  ready = ∣ (
    [] ∷ [],
    record {
      apart = (tt, tt);
      all = λ p h. root_in p (sym (is p) ∙ h);
      only = λ p h. elim (cases_in [] [] p h) [ inl same ↦ ap at (sym same) ∙ is [] | inr more ↦ absurd (none-in p more) ];
    },
    refl,
  ) ∣₁;
  claimed = ∣ none_listing (λ q. OfKind IsClaim (at q)) (λ q h. no_claim q (subst (OfKind IsClaim) (is q) h)) ∣₁;
  answered = ∣ none_listing (λ q. OfKind IsAnswer (at q)) (λ q h. no_answer q (subst (OfKind IsAnswer) (is q) h)) ∣₁;
  waiting = ∣ none_listing (λ q. IsWaiting (at q)) (λ q h. no_waiting q (sym (is q) ∙ h)) ∣₁;
}
  where
    root_in : (p : List ℕ) → only_root p ≡ Some mark.Open → Contains ([] ∷ []) p
    root_in [] h = Contains-first [] []
    root_in (i ∷ p) h = cc

    no_claim : (p : List ℕ) → OfKind IsClaim (only_root p) → ⊥
    no_claim [] h = h
    no_claim (i ∷ p) h = h

    no_answer : (p : List ℕ) → OfKind IsAnswer (only_root p) → ⊥
    no_answer [] h = h
    no_answer (i ∷ p) h = h

    no_waiting : (p : List ℕ) → only_root p ≡ Some mark.Waiting → ⊥
    no_waiting [] h = absurd cc
    no_waiting (i ∷ p) h = absurd cc

-- a mark that stands is counted
pub some-counted : (P : List ℕ → Type 0) (p : List ℕ) (n : ℕ) → P p → IsCount P n → 0 < n
some-counted P p n h c = elim (cases_lt 0 n) [
  | inl some ↦ some
  | inr none ↦ absurd (∥∥₁_elim c (λ x y. absurd x) (λ l. let k = l.1.all p h in omega (arith, k.1, l.2, none)))
]
