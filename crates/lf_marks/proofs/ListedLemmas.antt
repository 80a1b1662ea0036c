-- The lists of places after each step.
use Rattle.std.proofs.Common.{◌≡◌, ◌≢◌, ℕ, ◌+◌, ◌<◌, ◌≤◌, refl, sym, ap, ◌∙◌, arith, cond, Option, Some, None, List, [], ◌∷◌, ◌++◌, true, false, Bool}
use Rattle.std.proofs.Common.{nat_lt, inl, inr, get_or}
use Rattle.std.specs.Prelude.{◌&&◌, ◌==◌, nat_le}
use Rattle.std.specs.List.{All, slice_get}
use Rattle.std.proofs.lemmas.Bool.{cases_lt, cases_eq, cases_Bool, eq-eqb, ne_eqb, eqb-true, lt-leb, le-leb, and_left, and_right, and_from}
use Rattle.std.proofs.lemmas.List.Quantifiers.{all_pairs_push}
use Rattle.std.proofs.lemmas.List.Sums.{sum_by_push, sum_by-cons}
use Rattle.lf_marks.specs.Steps.{Mark, kids_beneath}
use Rattle.lf_marks.specs.Steps as mark
use Rattle.lf_marks.specs.declared.claim.Claim.{Claim}
use Rattle.lf_marks.specs.Walks.{Spot, width, width_of, is_set, is_open, is_claimed, once, times, times_claim, IsArena, IsRemarked, IsGrownBy}
use Rattle.lf_marks.specs.Walks.{AreListed, IsPartly}
use Rattle.lf_marks.proofs.ClaimLemmas.{IsWithout, unclaimed, claim-at, claim-one}
use Rattle.lf_marks.proofs.WalkLemmas.{lt-is, lt-not}

pub once-yes : (b : Bool) → b ≡ true → once b ≡ 1
once-yes b h = ap once h

pub once-no : (b : Bool) → b ≡ false → once b ≡ 0
once-no b h = ap once h

pub from-once : (b : Bool) → 0 < once b → b ≡ true
from-once true h = refl
from-once false h = absurd (omega (arith, h))

-- a mark of an open set, and of a claimed one
pub open-is : (o : Option Mark) → is_open o ≡ true → o ≡ Some mark.Open
open-is None h = cc
open-is (Some mark.Waiting) h = cc
open-is (Some mark.Open) h = refl
open-is (Some (mark.Claimed t)) h = cc
open-is (Some mark.Misses) h = cc
open-is (Some mark.Reaches) h = cc
open-is (Some (mark.Branch reach edges)) h = cc

pub claimed-is : (t : ℕ) (o : Option Mark) → is_claimed t o ≡ true → o ≡ Some (mark.Claimed t)
claimed-is t None h = cc
claimed-is t (Some mark.Waiting) h = cc
claimed-is t (Some mark.Open) h = cc
claimed-is t (Some (mark.Claimed u)) h = ap (λ v. Some (mark.Claimed v)) (eqb-true u t h)
claimed-is t (Some mark.Misses) h = cc
claimed-is t (Some mark.Reaches) h = cc
claimed-is t (Some (mark.Branch reach edges)) h = cc

pub is-claimed : (t : ℕ) (o : Option Mark) → o ≡ Some (mark.Claimed t) → is_claimed t o ≡ true
is-claimed t o h = ap (is_claimed t) h ∙ eq-eqb t t refl

-- the counts after one more at the end
pub times-push : (x y : ℕ) (places : List ℕ) → times x (places ++ y ∷ []) ≡ times x places + once (y == x)
times-push x y places = sum_by_push (λ z. cond (z == x) 1 0) places y

pub times-cons : (x y : ℕ) (places : List ℕ) → times x (y ∷ places) ≡ once (y == x) + times x places
times-cons x y places = sum_by-cons (λ z. cond (z == x) 1 0) y places

pub claim-push : (t x : ℕ) (c : Claim) (claims : List Claim) → times_claim t x (claims ++ c ∷ [])
    ≡ times_claim t x claims + once (c.ticket == t && c.place == x)
claim-push t x c claims = sum_by_push (λ (d : Claim). cond (d.ticket == t && d.place == x) 1 0) claims c

here : (x : ℕ) → (x == x) ≡ true
here x = eq-eqb x x refl

there : (x y : ℕ) → y ≢ x → (x == y) ≡ false
there x y h = ne_eqb x y (λ e. h (sym e))

once-there : (x y : ℕ) → y ≢ x → once (x == y) ≡ 0
once-there x y h = once-no (x == y) (there x y h)

pair-there : (t u x y : ℕ) → y ≢ x → once (t == u && x == y) ≡ 0
pair-there t u x y h = once-no (t == u && x == y) (and_right (t == u) (x == y) (there x y h))

pair-here : (t u x : ℕ) → once (t == u && x == x) ≡ once (t == u)
pair-here t u x = elim (cases_Bool (t == u)) [
  | inl holds ↦ once-yes _ (and_from (t == u) (x == x) holds (here x)) ∙ sym (once-yes _ holds)
  | inr fails ↦ once-no _ (and_left (t == u) (x == x) fails) ∙ sym (once-no _ fails)
]

-- whoever looks for a claim finds its place claimed
pub without-was : (start n : ℕ) (look : ℕ → Spot) (queue next back : List ℕ) (claims rest : List Claim) (t x : ℕ)
    → AreListed start n look queue next back claims → IsWithout claims rest t x → (look x).mark ≡ Some (mark.Claimed t)
without-was start n look queue next back claims rest t x l w =
    let one : once (t == t && x == x) ≡ 1 = pair-here t t x ∙ once-yes _ (here t) in
    claimed-is t (look x).mark (from-once (is_claimed t (look x).mark) (omega (arith, w.claims t x, one, l.claimed x t)))

-- a mark of one that is claimed or open has no kids
claimed_leaf : (t : ℕ) (o : Option Mark) → o ≡ Some (mark.Claimed t) → width_of o ≡ 0
claimed_leaf t o h = ap width_of h

open_leaf : (o : Option Mark) → o ≡ Some mark.Open → width_of o ≡ 0
open_leaf o h = ap width_of h

module _ (start n : ℕ) (old new : ℕ → Spot) (x : ℕ) (m : Mark) (re : IsRemarked old new x m) where
  widths : width (old x) ≡ 0 → kids_beneath m ≡ 0 → (y : ℕ) → width (new y) ≡ width (old y)
  widths leaf none y = elim (cases_eq y x) [
    | inl same ↦ ap (λ z. width (new z)) same ∙ ap width_of re.is ∙ none ∙ sym leaf ∙ ap (λ z. width (old z)) (sym same)
    | inr other ↦ ap width_of (re.others y other)
  ]

  queued_same : (y : ℕ) → width (new y) ≡ width (old y)
      → once (nat_lt y start && nat_lt (old y).taken (width (old y))) ≡ once (nat_lt y start && nat_lt (new y).taken (width (new y)))
  queued_same y w = ap (λ k. once (nat_lt y start && nat_lt k (width (old y)))) (sym (re.takens y))
      ∙ ap (λ k. once (nat_lt y start && nat_lt (new y).taken k)) (sym w)

  coming_same : (y : ℕ) → width (new y) ≡ width (old y)
      → once (nat_le start y && nat_lt 0 (width (old y))) ≡ once (nat_le start y && nat_lt 0 (width (new y)))
  coming_same y w = ap (λ k. once (nat_le start y && nat_lt 0 k)) (sym w)

  partly_same : (queue : List ℕ) (y : ℕ) → width (new y) ≡ width (old y) → 0 < (new y).taken → (new y).taken < width (new y)
      → (0 < (old y).taken → (old y).taken < width (old y) → IsPartly n old queue y) → IsPartly n new queue y
  partly_same queue y w some more p =
      let q = p (omega (arith, some, re.takens y)) (omega (arith, more, re.takens y, w)) in
      record { first = q.first; last = omega (arith, q.last, re.firsts y, re.takens y) }

  -- an open place was claimed
  pub listed-claimed : (t : ℕ) (queue next back left : List ℕ) (claims : List Claim) → m ≡ mark.Claimed t → (old x).mark ≡ Some mark.Open
      → AreListed start n old queue next back claims → ((y : ℕ) → times y left + once (x == y) ≡ times y back) → All (λ (c : Claim). c.ticket < t) claims
      → AreListed start n new queue next left (claims ++ (record { ticket = t; place = x }) ∷ [])
  listed-claimed t queue next back left claims is was l fewer above =
      let w = widths (ap width_of was) (ap kids_beneath is) in
      let now : (new x).mark ≡ Some (mark.Claimed t) = re.is ∙ ap (λ k. Some k) is in
      let c : Claim = record { ticket = t; place = x } in record {
        queued = λ y. l.queued y ∙ queued_same y (w y);
        coming = λ y. l.coming y ∙ coming_same y (w y);
        opened = λ y. elim (cases_eq y x) [
          | inr other ↦
              let o = ap (λ k. once (is_open k)) (re.others y other) in
              omega (arith, fewer y, once-there x y other, l.opened y, o)
          | inl same ↦
              let a = ap (λ z. times z left + once (x == z)) same in
              let b = ap (λ z. times z left) same in
              let d = ap (λ z. once (is_open (new z).mark)) same in
              omega (arith, fewer x, once-yes _ (here x), l.opened x, b, d, ap (λ k. once (is_open k)) now, ap (λ k. once (is_open k)) was)
        ];
        claimed = λ y u. claim-push u y c claims ∙ elim (cases_eq y x) [
          | inr other ↦
              let o = ap (λ k. once (is_claimed u k)) (re.others y other) in
              omega (arith, pair-there t u x y other, l.claimed y u, o)
          | inl same ↦
              let a = ap (λ z. times_claim u z claims) same in
              let b = ap (λ z. once (t == u && x == z)) same in
              let d = ap (λ z. once (is_claimed u (new z).mark)) same in
              omega (arith, a, b, d, pair-here t u x, l.claimed x u, ap (λ k. once (is_claimed u k)) now, ap (λ k. once (is_claimed u k)) was)
        ];
        ascending = all_pairs_push (λ (d e : Claim). d.ticket < e.ticket) claims c l.ascending above;
        partly = λ y high some more. partly_same queue y (w y) some more (l.partly y high);
      }

  -- a claimed place is open again
  pub listed-freed : (t : ℕ) (queue next back : List ℕ) (claims rest : List Claim) → m ≡ mark.Open
      → AreListed start n old queue next back claims → IsWithout claims rest t x
      → AreListed start n new queue next (back ++ x ∷ []) rest
  listed-freed t queue next back claims rest is l less =
      let was = without-was start n old queue next back claims rest t x l less in
      let w = widths (ap width_of was) (ap kids_beneath is) in
      let now : (new x).mark ≡ Some mark.Open = re.is ∙ ap (λ k. Some k) is in record {
        queued = λ y. l.queued y ∙ queued_same y (w y);
        coming = λ y. l.coming y ∙ coming_same y (w y);
        opened = λ y. times-push y x back ∙ elim (cases_eq y x) [
          | inr other ↦
              let o = ap (λ k. once (is_open k)) (re.others y other) in
              omega (arith, once-there x y other, l.opened y, o)
          | inl same ↦
              let a = ap (λ z. times z back) same in
              let b = ap (λ z. once (x == z)) same in
              let d = ap (λ z. once (is_open (new z).mark)) same in
              omega (arith, a, b, d, once-yes _ (here x), l.opened x, ap (λ k. once (is_open k)) now, ap (λ k. once (is_open k)) was)
        ];
        claimed = λ y u. elim (cases_eq y x) [
          | inr other ↦
              let o = ap (λ k. once (is_claimed u k)) (re.others y other) in
              omega (arith, pair-there t u x y other, l.claimed y u, o, less.claims u y)
          | inl same ↦
              let a = ap (λ z. times_claim u z rest) same in
              let d = ap (λ z. once (is_claimed u (new z).mark)) same in
              omega (arith, a, d, less.claims u x, pair-here t u x, l.claimed x u, ap (λ k. once (is_claimed u k)) now, ap (λ k. once (is_claimed u k)) was)
        ];
        ascending = less.ascending l.ascending;
        partly = λ y high some more. partly_same queue y (w y) some more (l.partly y high);
      }

  -- a claimed place of the level is answered
  pub listed-answered : (t : ℕ) (queue next more back : List ℕ) (claims rest : List Claim) → is_open (Some m) ≡ false
      → ((u : ℕ) → is_claimed u (Some m) ≡ false) → start ≤ x
      → AreListed start n old queue next back claims → IsWithout claims rest t x
      → ((y : ℕ) → times y more ≡ times y next + once (nat_lt 0 (kids_beneath m) && x == y))
      → AreListed start n new queue more back rest
  listed-answered t queue next more back claims rest shut free low l less noted =
      let was = without-was start n old queue next back claims rest t x l less in
      let wide : width (new x) ≡ kids_beneath m = ap width_of re.is in
      let leaf : width (old x) ≡ 0 = ap width_of was in record {
        queued = λ y. l.queued y ∙ elim (cases_lt y start) [
          | inl high ↦ queued_same y (ap width_of (re.others y (omega (arith, high, low))))
          | inr deep ↦ once-no _ (and_left (nat_lt y start) (nat_lt (old y).taken (width (old y))) (lt-not y start deep))
              ∙ sym (once-no _ (and_left (nat_lt y start) (nat_lt (new y).taken (width (new y))) (lt-not y start deep)))
        ];
        coming = λ y. noted y ∙ elim (cases_eq y x) [
          | inr other ↦
              let o = coming_same y (ap width_of (re.others y other)) in
              omega (arith, l.coming y, o, once-no _ (and_right (nat_lt 0 (kids_beneath m)) (x == y) (there x y other)))
          | inl same ↦
              let a = ap (λ z. times z next) same in
              let b = ap (λ z. once (nat_lt 0 (kids_beneath m) && x == z)) same in
              let d = ap (λ z. once (nat_le start z && nat_lt 0 (width (new z)))) same in
              let e = once-no _ (and_right (nat_le start x) (nat_lt 0 (width (old x))) (lt-not 0 (width (old x)) (omega (arith, leaf)))) in
              let f = ap (λ k. once (nat_le start x && nat_lt 0 k)) wide in
              omega (arith, a, b, d, e, f, l.coming x, swapped (nat_lt 0 (kids_beneath m)) (x == x) (nat_le start x) (here x) (le-leb start x low))
        ];
        opened = λ y. l.opened y ∙ elim (cases_eq y x) [
          | inr other ↦ ap (λ k. once (is_open k)) (sym (re.others y other))
          | inl same ↦
              ap (λ z. once (is_open (old z).mark)) same ∙ ap (λ k. once (is_open k)) was ∙ sym (ap once shut)
              ∙ ap (λ k. once (is_open k)) (sym re.is) ∙ ap (λ z. once (is_open (new z).mark)) (sym same)
        ];
        claimed = λ y u. elim (cases_eq y x) [
          | inr other ↦
              let o = ap (λ k. once (is_claimed u k)) (re.others y other) in
              omega (arith, pair-there t u x y other, l.claimed y u, o, less.claims u y)
          | inl same ↦
              let a = ap (λ z. times_claim u z rest) same in
              let d = ap (λ z. once (is_claimed u (new z).mark)) same in
              let o = ap (λ k. once (is_claimed u k)) re.is in
              omega (arith, a, d, o, ap once (free u), less.claims u x, pair-here t u x, l.claimed x u, ap (λ k. once (is_claimed u k)) was)
        ];
        ascending = less.ascending l.ascending;
        partly = λ y high some more'. partly_same queue y (ap width_of (re.others y (omega (arith, high, low)))) some more' (l.partly y high);
      }
    where
      swapped : (a b c : Bool) → b ≡ true → c ≡ true → once (a && b) ≡ once (c && a)
      swapped true b c hb hc = once-yes _ (and_from true b refl hb) ∙ sym (once-yes _ (and_from c true hc refl))
      swapped false b c hb hc = once-no _ (and_left false b refl) ∙ sym (once-no _ (and_right c false refl))

-- the sets that waited are open
pub listed-down : (level start n : ℕ) (look : ℕ → Spot) (queue next back : List ℕ) (claims : List Claim) → IsArena level start n look
    → ((x : ℕ) → x < start → width (look x) ≤ (look x).taken) → ((x : ℕ) → n ≤ x → width (look x) ≡ 0)
    → AreListed start n look queue next back claims → AreListed n n look next [] back claims
listed-down level start n look queue next back claims a all past l = record {
  queued = λ y. l.coming y ∙ elim (cases_lt y start) [
    | inl high ↦ once-no _ (and_left (nat_le start y) (nat_lt 0 (width (look y))) (lt-leb start y high))
        ∙ sym (once-no _ (and_right (nat_lt y n) (nat_lt (look y).taken (width (look y))) (lt-not (look y).taken (width (look y)) (all y high))))
    | inr low ↦ elim (cases_lt y n) [
      | inl few ↦
          same_tests (nat_le start y) (nat_lt y n) (nat_lt 0 (width (look y))) (nat_lt (look y).taken (width (look y)))
          (le-leb start y low) (lt-is y n few) (ap (λ k. nat_lt k (width (look y))) (sym (a.fresh y low)))
      | inr far ↦
          once-no _ (and_right (nat_le start y) (nat_lt 0 (width (look y))) (lt-not 0 (width (look y)) (omega (arith, past y far))))
          ∙ sym (once-no _ (and_left (nat_lt y n) (nat_lt (look y).taken (width (look y))) (lt-not y n far)))
    ]
  ];
  coming = λ y. elim (cases_lt y n) [
    | inl few ↦ sym (once-no _ (and_left (nat_le n y) (nat_lt 0 (width (look y))) (lt-leb n y few)))
    | inr far ↦ sym (once-no _ (and_right (nat_le n y) (nat_lt 0 (width (look y))) (lt-not 0 (width (look y)) (omega (arith, past y far)))))
  ];
  opened = l.opened;
  claimed = l.claimed;
  ascending = l.ascending;
  partly = λ y few some more. elim (cases_lt y start) [
    | inl high ↦ absurd (omega (arith, more, all y high))
    | inr low ↦ absurd (omega (arith, some, a.fresh y low))
  ];
}
  where
    same_tests : (a b c d : Bool) → a ≡ true → b ≡ true → c ≡ d → once (a && c) ≡ once (b && d)
    same_tests a b c d ha hb hc = ap (λ z. once (z && c)) (ha ∙ sym hb) ∙ ap (λ z. once (b && z)) hc

-- nothing stands past the end
unset_open : (o : Option Mark) → is_set o ≡ false → is_open o ≡ false
unset_open None h = refl
unset_open (Some m) h = cc

unset_claimed : (u : ℕ) (o : Option Mark) → is_set o ≡ false → is_claimed u o ≡ false
unset_claimed u None h = refl
unset_claimed u (Some m) h = cc

unset_width : (o : Option Mark) → is_set o ≡ false → width_of o ≡ 0
unset_width None h = refl
unset_width (Some m) h = cc

module _ (level start n : ℕ) (old new : ℕ → Spot) (x t : ℕ) (arena : IsArena level start n old) (gr : IsGrownBy old new n x t)
    (high : x < start) (more : (old x).taken < width (old x)) where
  grown_width : (y : ℕ) → width (new y) ≡ width (old y)
  grown_width y = elim (cases_eq y x) [
    | inl same ↦ ap (λ z. width (new z)) same ∙ ap width gr.grown ∙ ap (λ z. width (old z)) (sym same)
    | inr other ↦ elim (cases_eq y n) [
      | inl same ↦ ap (λ z. width (new z)) same ∙ ap width gr.kid ∙ sym (unset_width (old y).mark (arena.past y (omega (arith, same))))
      | inr apart ↦ ap width (gr.others y other apart)
    ]
  ]

  grown_open : (y : ℕ) → is_open (new y).mark ≡ is_open (old y).mark
  grown_open y = elim (cases_eq y x) [
    | inl same ↦ ap (λ z. is_open (new z).mark) same ∙ ap (λ (s : Spot). is_open s.mark) gr.grown ∙ ap (λ z. is_open (old z).mark) (sym same)
    | inr other ↦ elim (cases_eq y n) [
      | inl same ↦ ap (λ z. is_open (new z).mark) same ∙ ap (λ (s : Spot). is_open s.mark) gr.kid
          ∙ sym (unset_open (old y).mark (arena.past y (omega (arith, same))))
      | inr apart ↦ ap (λ (s : Spot). is_open s.mark) (gr.others y other apart)
    ]
  ]

  grown_claimed : (u y : ℕ) → y ≢ n → is_claimed u (new y).mark ≡ is_claimed u (old y).mark
  grown_claimed u y apart = elim (cases_eq y x) [
    | inl same ↦ ap (λ z. is_claimed u (new z).mark) same ∙ ap (λ (s : Spot). is_claimed u s.mark) gr.grown ∙ ap (λ z. is_claimed u (old z).mark) (sym same)
    | inr other ↦ ap (λ (s : Spot). is_claimed u s.mark) (gr.others y other apart)
  ]

  -- a kid that nobody had taken was claimed, and its branch leaves the queue with its last kid
  pub listed-grown : (rest queue next back : List ℕ) (claims : List Claim) → All (λ (c : Claim). c.ticket < t) claims
      → ((old x).taken + 1 < width (old x) → queue ≡ x ∷ rest) → (width (old x) ≤ (old x).taken + 1 → queue ≡ rest)
      → AreListed start n old (x ∷ rest) next back claims
      → AreListed start (n + 1) new queue next back (claims ++ (record { ticket = t; place = n }) ∷ [])
  listed-grown rest queue next back claims above stays leaves l =
      let c : Claim = record { ticket = t; place = n } in
      let taken : (new x).taken ≡ (old x).taken + 1 = ap (λ (s : Spot). s.taken) gr.grown in
      let one : times x (x ∷ rest) ≡ 1 = l.queued x ∙ once-yes _ (and_from (nat_lt x start) (nat_lt (old x).taken (width (old x))) (lt-is x start high)
      (lt-is _ _ more)) in
      let none : times x rest ≡ 0 = omega (arith, one, times-cons x x rest, once-yes _ (here x)) in record {
        queued = λ y. elim (cases_eq y x) [
          | inl same ↦ elim (cases_lt ((old x).taken + 1) (width (old x))) [
            | inl some ↦
                ap (times y) (stays some) ∙ ap (λ z. times z (x ∷ rest)) same ∙ one
                ∙ sym (once-yes _ (and_from (nat_lt y start) (nat_lt (new y).taken (width (new y))) (lt-is y start (omega (arith, same, high)))
                (lt-is _ _ (omega (arith, some, taken, grown_width y, ap (λ z. (new z).taken) same, ap (λ z. width (old z)) same)))))
            | inr last ↦
                ap (times y) (leaves last) ∙ ap (λ z. times z rest) same ∙ none
                ∙ sym (once-no _ (and_right (nat_lt y start) (nat_lt (new y).taken (width (new y)))
                (lt-not _ _ (omega (arith, last, taken, grown_width y, ap (λ z. (new z).taken) same, ap (λ z. width (old z)) same)))))
          ]
          | inr other ↦ apart_queue y other ∙ l.queued y ∙ elim (cases_lt y start) [
            | inr low ↦ once-no _ (and_left (nat_lt y start) (nat_lt (old y).taken (width (old y))) (lt-not y start low))
                ∙ sym (once-no _ (and_left (nat_lt y start) (nat_lt (new y).taken (width (new y))) (lt-not y start low)))
            | inl before ↦ ap (λ (s : Spot). once (nat_lt y start && nat_lt s.taken (width s))) (sym (gr.others y other (omega (arith, before, arena.begins))))
          ]
        ];
        coming = λ y. l.coming y ∙ ap (λ k. once (nat_le start y && nat_lt 0 k)) (sym (grown_width y));
        opened = λ y. l.opened y ∙ ap once (sym (grown_open y));
        claimed = λ y u. claim-push u y c claims ∙ elim (cases_eq y n) [
          | inr other ↦ omega (arith, pair-there t u n y other, l.claimed y u, ap once (grown_claimed u y other))
          | inl same ↦
              let a = ap (λ z. times_claim u z claims) same in
              let b = ap (λ z. once (t == u && n == z)) same in
              let d = ap (λ z. once (is_claimed u (new z).mark)) same in
              omega (
                arith,
                a,
                b,
                d,
                pair-here t u n,
                l.claimed n u,
                ap once (unset_claimed u (old n).mark (arena.past n (omega arith))),
                ap (λ (s : Spot). once (is_claimed u s.mark)) gr.kid,
              )
        ];
        ascending = all_pairs_push (λ (d e : Claim). d.ticket < e.ticket) claims c l.ascending above;
        partly = λ y before some few. elim (cases_eq y x) [
          | inl same ↦
              let still = stays (omega (arith, few, taken, grown_width y, ap (λ z. (new z).taken) same, ap (λ z. width (old z)) same)) in record {
                first = ap (λ q. slice_get q 0) still ∙ ap (λ (z : ℕ). Some z) (sym same);
                last = omega (arith, gr.place, taken, ap (λ z. (new z).taken) same, ap (λ z. (new z).first) same);
              }
          | inr other ↦
              let e = gr.others y other (omega (arith, before, arena.begins)) in
              let p = l.partly y before (omega (arith, some, ap (λ (s : Spot). s.taken) e)) (omega (arith, few, grown_width y, ap (λ (s : Spot). s.taken) e)) in
              let head : x ≡ y = cc p.first in
              absurd (other (sym head))
        ];
      }
    where
      apart_queue : (y : ℕ) → y ≢ x → times y queue ≡ times y (x ∷ rest)
      apart_queue y other = elim (cases_lt ((old x).taken + 1) (width (old x))) [
        | inl some ↦ ap (times y) (stays some)
        | inr last ↦ ap (times y) (leaves last) ∙ omega (arith, times-cons y x rest, once-there x y other)
      ]

-- places claimed by one ticket are one
pub one-claim : (start n : ℕ) (look : ℕ → Spot) (queue next back : List ℕ) (claims : List Claim) (t x y : ℕ)
    → AreListed start n look queue next back claims → (look x).mark ≡ Some (mark.Claimed t) → (look y).mark ≡ Some (mark.Claimed t) → x ≡ y
one-claim start n look queue next back claims t x y l h k =
    let a = claim-at t x claims (omega (arith, l.claimed x t, once-yes _ (is-claimed t (look x).mark h))) in
    let b = claim-at t y claims (omega (arith, l.claimed y t, once-yes _ (is-claimed t (look y).mark k))) in
    sym (a.place unclaimed) ∙ ap (λ i. (get_or claims i unclaimed).place) (claim-one claims t a.index b.index l.ascending a.is b.is) ∙ b.place unclaimed
