-- What a change of one place's mark changes.
use Rattle.std.proofs.Common.{◌≡◌, ◌≢◌, ℕ, suc, ◌+◌, ◌<◌, ◌≤◌, refl, sym, ap, ◌∙◌, subst, arith, cond, Some, None, List, [], ◌∷◌, false, nat_lt, inl, inr}
use Rattle.std.specs.Prelude.{◌⊎◌}
use Rattle.std.proofs.lemmas.Bool.{cases_lt, cases_eq}
use Rattle.lf_marks.specs.Steps.{Mark, kid_of, kids_beneath}
use Rattle.lf_marks.specs.Steps as mark
use Rattle.lf_marks.specs.Walks.{Spot, led_from, marked_from, untaken, width, width_of, is_set, is_waiting, is_answer, IsArena, IsRemarked}
use Rattle.lf_marks.proofs.WalkLemmas.{lt-is, lt-not, led-taken, led-past, marked-taken, marked-past, marked-led, marked-append, led-one}

-- a path that sees the change: to the place itself, or to one of its kids
pub data Sees (old : ℕ → Spot) (x w y : ℕ) (path : List ℕ) : Type 0 where
  here : led_from old y path ≡ Some x → Sees old x w y path
  beneath : (front : List ℕ) (i : ℕ) → path ≡ kid_of front i → led_from old y front ≡ Some x → i < w → Sees old x w y path

module _ (old new : ℕ → Spot) (x : ℕ) (m : Mark) (re : IsRemarked old new x m) where
  pub led-same : (y : ℕ) (path : List ℕ) → led_from new y path ≡ led_from old y path
  led-same y [] = refl
  led-same y (i ∷ path) = elim (cases_lt i (old y).taken) [
    | inl few ↦ led-taken new y i path (omega (arith, few, re.takens y))
        ∙ ap (λ z. led_from new (z + i) path) (re.firsts y) ∙ led-same ((old y).first + i) path ∙ sym (led-taken old y i path few)
    | inr far ↦ led-past new y i path (omega (arith, far, re.takens y)) ∙ sym (led-past old y i path far)
  ]

  wide : (new x).mark ≡ Some m → width (new x) ≡ kids_beneath m
  wide h = ap width_of h

  -- each path that doesn't see the change has its mark
  pub sees : (start : ℕ) → (old x).taken ≡ 0 → width (old x) ≡ 0 → (y : ℕ) (path : List ℕ)
      → (marked_from new start y path ≡ marked_from old start y path) ⊎ Sees old x (kids_beneath m) y path
  sees start none leaf y [] = elim (cases_eq y x) [
    | inl same ↦ inr (here (ap (λ (z : ℕ). Some z) same))
    | inr other ↦ inl (re.others y other)
  ]
  sees start none leaf y (i ∷ path) = elim (cases_lt i (old y).taken) [
    | inl few ↦
        let a = marked-taken new start y i path (omega (arith, few, re.takens y))
        ∙ ap (λ z. marked_from new start (z + i) path) (re.firsts y) in
        let b = marked-taken old start y i path few in
        elim (sees start none leaf ((old y).first + i) path) [
          | inl same ↦ inl (a ∙ same ∙ sym b)
          | inr seen ↦ inr (deeper seen few)
        ]
    | inr far ↦
        let a = marked-past new start y i path (omega (arith, far, re.takens y)) in
        let b = marked-past old start y i path far in
        elim (cases_eq y x) [
          | inr other ↦ inl (a ∙ ap (λ o. untaken (nat_lt y start) (nat_lt i (width_of o)) path) (re.others y other) ∙ sym b)
          | inl same ↦ at_last path same a b
        ]
  ]
    where
      deeper : Sees old x (kids_beneath m) ((old y).first + i) path → i < (old y).taken → Sees old x (kids_beneath m) y (i ∷ path)
      deeper (here led) few = here (led-taken old y i path few ∙ led)
      deeper (beneath front j whole led within) few =
          beneath (i ∷ front) j (ap (λ (r : List ℕ). i ∷ r) whole) (led-taken old y i front few ∙ led) within

      at_last : (r : List ℕ) → y ≡ x
          → marked_from new start y (i ∷ r) ≡ untaken (nat_lt y start) (nat_lt i (width (new y))) r
          → marked_from old start y (i ∷ r) ≡ untaken (nat_lt y start) (nat_lt i (width (old y))) r
          → (marked_from new start y (i ∷ r) ≡ marked_from old start y (i ∷ r)) ⊎ Sees old x (kids_beneath m) y (i ∷ r)
      at_last (j ∷ r) same a b = inl (a ∙ sym b)
      at_last [] same a b =
          let w : width (new y) ≡ kids_beneath m = ap (λ z. width (new z)) same ∙ wide re.is in
          let v : width (old y) ≡ 0 = ap (λ z. width (old z)) same ∙ leaf in
          elim (cases_lt i (kids_beneath m)) [
            | inl within ↦ inr (beneath [] i refl (ap (λ (z : ℕ). Some z) same) within)
            | inr out ↦ inl (a ∙ ap (λ c. cond c (Some (cond (nat_lt y start) mark.Open mark.Waiting)) None) (lt-not i (width (new y)) (omega (arith, w, out)))
                ∙ sym (b ∙ ap (λ c. cond c (Some (cond (nat_lt y start) mark.Open mark.Waiting)) None) (lt-not i (width (old y)) (omega (arith, v)))))
          ]

-- what a path that leads to the changed place has, what its kids have, and that all others keep theirs
module _ (level start n : ℕ) (old new : ℕ → Spot) (x : ℕ) (m : Mark) (arena : IsArena level start n old) (re : IsRemarked old new x m)
    (within : x < n) (none : (old x).taken ≡ 0) (leaf : width (old x) ≡ 0) (p : List ℕ) (led : led_from old 0 p ≡ Some x) where
  pub remarked-at : marked_from new start 0 p ≡ Some m
  remarked-at = marked-led new start 0 p x (led-same old new x m re 0 p ∙ led) ∙ re.is

  pub remarked-kids : start ≤ x → (i : ℕ) → i < kids_beneath m → marked_from new start 0 (kid_of p i) ≡ Some mark.Waiting
  remarked-kids low i few =
      marked-append new start 0 p (i ∷ []) x (led-same old new x m re 0 p ∙ led)
      ∙ marked-past new start x i [] (omega (arith, none, re.takens x))
      ∙ ap (λ c. untaken c (nat_lt i (width (new x))) []) (lt-not x start low)
      ∙ ap (λ c. untaken false c []) (lt-is i (width (new x)) (subst (λ w. i < w) (sym (wide_at re.is)) few))
    where
      wide_at : (new x).mark ≡ Some m → width (new x) ≡ kids_beneath m
      wide_at h = ap width_of h

  pub remarked-others : (q : List ℕ) → q ≢ p → ((i : ℕ) → i < kids_beneath m → q ≢ kid_of p i)
      → marked_from new start 0 q ≡ marked_from old start 0 q
  remarked-others q apart beyond = elim (sees old new x m re start none leaf 0 q) [
    | inl same ↦ same
    | inr seen ↦ absurd (unseen q apart beyond seen)
  ]
    where
      unseen : (q : List ℕ) → q ≢ p → ((i : ℕ) → i < kids_beneath m → q ≢ kid_of p i) → Sees old x (kids_beneath m) 0 q → ⊥
      unseen q apart beyond (here there) = apart (led-one level start n old arena (suc x) x q p (omega arith) there led)
      unseen q apart beyond (beneath front i whole there few) =
          beyond i few (whole ∙ ap (λ f. kid_of f i) (led-one level start n old arena (suc x) x front p (omega arith) there led))

-- a claimed, open or answered place of the level keeps the tree one
pub remarked-arena : (level start n : ℕ) (old new : ℕ → Spot) (x : ℕ) (m : Mark) → IsArena level start n old → IsRemarked old new x m
    → start ≤ x → x < n → is_waiting (Some m) ≡ false → IsArena level start n new
remarked-arena level start n old new x m a re low few waits = record {
  some = a.some;
  begins = a.begins;
  root = re.depths 0 ∙ a.root;
  within = λ y h. elim (cases_eq y x) [
    | inl same ↦ ap (λ z. is_set (new z).mark) same ∙ ap is_set re.is
    | inr other ↦ ap is_set (re.others y other) ∙ a.within y h
  ];
  past = λ y h. ap is_set (re.others y (omega (arith, h, few))) ∙ a.past y h;
  known = λ y. elim (cases_eq y x) [
    | inl same ↦ ap (λ z. is_waiting (new z).mark) same ∙ ap is_waiting re.is ∙ waits
    | inr other ↦ ap is_waiting (re.others y other) ∙ a.known y
  ];
  up = λ y more h. let u = a.up y more h in record {
    before = omega (arith, u.before, re.parents y);
    kid = omega (arith, u.kid, re.kids y, re.takens (new y).parent, ap (λ z. (old z).taken) (re.parents y));
    place = omega (arith, u.place, re.kids y, re.firsts (new y).parent, ap (λ z. (old z).first) (re.parents y));
    depth = omega (arith, u.depth, re.depths y, re.depths (new y).parent, ap (λ z. (old z).depth) (re.parents y));
  };
  down = λ y i h. let d = a.down y i (omega (arith, h, re.takens y)) in record {
    within = omega (arith, d.within, re.firsts y);
    later = omega (arith, d.later, re.firsts y);
    parent = re.parents _ ∙ ap (λ z. (old (z + i)).parent) (re.firsts y) ∙ d.parent;
    kid = re.kids _ ∙ ap (λ z. (old (z + i)).kid) (re.firsts y) ∙ d.kid;
  };
  narrow = λ y. elim (cases_eq y x) [
    | inl same ↦ let none : (new y).taken ≡ 0 = re.takens y ∙ a.fresh y (omega (arith, same, low)) in omega (arith, none)
    | inr other ↦ let w : width (new y) ≡ width (old y) = ap width_of (re.others y other) in omega (arith, a.narrow y, re.takens y, w)
  ];
  above = λ y h. ap is_answer (re.others y (omega (arith, h, low))) ∙ a.above y h;
  over = λ y h. omega (arith, a.over y h, re.depths y);
  on = λ y h k. re.depths y ∙ a.on y h k;
  fresh = λ y h. re.takens y ∙ a.fresh y h;
  last = λ y h k.
      let w : width (new y) ≡ width (old y) = ap width_of (re.others y (omega (arith, h, low))) in
      omega (arith, re.depths y, a.last y h (omega (arith, k, re.takens y, w)));
}
