-- What taking a kid that nobody took changes.
use Rattle.std.proofs.Common.{◌≡◌, ◌≢◌, ℕ, suc, ◌+◌, ◌<◌, ◌≤◌, refl, sym, ap, ◌∙◌, subst, arith, Some, None, List, [], ◌∷◌, true, false, nat_lt, inl, inr}
use Rattle.std.specs.Prelude.{◌⊎◌}
use Rattle.std.proofs.lemmas.Bool.{cases_lt, cases_eq}
use Rattle.lf_marks.specs.Steps.{Mark, kid_of, kids_beneath}
use Rattle.lf_marks.specs.Steps as mark
use Rattle.lf_marks.specs.Walks.{Spot, led_from, marked_from, untaken, width, width_of, is_set, is_waiting, is_answer, IsArena, IsBeneath, IsKid, IsGrownBy}
use Rattle.lf_marks.proofs.WalkLemmas.{lt-is, lt-not, led-taken, led-past, marked-taken, marked-past, marked-append, led-one}

-- the path of the new kid from a place
pub record IsNew (old : ℕ → Spot) (x y : ℕ) (path : List ℕ) : Type 0 where
  pub front : List ℕ
  pub whole : path ≡ kid_of front (old x).taken
  pub led : led_from old y front ≡ Some x

-- a kid that nobody took, of a branch above the level, is open
pub kid-open : (level start n : ℕ) (look : ℕ → Spot) (x : ℕ) → x < start → (look x).taken < width (look x) → (p : List ℕ)
    → led_from look 0 p ≡ Some x → marked_from look start 0 (kid_of p (look x).taken) ≡ Some mark.Open
kid-open level start n look x high more p led =
    marked-append look start 0 p ((look x).taken ∷ []) x led ∙ marked-past look start x (look x).taken [] (omega arith)
    ∙ ap (λ c. untaken c (nat_lt (look x).taken (width (look x))) []) (lt-is x start high) ∙ ap (λ c. untaken true c []) (lt-is _ _ more)

module _ (level start n : ℕ) (old new : ℕ → Spot) (x t : ℕ) (arena : IsArena level start n old) (gr : IsGrownBy old new n x t)
    (high : x < start) (more : (old x).taken < width (old x)) where
  below : x < n
  below = omega (arith, high, arena.begins)

  takens : (y : ℕ) → y ≢ x → y < n → (new y).taken ≡ (old y).taken
  takens y other few = ap (λ (s : Spot). s.taken) (gr.others y other (omega (arith, few)))

  firsts : (y i : ℕ) → y < n → i < (old y).taken → (new y).first ≡ (old y).first
  firsts y i few taken = elim (cases_eq y x) [
    | inl same ↦ ap (λ z. (new z).first) same ∙ gr.same (omega (arith, taken, ap (λ z. (old z).taken) same)) ∙ ap (λ z. (old z).first) (sym same)
    | inr other ↦ ap (λ (s : Spot). s.first) (gr.others y other (omega (arith, few)))
  ]

  grown_taken : (new x).taken ≡ (old x).taken + 1
  grown_taken = ap (λ (s : Spot). s.taken) gr.grown

  taken_more : (y i : ℕ) → y < n → i < (old y).taken → i < (new y).taken
  taken_more y i few taken = elim (cases_eq y x) [
    | inl same ↦ omega (arith, taken, grown_taken, ap (λ z. (old z).taken) same, ap (λ z. (new z).taken) same)
    | inr other ↦ omega (arith, taken, takens y other few)
  ]

  pub marks : (y : ℕ) → y < n → (new y).mark ≡ (old y).mark
  marks y few = elim (cases_eq y x) [
    | inl same ↦ ap (λ z. (new z).mark) same ∙ ap (λ (s : Spot). s.mark) gr.grown ∙ ap (λ z. (old z).mark) (sym same)
    | inr other ↦ ap (λ (s : Spot). s.mark) (gr.others y other (omega (arith, few)))
  ]

  pub led-kept : (y : ℕ) (path : List ℕ) (z : ℕ) → y < n → led_from old y path ≡ Some z → led_from new y path ≡ Some z
  led-kept y [] z few h = h
  led-kept y (i ∷ path) z few h = elim (cases_lt i (old y).taken) [
    | inl taken ↦ led-taken new y i path (taken_more y i few taken) ∙ ap (λ f. led_from new (f + i) path) (firsts y i few taken)
        ∙ led-kept ((old y).first + i) path z (arena.down y i taken).within (sym (led-taken old y i path taken) ∙ h)
    | inr far ↦ let no : None ≡ Some z = sym (led-past old y i path far) ∙ h in absurd cc
  ]

  past_kid : (path : List ℕ) (j : ℕ) → marked_from new start n (j ∷ path) ≡ None
  past_kid path j =
      let none : (new n).taken ≡ 0 = ap (λ (s : Spot). s.taken) gr.kid in
      let leaf : width (new n) ≡ 0 = ap width gr.kid in
      marked-past new start n j path (omega (arith, none)) ∙ ap (λ c. untaken (nat_lt n start) c path) (lt-not j (width (new n)) (omega (arith, leaf)))
      ∙ ended path
    where
      ended : (r : List ℕ) → untaken (nat_lt n start) false r ≡ None
      ended [] = refl
      ended (k ∷ r) = refl

  pub grown-from : (y : ℕ) (path : List ℕ) → y < n
      → (marked_from new start y path ≡ marked_from old start y path) ⊎ IsNew old x y path
  grown-from y [] few = inl (marks y few)
  grown-from y (i ∷ path) few = elim (cases_lt i (old y).taken) [
    | inl taken ↦
        let a = marked-taken new start y i path (taken_more y i few taken) ∙ ap (λ f. marked_from new start (f + i) path) (firsts y i few taken) in
        let b = marked-taken old start y i path taken in
        elim (grown-from ((old y).first + i) path (arena.down y i taken).within) [
          | inl same ↦ inl (a ∙ same ∙ sym b)
          | inr it ↦ inr (record { front = i ∷ it.front; whole = ap (λ (r : List ℕ). i ∷ r) it.whole; led = led-taken old y i it.front taken ∙ it.led })
        ]
    | inr far ↦ elim (cases_eq y x) [
      | inr other ↦ inl (marked-past new start y i path (omega (arith, far, takens y other few))
          ∙ ap (λ o. untaken (nat_lt y start) (nat_lt i (width_of o)) path) (marks y few) ∙ sym (marked-past old start y i path far))
      | inl same ↦ elim (cases_eq i (old y).taken) [
        | inr beyond ↦ inl (marked-past new start y i path (omega (arith, far, beyond, grown_taken, ap (λ z. (old z).taken) same, ap (λ z. (new z).taken) same))
            ∙ ap (λ o. untaken (nat_lt y start) (nat_lt i (width_of o)) path) (marks y few) ∙ sym (marked-past old start y i path far))
        | inl next ↦ at_next path same next (marked-past old start y i path far)
      ]
    ]
  ]
    where
      at_next : (r : List ℕ) → y ≡ x → i ≡ (old y).taken
          → marked_from old start y (i ∷ r) ≡ untaken (nat_lt y start) (nat_lt i (width (old y))) r
          → (marked_from new start y (i ∷ r) ≡ marked_from old start y (i ∷ r)) ⊎ IsNew old x y (i ∷ r)
      at_next [] same next b = inr (record {
        front = [];
        whole = ap (λ (j : ℕ). j ∷ []) (next ∙ ap (λ z. (old z).taken) same);
        led = ap (λ (z : ℕ). Some z) same;
      })
      at_next (j ∷ r) same next b =
          let taken : i < (new y).taken = omega (arith, next, grown_taken, ap (λ z. (old z).taken) same, ap (λ z. (new z).taken) same) in
          let there : (new y).first + i ≡ n = omega (arith, next, gr.place, ap (λ z. (old z).taken) same, ap (λ z. (new z).first) same) in
          inl (marked-taken new start y i (j ∷ r) taken ∙ ap (λ z. marked_from new start z (j ∷ r)) there ∙ past_kid r j ∙ sym b)

  -- the new kid was open, and is claimed
  pub grown-was : (p : List ℕ) → led_from old 0 p ≡ Some x → marked_from old start 0 (kid_of p (old x).taken) ≡ Some mark.Open
  grown-was p led = kid-open level start n old x high more p led

  pub grown-is : (p : List ℕ) → led_from old 0 p ≡ Some x → marked_from new start 0 (kid_of p (old x).taken) ≡ Some (mark.Claimed t)
  grown-is p led =
      marked-append new start 0 p ((old x).taken ∷ []) x (led-kept 0 p x arena.some led)
      ∙ marked-taken new start x (old x).taken [] (omega (arith, grown_taken))
      ∙ ap (λ z. (new z).mark) gr.place ∙ ap (λ (s : Spot). s.mark) gr.kid

  pub grown-others : (p : List ℕ) → led_from old 0 p ≡ Some x → (q : List ℕ) → q ≢ kid_of p (old x).taken
      → marked_from new start 0 q ≡ marked_from old start 0 q
  grown-others p led q apart = elim (grown-from 0 q arena.some) [
    | inl same ↦ same
    | inr it ↦ absurd (apart (it.whole ∙ ap (λ f. kid_of f (old x).taken) (led-one level start n old arena (suc x) x it.front p (omega arith) it.led led)))
  ]

  old_or_new : (y : ℕ) → y < n + 1 → (y < n) ⊎ (y ≡ n)
  old_or_new y h = elim (cases_lt y n) [ inl few ↦ inl few | inr far ↦ inr (omega (arith, h, far)) ]

  parents : (y : ℕ) → y < n → (new y).parent ≡ (old y).parent
  parents y few = elim (cases_eq y x) [
    | inl same ↦ ap (λ z. (new z).parent) same ∙ ap (λ (s : Spot). s.parent) gr.grown ∙ ap (λ z. (old z).parent) (sym same)
    | inr other ↦ ap (λ (s : Spot). s.parent) (gr.others y other (omega (arith, few)))
  ]

  kids : (y : ℕ) → y < n → (new y).kid ≡ (old y).kid
  kids y few = elim (cases_eq y x) [
    | inl same ↦ ap (λ z. (new z).kid) same ∙ ap (λ (s : Spot). s.kid) gr.grown ∙ ap (λ z. (old z).kid) (sym same)
    | inr other ↦ ap (λ (s : Spot). s.kid) (gr.others y other (omega (arith, few)))
  ]

  depths : (y : ℕ) → y < n → (new y).depth ≡ (old y).depth
  depths y few = elim (cases_eq y x) [
    | inl same ↦ ap (λ z. (new z).depth) same ∙ ap (λ (s : Spot). s.depth) gr.grown ∙ ap (λ z. (old z).depth) (sym same)
    | inr other ↦ ap (λ (s : Spot). s.depth) (gr.others y other (omega (arith, few)))
  ]

  far_same : (y : ℕ) → n < y → new y ≡ old y
  far_same y h = gr.others y (omega (arith, h, below)) (omega (arith, h))

  kid_of_old : (y i : ℕ) → y < n → i < (old y).taken → IsKid new (n + 1) y i
  kid_of_old y i few h =
      let d = arena.down y i h in
      let f = firsts y i few h in record {
        within = omega (arith, d.within, f);
        later = omega (arith, d.later, f);
        parent = ap (λ z. (new (z + i)).parent) f ∙ parents _ d.within ∙ d.parent;
        kid = ap (λ z. (new (z + i)).kid) f ∙ kids _ d.within ∙ d.kid;
      }

  kid_new : IsKid new (n + 1) x (old x).taken
  kid_new = record {
    within = omega (arith, gr.place);
    later = elim (cases_lt 0 (old x).taken) [
      | inl some ↦ omega (arith, gr.same some, (arena.down x 0 some).later)
      | inr none ↦ omega (arith, none, gr.place, arena.some)
    ];
    parent = ap (λ z. (new z).parent) gr.place ∙ ap (λ (s : Spot). s.parent) gr.kid;
    kid = ap (λ z. (new z).kid) gr.place ∙ ap (λ (s : Spot). s.kid) gr.kid;
  }

  beneath_old : (y : ℕ) → 0 < y → y < n → IsBeneath new y
  beneath_old y some few =
      let u = arena.up y some few in
      let by : (old y).parent < n = omega (arith, few, u.before) in
      let p = parents y few in record {
        before = omega (arith, u.before, p);
        kid = subst (λ z. (new y).kid < (new z).taken) (sym p) (omega (arith, kids y few, taken_more (old y).parent (old y).kid by u.kid));
        place = ap (λ z. (new z).first + (new y).kid) p ∙ omega (arith, u.place, kids y few, firsts (old y).parent (old y).kid by u.kid);
        depth = ap (λ z. (new z).depth + 1) p ∙ omega (arith, u.depth, depths y few, depths (old y).parent by);
      }

  beneath_new : IsBeneath new n
  beneath_new =
      let p = ap (λ (s : Spot). s.parent) gr.kid in
      let k = ap (λ (s : Spot). s.kid) gr.kid in
      let d = ap (λ (s : Spot). s.depth) gr.kid in record {
        before = omega (arith, p, below);
        kid = subst (λ z. (new n).kid < (new z).taken) (sym p) (omega (arith, k, grown_taken));
        place = ap (λ z. (new z).first + (new n).kid) p ∙ omega (arith, k, gr.place);
        depth = ap (λ z. (new z).depth + 1) p ∙ omega (arith, d, depths x below);
      }

  kids_grown : (y i : ℕ) → i < (new y).taken → IsKid new (n + 1) y i
  kids_grown y i h = elim (cases_lt y n) [
    | inl few ↦ elim (cases_eq y x) [
      | inr other ↦ kid_of_old y i few (omega (arith, h, takens y other few))
      | inl same ↦ elim (cases_lt i (old y).taken) [
        | inl taken ↦ kid_of_old y i few taken
        | inr far ↦
            let is : i ≡ (old x).taken = omega (arith, h, far, grown_taken, ap (λ z. (old z).taken) same, ap (λ z. (new z).taken) same) in
            subst (λ z. IsKid new (n + 1) z i) (sym same) (subst (λ z. IsKid new (n + 1) x z) (sym is) kid_new)
      ]
    ]
    | inr far ↦ elim (cases_eq y n) [
      | inl same ↦
          let never : ⊥ = omega (arith, h, ap (λ z. (new z).taken) same, ap (λ (s : Spot). s.taken) gr.kid) in absurd never
      | inr other ↦
          let e : (new y).taken ≡ (old y).taken = ap (λ (s : Spot). s.taken) (far_same y (omega (arith, far, other))) in
          let d = (arena.down y i (omega (arith, h, e))) in
          let u = arena.up ((old y).first + i) (omega (arith, d.later)) d.within in
          let never : ⊥ = omega (arith, u.before, d.parent, d.within, far) in absurd never
    ]
  ]

  narrow_grown : (y : ℕ) → (new y).taken ≤ width (new y)
  narrow_grown y = elim (cases_lt y n) [
    | inl few ↦
        let w : width (new y) ≡ width (old y) = ap width_of (marks y few) in
        elim (cases_eq y x) [
          | inl same ↦ omega (arith, more, w, grown_taken, ap (λ z. (new z).taken) same, ap (λ z. width (old z)) same)
          | inr other ↦ omega (arith, w, takens y other few, arena.narrow y)
        ]
    | inr far ↦ elim (cases_eq y n) [
      | inl same ↦ omega (arith, ap (λ z. (new z).taken) same, ap (λ (s : Spot). s.taken) gr.kid)
      | inr other ↦
          let e = far_same y (omega (arith, far, other)) in
          omega (arith, ap (λ (s : Spot). s.taken) e, ap width e, arena.narrow y)
    ]
  ]

  fresh_grown : (y : ℕ) → start ≤ y → (new y).taken ≡ 0
  fresh_grown y h = elim (cases_eq y n) [
    | inl same ↦ ap (λ z. (new z).taken) same ∙ ap (λ (s : Spot). s.taken) gr.kid
    | inr other ↦ ap (λ (s : Spot). s.taken) (gr.others y (omega (arith, h, high)) other) ∙ arena.fresh y h
  ]

  pub grown-arena : IsArena level start (n + 1) new
  grown-arena = record {
    some = omega (arith, arena.some);
    begins = omega (arith, arena.begins);
    root = depths 0 arena.some ∙ arena.root;
    within = λ y h. elim (old_or_new y h) [
      | inl few ↦ ap is_set (marks y few) ∙ arena.within y few
      | inr same ↦ ap (λ z. is_set (new z).mark) same ∙ ap (λ (s : Spot). is_set s.mark) gr.kid
    ];
    past = λ y h. ap (λ (s : Spot). is_set s.mark) (far_same y (omega (arith, h))) ∙ arena.past y (omega (arith, h));
    known = λ y. elim (cases_lt y (n + 1)) [
      | inr far ↦ ap (λ (s : Spot). is_waiting s.mark) (far_same y (omega (arith, far))) ∙ arena.known y
      | inl h ↦ elim (old_or_new y h) [
        | inl few ↦ ap is_waiting (marks y few) ∙ arena.known y
        | inr same ↦ ap (λ z. is_waiting (new z).mark) same ∙ ap (λ (s : Spot). is_waiting s.mark) gr.kid
      ]
    ];
    up = λ y some h. elim (old_or_new y h) [
      | inl few ↦ beneath_old y some few
      | inr same ↦ subst (λ z. IsBeneath new z) (sym same) beneath_new
    ];
    down = kids_grown;
    narrow = narrow_grown;
    above = λ y h. ap is_answer (marks y (omega (arith, h, arena.begins))) ∙ arena.above y h;
    over = λ y h. omega (arith, depths y (omega (arith, h, arena.begins)), arena.over y h);
    on = λ y h k. elim (old_or_new y k) [
      | inl few ↦ depths y few ∙ arena.on y h few
      | inr same ↦ ap (λ z. (new z).depth) same ∙ ap (λ (s : Spot). s.depth) gr.kid ∙ arena.last x high more
    ];
    fresh = fresh_grown;
    last = λ y h k.
        let few : y < n = omega (arith, h, arena.begins) in
        let w : width (new y) ≡ width (old y) = ap width_of (marks y few) in
        elim (cases_eq y x) [
          | inl same ↦ omega (arith, depths y few, ap (λ z. (old z).depth) same, arena.last x high more)
          | inr other ↦ omega (arith, depths y few, arena.last y h (omega (arith, k, w, takens y other few)))
        ];
  }
