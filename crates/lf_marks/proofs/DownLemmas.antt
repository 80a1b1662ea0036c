-- Going down a level.
use Rattle.std.proofs.Common.{◌≡◌, ◌≢◌, ℕ, suc, ◌+◌, ◌<◌, ◌≤◌, refl, sym, ap, ◌∙◌, arith, Option, Some, None, List, [], ◌∷◌, true, false, nat_lt, inl, inr}
use Rattle.std.specs.Option.{option_map}
use Rattle.std.proofs.lemmas.Bool.{cases_lt}
use Rattle.lf_marks.specs.Steps.{Mark, kid_of, kids_beneath, raised, IsUnmarked}
use Rattle.lf_marks.specs.Steps as mark
use Rattle.lf_marks.specs.Walks.{Spot, marked_from, untaken, width, width_of, is_set, is_waiting, is_answer, IsArena}
use Rattle.lf_marks.proofs.WalkLemmas.{lt-is, lt-not, marked-taken, marked-past, marked-led, marked-append, led-some}

-- a mark that doesn't wait stays
stays : (o : Option Mark) → is_waiting o ≡ false → o ≡ option_map raised o
stays None h = refl
stays (Some mark.Waiting) h = cc
stays (Some mark.Open) h = refl
stays (Some (mark.Claimed t)) h = refl
stays (Some mark.Misses) h = refl
stays (Some mark.Reaches) h = refl
stays (Some (mark.Branch reach edges)) h = refl

-- one that is neither open nor claimed nor waits is an answer
answers : (o : Option Mark) → is_set o ≡ true → is_waiting o ≡ false → o ≢ Some mark.Open → ((t : ℕ) → o ≢ Some (mark.Claimed t)) → is_answer o ≡ true
answers None h w f g = cc
answers (Some mark.Waiting) h w f g = cc
answers (Some mark.Open) h w f g = absurd (f refl)
answers (Some (mark.Claimed t)) h w f g = absurd (g t refl)
answers (Some mark.Misses) h w f g = refl
answers (Some mark.Reaches) h w f g = refl
answers (Some (mark.Branch reach edges)) h w f g = refl

-- a place past the end has no kids
narrow_past : (o : Option Mark) → is_set o ≡ false → width_of o ≡ 0
narrow_past None h = refl
narrow_past (Some m) h = cc

module _ (level start n : ℕ) (look : ℕ → Spot) (arena : IsArena level start n look) where
  -- where no set is open, each branch above the level has had its kids taken
  pub all-taken : IsUnmarked (marked_from look start 0) mark.Open → (x : ℕ) → x < start → width (look x) ≤ (look x).taken
  all-taken never x high = elim (cases_lt (look x).taken (width (look x))) [
    | inr all ↦ all
    | inl more ↦
        let way = led-some level start n look arena (suc x) x (omega arith) (omega (arith, high, arena.begins)) in
        absurd (never (kid_of way.0 (look x).taken)
        (marked-append look start 0 way.0 ((look x).taken ∷ []) x way.1
        ∙ marked-past look start x (look x).taken [] (omega arith)
        ∙ ap (λ c. untaken c (nat_lt (look x).taken (width (look x))) []) (lt-is x start high)
        ∙ ap (λ c. untaken true c []) (lt-is _ _ more)))
  ]

  pub past-width : (x : ℕ) → n ≤ x → width (look x) ≡ 0
  past-width x far = narrow_past (look x).mark (arena.past x far)

  -- the mark at each path from a place within
  pub raised-from : IsUnmarked (marked_from look start 0) mark.Open → (x : ℕ) (path : List ℕ)
      → marked_from look n x path ≡ option_map raised (marked_from look start x path)
  raised-from never x [] = stays (look x).mark (arena.known x)
  raised-from never x (i ∷ path) = elim (cases_lt i (look x).taken) [
    | inl few ↦ marked-taken look n x i path few ∙ raised-from never ((look x).first + i) path
        ∙ ap (option_map raised) (sym (marked-taken look start x i path few))
    | inr far ↦ marked-past look n x i path far ∙ beneath path far ∙ ap (option_map raised) (sym (marked-past look start x i path far))
  ]
    where
      beneath : (r : List ℕ) → (look x).taken ≤ i
          → untaken (nat_lt x n) (nat_lt i (width (look x))) r ≡ option_map raised (untaken (nat_lt x start) (nat_lt i (width (look x))) r)
      beneath (j ∷ r) far = refl
      beneath [] far = elim (cases_lt i (width (look x))) [
        | inr none ↦ ap (λ c. untaken (nat_lt x n) c []) (lt-not _ _ none)
            ∙ ap (λ c. option_map raised (untaken (nat_lt x start) c [])) (sym (lt-not _ _ none))
        | inl more ↦ elim (cases_lt x start) [
          | inl high ↦ let never_more : ⊥ = omega (arith, more, far, all-taken never x high) in absurd never_more
          | inr low ↦ elim (cases_lt x n) [
            | inr past ↦ let never_more : ⊥ = omega (arith, more, past-width x past) in absurd never_more
            | inl within ↦ ap (λ c. untaken c (nat_lt i (width (look x))) []) (lt-is x n within)
                ∙ ap (λ c. untaken true c []) (lt-is _ _ more)
                ∙ ap (λ c. option_map raised (untaken false c [])) (sym (lt-is _ _ more))
                ∙ ap (λ c. option_map raised (untaken c (nat_lt i (width (look x))) [])) (sym (lt-not x start low))
          ]
        ]
      ]

  -- the tree of the next level
  pub raised-arena : IsUnmarked (marked_from look start 0) mark.Open → ((t : ℕ) → IsUnmarked (marked_from look start 0) (mark.Claimed t))
      → IsArena (level + 1) n n look
  raised-arena never free = record {
    some = arena.some;
    begins = omega arith;
    root = arena.root;
    within = arena.within;
    past = arena.past;
    known = arena.known;
    up = arena.up;
    down = arena.down;
    narrow = arena.narrow;
    above = λ x h.
        let way = led-some level start n look arena (suc x) x (omega arith) h in
        answers (look x).mark (arena.within x h) (arena.known x)
        (λ e. never way.0 (marked-led look start 0 way.0 x way.1 ∙ e)) (λ t e. free t way.0 (marked-led look start 0 way.0 x way.1 ∙ e));
    over = λ x h. elim (cases_lt x start) [
      | inl high ↦ omega (arith, arena.over x high)
      | inr low ↦ omega (arith, arena.on x low h)
    ];
    on = λ x h k. absurd (omega (arith, h, k));
    fresh = λ x h. omega (arith, arena.narrow x, past-width x h);
    last = λ x h more. elim (cases_lt x start) [
      | inl high ↦ let never_more : ⊥ = omega (arith, more, all-taken never x high) in absurd never_more
      | inr low ↦ omega (arith, arena.on x low h)
    ];
  }
