-- The paths of the sets that miss, place by place.
use Rattle.std.proofs.Common.{◌≡◌, ◌≢◌, ℕ, suc, ◌+◌, ◌<◌, ◌≤◌, refl, sym, ap, ◌∙◌, subst, arith, Some, List, [], ◌∷◌, ◌++◌, length, map, inl, inr, Vec, Global}
use Rattle.std.specs.List.{Contains}
use Rattle.std.proofs.lemmas.Bool.{cases_eq, cases_lt}
use Rattle.std.proofs.lemmas.List.{map_push}
use Rattle.std.proofs.lemmas.List.Elements.{Contains-append_left, Contains-append_right, Contains-append_cases}
use Rattle.lf_list.proofs.Laws.{none-in, Contains-first, cases_in}
use Rattle.lf_marks.specs.Counting.{AreThose}
use Rattle.lf_marks.specs.Steps.{Mark, Marking}
use Rattle.lf_marks.specs.Steps as mark
use Rattle.lf_marks.specs.Walks.{Spot, led_from, marked_from, IsArena}
use Rattle.lf_marks.proofs.CountLemmas.{apart-append}
use Rattle.lf_marks.proofs.ShapeLemmas.{Stands, placed, opened, waits, stands}
use Rattle.lf_marks.proofs.WalkLemmas.{marked-led, led-one, led-within, led-depth}

-- a path that leads to a set that misses, from one place on and before another
pub record IsMiss (look : ℕ → Spot) (start k : ℕ) (p : List ℕ) : Type 0 where
  pub place : ℕ
  pub low : start ≤ place
  pub before : place < k
  pub led : led_from look 0 p ≡ Some place
  pub is : (look place).mark ≡ Some mark.Misses

later : (look : ℕ → Spot) (start k : ℕ) (p : List ℕ) → IsMiss look start k p → IsMiss look start (k + 1) p
later look start k p m = record { place = m.place; low = m.low; before = omega (arith, m.before); led = m.led; is = m.is }

earlier : (look : ℕ → Spot) (start k : ℕ) (p : List ℕ) (m : IsMiss look start (k + 1) p) → m.place ≢ k → IsMiss look start k p
earlier look start k p m apart = record { place = m.place; low = m.low; before = omega (arith, m.before, apart); led = m.led; is = m.is }

module _ (look : ℕ → Spot) (start : ℕ) where
  pub misses-none : AreThose (IsMiss look start start) []
  misses-none = record {
    apart = tt;
    all = λ p h. let never : ⊥ = omega (arith, h.low, h.before) in absurd never;
    only = λ p h. absurd (none-in p h);
  }

  -- a place whose set does not miss
  pub misses-same : (k : ℕ) (ps : List (List ℕ)) → (look k).mark ≢ Some mark.Misses → AreThose (IsMiss look start k) ps
      → AreThose (IsMiss look start (k + 1)) ps
  misses-same k ps other a = record {
    apart = a.apart;
    all = λ p h. elim (cases_eq h.place k) [
      | inl same ↦ absurd (other (ap (λ z. (look z).mark) (sym same) ∙ h.is))
      | inr apart ↦ a.all p (earlier look start k p h apart)
    ];
    only = λ p h. later look start k p (a.only p h);
  }

module _ (level start n : ℕ) (look : ℕ → Spot) (arena : IsArena level start n look) where
  -- a place whose set misses
  pub misses-more : (k : ℕ) (ps : List (List ℕ)) (p : List ℕ) → start ≤ k → led_from look 0 p ≡ Some k → (look k).mark ≡ Some mark.Misses
      → AreThose (IsMiss look start k) ps → AreThose (IsMiss look start (k + 1)) (ps ++ p ∷ [])
  misses-more k ps p low led is a = record {
    apart = apart-append ps (p ∷ []) a.apart (tt, tt) (λ q h i.
        let m = a.only q h in
        elim (cases_in p [] q i) [
          | inr none ↦ none-in q none
          | inl same ↦
              let one : Some m.place ≡ Some k = sym m.led ∙ ap (led_from look 0) (sym same) ∙ led in
              let place : m.place ≡ k = cc in omega (arith, m.before, place)
        ]);
    all = λ q h. elim (cases_eq h.place k) [
      | inl same ↦
          let way : led_from look 0 q ≡ Some k = h.led ∙ ap (λ (z : ℕ). Some z) same in
          Contains-append_right ps (p ∷ []) q (subst (λ z. Contains (p ∷ []) z)
          (led-one level start n look arena (suc k) k p q (omega arith) led way) (Contains-first p []))
      | inr apart ↦ Contains-append_left ps (p ∷ []) q (a.all q (earlier look start k q h apart))
    ];
    only = λ q h. elim (Contains-append_cases ps (p ∷ []) q h) [
      | inl i ↦ later look start k q (a.only q i)
      | inr i ↦ elim (cases_in p [] q i) [
        | inr none ↦ absurd (none-in q none)
        | inl same ↦ record { place = k; low = low; before = omega arith; led = ap (led_from look 0) (sym same) ∙ led; is = is }
      ]
    ];
  }

  pub misses-pushed : (k : ℕ) (paths new : List (Vec ℕ Global)) (v : Vec ℕ Global) → new ≡ paths ++ v ∷ [] → start ≤ k
      → led_from look 0 v.items ≡ Some k → (look k).mark ≡ Some mark.Misses → AreThose (IsMiss look start k) (map (λ u. u.items) paths)
      → AreThose (IsMiss look start (k + 1)) (map (λ u. u.items) new)
  misses-pushed k paths new v more low led is a =
      subst (AreThose (IsMiss look start (k + 1)))
      (sym (ap (map (λ (u : Vec ℕ Global). u.items)) more ∙ map_push (λ (u : Vec ℕ Global). u.items) paths v))
      (misses-more k (map (λ u. u.items) paths) v.items low led is a)

  deep_at : (p : List ℕ) (y : ℕ) → led_from look 0 p ≡ Some y → (look y).depth ≡ length p
  deep_at p y led = omega (arith, led-depth level start n look arena 0 p y led, arena.root)

  -- a set of the level that misses stands at a place of the level
  missed : (p : List ℕ) (m : Mark) → m ≡ mark.Misses → length p ≡ level → Stands look start 0 p m → IsMiss look start n p
  missed p m e deep (placed y led is) = elim (cases_lt y start) [
    | inl high ↦ let never : ⊥ = omega (arith, arena.over y high, deep_at p y led, deep) in absurd never
    | inr low ↦ record { place = y; low = low; before = led-within level start n look arena 0 p y arena.some led; led = led; is = is ∙ ap (λ z. Some z) e }
  ]
  missed p m e deep (opened front i y whole led far more high is) = let no : mark.Open ≡ mark.Misses = sym is ∙ e in absurd cc
  missed p m e deep (waits front i y whole led far more low is) = let no : mark.Waiting ≡ mark.Misses = sym is ∙ e in absurd cc

  -- at the end they are the sets of the level that miss
  pub misses-all : (k : ℕ) (ps : List (List ℕ)) → n ≡ k → AreThose (IsMiss look start k) ps
      → AreThose (λ p. (marked_from look start 0 p ≡ Some mark.Misses) × (length p ≡ level)) ps
  misses-all k ps last a = record {
    apart = a.apart;
    all = λ p h. a.all p (subst (λ z. IsMiss look start z p) last (missed p mark.Misses refl h.1 (stands look start 0 p mark.Misses h.0)));
    only = λ p h.
        let m = a.only p h in (
          marked-led look start 0 p m.place m.led ∙ m.is,
          omega (arith, deep_at p m.place m.led, arena.on m.place m.low (omega (arith, m.before, last))),
        );
  }
