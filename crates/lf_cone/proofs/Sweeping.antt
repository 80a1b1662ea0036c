-- How a reach grows to the least one that keeps to itself.
use Rattle.std.proofs.Common.{◌≡◌, ◌≢◌, ℕ, suc, ◌+◌, ◌<◌, ◌≤◌, List, length, get_or, refl, sym, ◌∙◌, inl, inr, arith, subst, max}
use Rattle.std.specs.Prelude.{◌⊎◌, slice_set}
use Rattle.std.proofs.lemmas.Bool.{cases_lt, cases_eq}
use Rattle.std.proofs.lemmas.List.{get_or-set_other, get_or-set_same}
use Rattle.std.proofs.Math.ListN.{length-set}
use Rattle.lf_outcome.specs.Reaches.{IsReachOf}
use Rattle.lf_cone.specs.Sweeps.{IsRaised, SomeBelow, RestsAt, IsLeastFrom, IsSweptTo, IsDone, IsSweptFrom}

-- nothing is raised
pub raised-not : (P : ℕ → ℕ → Type 0) (r : List ℕ) → ((n t : ℕ) → P n t → t ≤ get_or r n 0) → IsRaised P r r
raised-not P r h = record { count = refl; keeps = λ n. omega arith; takes = h; only = λ n. inl refl }

-- one node is raised
pub raised-one : (r : List ℕ) (k s : ℕ) → k < length r → IsRaised (λ n t. (n ≡ k) × (t ≡ s)) r (slice_set r k (max (get_or r k 0) s))
raised-one r k s inside =
    let after : List ℕ = slice_set r k (max (get_or r k 0) s) in
    let here : get_or after k 0 ≡ max (get_or r k 0) s = get_or-set_same r k (max (get_or r k 0) s) 0 inside in
    let there : (n : ℕ) → n ≢ k → get_or after n 0 ≡ get_or r n 0 = λ n e. get_or-set_other r k n (max (get_or r k 0) s) 0 e in
    record {
      count = length-set r k (max (get_or r k 0) s);
      keeps = λ n. elim (cases_eq n k) [ inl same ↦ rw same (omega (arith, here)) | inr other ↦ omega (arith, there n other) ];
      takes = λ n t h. rw h.0 (omega (arith, here, h.1));
      only = λ n. elim (cases_eq n k) [
        | inl same ↦ elim (cases_lt (get_or r k 0) s) [
          | inl less ↦ inr (same, rw same (omega (arith, here, less)))
          | inr enough ↦ inl (rw same (omega (arith, here, enough)))
        ]
        | inr other ↦ inl (there n other)
      ];
    }

-- one after another
pub raised-then : (P Q W : ℕ → ℕ → Type 0) (a b c : List ℕ) → IsRaised P a b → IsRaised Q b c
    → ((n t : ℕ) → W n t → P n t ⊎ Q n t) → ((n t : ℕ) → P n t → W n t) → ((n t : ℕ) → Q n t → W n t) → IsRaised W a c
raised-then P Q W a b c first second from left right = record {
  count = second.count ∙ first.count;
  keeps = λ n. omega (arith, first.keeps n, second.keeps n);
  takes = λ n t h. elim (from n t h) [ inl p ↦ omega (arith, first.takes n t p, second.keeps n) | inr q ↦ second.takes n t q ];
  only = λ n. elim (second.only n) [
    | inl same ↦ elim (first.only n) [
      | inl old ↦ inl (same ∙ old)
      | inr p ↦ inr (subst (W n) (sym same) (left n (get_or b n 0) p))
    ]
    | inr q ↦ inr (right n (get_or c n 0) q)
  ];
}

pub raised-same : (P Q : ℕ → ℕ → Type 0) (a b : List ℕ) → ((n t : ℕ) → Q n t → P n t) → ((n t : ℕ) → P n t → Q n t) → IsRaised P a b → IsRaised Q a b
raised-same P Q a b from to h = record {
  count = h.count;
  keeps = h.keeps;
  takes = λ n t q. h.takes n t (from n t q);
  only = λ n. elim (h.only n) [ inl same ↦ inl same | inr p ↦ inr (to n (get_or b n 0) p) ];
}

-- by the first of many
pub raised-none : (Q : ℕ → ℕ → ℕ → Type 0) (r : List ℕ) → IsRaised (SomeBelow Q 0) r r
raised-none Q r = raised-not (SomeBelow Q 0) r (λ n t h. absurd (omega (arith, h.1)))

pub raised-more : (Q : ℕ → ℕ → ℕ → Type 0) (i : ℕ) (a b c : List ℕ) → IsRaised (SomeBelow Q i) a b → IsRaised (Q i) b c → IsRaised (SomeBelow Q (i + 1)) a c
raised-more Q i a b c first second =
    raised-then (SomeBelow Q i) (Q i) (SomeBelow Q (i + 1)) a b c first second
    (λ n t h. elim (cases_lt h.0 i) [
      | inl early ↦ inl (h.0, early, h.2)
      | inr late ↦ let last : h.0 ≡ i = omega (arith, late, h.1) in inr (subst (λ k. Q k n t) last h.2)
    ])
    (λ n t h. (h.0, omega (arith, h.1), h.2))
    (λ n t h. (i, omega arith, h))

pub raised-pass : (Q : ℕ → ℕ → ℕ → Type 0) (i : ℕ) (a b : List ℕ) → IsRaised (SomeBelow Q i) a b → ((n t : ℕ) → Q i n t → ⊥)
    → IsRaised (SomeBelow Q (i + 1)) a b
raised-pass Q i a b first none = raised-more Q i a b b first (raised-not (Q i) b (λ n t q. absurd (none n t q)))

pub raised-enough : (Q : ℕ → ℕ → ℕ → Type 0) (i : ℕ) (a b : List ℕ) → IsRaised (SomeBelow Q i) a b → ((n t : ℕ) → Q i n t → t ≤ get_or b n 0)
    → IsRaised (SomeBelow Q (i + 1)) a b
raised-enough Q i a b first enough = raised-more Q i a b b first (raised-not (Q i) b enough)

module _ (RestsOn : ℕ → ℕ → ℕ → ℕ → Type 0) (nodes horizon : ℕ)
    (node : (n t m v : ℕ) → RestsOn n t m v → m < nodes) (later : (n t m v : ℕ) → RestsOn n t m v → t < v) where
  -- a step's own receivers aren't raised to it
  pub still_at : (v i : ℕ) (a b : List ℕ) → IsRaised (SomeBelow (RestsAt RestsOn a v) i) a b → (m : ℕ) → v ≤ get_or b m 0 → v ≤ get_or a m 0
  still_at v i a b h m near =
      elim (h.only m) [
        | inl same ↦ omega (arith, same, near)
        | inr q ↦ absurd (omega (arith, later m (get_or b m 0) q.0 v q.2.1, near))
      ]

  -- a step of the sweep
  pub swept_more : (start : List ℕ) (u : ℕ) (a b : List ℕ) → suc u ≤ horizon → IsSweptTo RestsOn nodes horizon start (suc u) a
      → IsRaised (SomeBelow (RestsAt RestsOn a (suc u)) nodes) a b → IsSweptTo RestsOn nodes horizon start u b
  swept_more start u a b inside swept raised = record {
    form = record {
      count = raised.count ∙ swept.form.count;
      within = λ n. elim (raised.only n) [
        | inl same ↦ omega (arith, same, swept.form.within n)
        | inr q ↦ omega (arith, later n (get_or b n 0) q.0 (suc u) q.2.1, inside)
      ];
    };
    keeps = λ n t m v late on near.
        let was : v ≤ get_or a m 0 = was_at v m late near in
        elim (cases_lt (suc u) v) [
          | inl after ↦ omega (arith, swept.keeps n t m v after on was, raised.keeps n)
          | inr now ↦
              let is : v ≡ suc u = omega (arith, now, late) in
              raised.takes n t (m, node n t m v on, (subst (λ x. x ≤ get_or a m 0) is was, subst (RestsOn n t m) is on))
        ];
    covers = λ n. omega (arith, swept.covers n, raised.keeps n);
    smallest = λ other form keeps covers n. elim (raised.only n) [
      | inl same ↦ omega (arith, same, swept.smallest other form keeps covers n)
      | inr q ↦ keeps n (get_or b n 0) q.0 (suc u) q.2.1 (omega (arith, q.2.0, swept.smallest other form keeps covers q.0))
    ];
  }
    where
      was_at : (v m : ℕ) → u < v → v ≤ get_or b m 0 → v ≤ get_or a m 0
      was_at v m late near =
          elim (raised.only m) [
            | inl same ↦ omega (arith, same, near)
            | inr q ↦ absurd (omega (arith, later m (get_or b m 0) q.0 (suc u) q.2.1, near, late))
          ]

  pub swept_none : (start : List ℕ) → IsReachOf nodes horizon start → IsSweptTo RestsOn nodes horizon start horizon start
  swept_none start form = record {
    form = form;
    keeps = λ n t m v late on near. absurd (omega (arith, late, near, form.within m));
    covers = λ n. omega arith;
    smallest = λ other is keeps covers. covers;
  }

  pub swept_all : (start reach : List ℕ) → IsSweptTo RestsOn nodes horizon start 0 reach → IsLeastFrom RestsOn nodes horizon start reach
  swept_all start reach swept = record {
    form = swept.form;
    keeps = λ n t m v on near. swept.keeps n t m v (omega (arith, later n t m v on)) on near;
    covers = swept.covers;
    smallest = swept.smallest;
  }

  -- a step of the sweep by what is done at a step
  pub done_more : (sender : (n t m v : ℕ) → RestsOn n t m v → n < nodes) (start : List ℕ) (u : ℕ) (a b : List ℕ) → suc u ≤ horizon
      → IsSweptFrom RestsOn nodes horizon start (suc u) a
      → IsRaised (SomeBelow (IsDone RestsOn a (suc u)) nodes) a b → IsSweptFrom RestsOn nodes horizon start u b
  done_more sender start u a b inside swept raised = record {
    form = record {
      count = raised.count ∙ swept.form.count;
      within = λ n. elim (raised.only n) [
        | inl same ↦ omega (arith, same, swept.form.within n)
        | inr q ↦ omega (arith, q.2.1, inside)
      ];
    };
    keeps = λ n t m v late on near.
        let was : v ≤ get_or a m 0 = was_at v m (omega (arith, late, later n t m v on)) near in
        elim (cases_lt (suc u) t) [
          | inl after ↦ omega (arith, swept.keeps n t m v after on was, raised.keeps n)
          | inr now ↦
              let is : t ≡ suc u = omega (arith, now, late) in
              raised.takes n t (n, sender n t m v on, (refl, is, m, v, was, subst (λ x. RestsOn n x m v) is on))
        ];
    covers = λ n. omega (arith, swept.covers n, raised.keeps n);
    smallest = λ other form keeps covers n. elim (raised.only n) [
      | inl same ↦ omega (arith, same, swept.smallest other form keeps covers n)
      | inr q ↦
          let at : suc u ≤ get_or other q.0 0 = keeps q.0 (suc u) q.2.2 q.2.3 q.2.5
          (omega (arith, q.2.4, swept.smallest other form keeps covers q.2.2)) in
          subst (λ k. get_or b n 0 ≤ get_or other k 0) (sym q.2.0) (omega (arith, at, q.2.1))
    ];
  }
    where
      was_at : (v m : ℕ) → suc u < v → v ≤ get_or b m 0 → v ≤ get_or a m 0
      was_at v m late near =
          elim (raised.only m) [
            | inl same ↦ omega (arith, same, near)
            | inr q ↦ absurd (omega (arith, q.2.1, near, late))
          ]

  pub done_none : (start : List ℕ) → IsReachOf nodes horizon start → IsSweptFrom RestsOn nodes horizon start horizon start
  done_none start form = record {
    form = form;
    keeps = λ n t m v late on near. absurd (omega (arith, late, near, form.within m, later n t m v on));
    covers = λ n. omega arith;
    smallest = λ other is keeps covers. covers;
  }

  pub done_all : (start reach : List ℕ) → ((n t m v : ℕ) → RestsOn n t m v → 1 ≤ t) → IsSweptFrom RestsOn nodes horizon start 0 reach
      → IsLeastFrom RestsOn nodes horizon start reach
  done_all start reach first swept = record {
    form = swept.form;
    keeps = λ n t m v on near. swept.keeps n t m v (first n t m v on) on near;
    covers = swept.covers;
    smallest = swept.smallest;
  }

-- before the sweep nothing is done after the last step
pub swept_start : (rests : ℕ → ℕ → ℕ → ℕ → Type 0) (nodes horizon u : ℕ) (start : List ℕ)
    → ((n t m v : ℕ) → rests n t m v → t ≤ horizon) → horizon ≤ u → IsReachOf nodes horizon start → IsSweptFrom rests nodes horizon start u start
swept_start rests nodes horizon u start last all form = record {
  form = form;
  keeps = λ n t m v past on within. absurd (omega (arith, last n t m v on, past, all));
  covers = λ n. omega arith;
  smallest = λ other form keeps covers. covers;
}
