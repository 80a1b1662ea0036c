-- Whether a reach is closed and whether a fault is required is decided, and sharp reaches and lists of required edges are there.
use Rattle.std.proofs.Common.{◌≡◌, ℕ, zero, suc, ◌+◌, ◌<◌, ◌≤◌, true, false, List, [], ◌∷◌, ◌++◌, length, get_or, refl, sym, inl, inr, arith, subst}
use Rattle.std.specs.Prelude.{◌⊎◌, ◌↔◌, slice_index}
use Rattle.std.specs.Option.{is_some}
use Rattle.std.specs.List.{Contains}
use Rattle.std.proofs.lemmas.Bool.{cases_lt, cases_eq}
use Rattle.std.proofs.lemmas.List.Elements.{Contains-append_left, Contains-append_right}
use Rattle.std.proofs.Math.ListN.{get_or-eq_default}
use Rattle.lf_list.proofs.Laws.{none-in, Contains-first, Contains-more, cases_in}
use Rattle.lf_list.proofs.Laws.{Decided, decide_both, decide_not, decide_iff, decide_is, decide_le, decide_apart, decide_each_below, decide_some_below}
use Rattle.lf_faults.specs.declared.fault.Parts.{Parts}
use Rattle.lf_faults.specs.declared.fault.Parts.TheVariants.{Omit, Crash, Pause}
use Rattle.lf_faults.specs.Faults.{IsAscending, inserted, set_omits}
use Rattle.lf_faults.specs.declared.spec.Bounds.{Bounds}
use Rattle.lf_faults.specs.Allowed.{IsAdmitted}
use Rattle.lf_faults.proofs.Laws.{in_or_not, allowed_or_not, in_allowed-admitted, in-inserted, still-in, cases_inserted, inserted-ascending}
use Rattle.lf_sim.specs.Runs.{World, each_below, is_up, sent}
use Rattle.lf_sim.proofs.Laws.{IsRunning-up}
use Rattle.lf_outcome.specs.declared.point.Point.{Point}
use Rattle.lf_outcome.specs.Reaches.{IsReachOf}
use Rattle.lf_cone.specs.Cones.{CanHear, IsHeard, IsClosed, IsSharp, IsLive, Supports, IsRequired, AreRequired}
use Rattle.lf_cone.specs.Sweeps.{AreInside, KeepsTo}
use Rattle.lf_cone.proofs.Covering.{start-form}
use Rattle.lf_cone.proofs.HearingLemmas.{hearer, speaker, closed-keeps, sharp-least}
use Rattle.lf_cone.proofs.Growing.{Lacks, least_exists, covering_exists}

-- the form of a reach
pub form_or_not : (nodes horizon : ℕ) (reach : List ℕ) → Decided (IsReachOf nodes horizon reach)
form_or_not nodes horizon reach =
    decide_iff _ (IsReachOf nodes horizon reach)
    (λ h. record {
      count = h.0;
      within = λ n. elim (cases_lt n (length reach)) [
        | inl there ↦ h.1 n there
        | inr past ↦ let none : get_or reach n 0 ≡ 0 = get_or-eq_default reach 0 {n = n} past in omega (arith, none)
      ];
    })
    (λ form. (form.count, λ n _. form.within n))
    (decide_both (length reach ≡ nodes) ((n : ℕ) → n < length reach → slice_index reach n ≤ horizon) (cases_eq (length reach) nodes)
    (decide_each_below (λ n. slice_index reach n ≤ horizon) (λ n. decide_le (slice_index reach n) horizon) (length reach)))

module _ {State Note Fact : Type 0} (w : World State Note Fact) (faults : List Parts) where
  -- what is heard
  can_or_not : (n t m u : ℕ) → Decided (CanHear w faults n t m u)
  can_or_not n t m u =
      decide_iff _ (CanHear w faults n t m u)
      (λ h. record { apart = h.0; sends = h.1.0; arrives = h.1.1.0; kept = h.1.1.1.0; hears = h.1.1.1.1 })
      (λ can. (can.apart, (can.sends, (can.arrives, (can.kept, can.hears)))))
      (decide_both (n ≡ m → ⊥) _ (decide_apart n m) (decide_both (is_up w faults n t ≡ true) _ (decide_is (is_up w faults n t) true)
      (decide_both (w.arrival n m t ≡ u) _ (cases_eq (w.arrival n m t) u) (decide_both (set_omits faults n m t ≡ false) (is_up w faults m u ≡ true)
      (decide_is (set_omits faults n m t) false) (decide_is (is_up w faults m u) true)))))

  heard_or_not : (reach : List ℕ) (n t m : ℕ) → Decided (IsHeard w faults reach n t m)
  heard_or_not reach n t m =
      decide_iff _ (IsHeard w faults reach n t m)
      (λ h. (w.arrival n m t, h.0, h.1))
      (λ heard. (subst (λ u. u ≤ slice_index reach m) (sym heard.2.arrives) heard.1, subst (CanHear w faults n t m) (sym heard.2.arrives) heard.2))
      (decide_both (w.arrival n m t ≤ slice_index reach m) (CanHear w faults n t m (w.arrival n m t))
      (decide_le (w.arrival n m t) (slice_index reach m)) (can_or_not n t m (w.arrival n m t)))

  abbrev IsMissed : List ℕ → ℕ → ℕ → ℕ → Type 0
  IsMissed reach n t m = (suc (slice_index reach n) ≤ t) × IsHeard w faults reach n t m

  missed_or_not : (reach : List ℕ) (n t m : ℕ) → Decided (IsMissed reach n t m)
  missed_or_not reach n t m = decide_both _ _ (decide_le (suc (slice_index reach n)) t) (heard_or_not reach n t m)

  abbrev SomeMissed : List ℕ → Type 0
  SomeMissed reach = (n : ℕ) × (n < w.rules.nodes) × ((t : ℕ) × (t < suc w.horizon) × ((m : ℕ) × (m < w.rules.nodes) × IsMissed reach n t m))

  some_missed : (reach : List ℕ) → Decided (SomeMissed reach)
  some_missed reach =
      decide_some_below _ (λ n. decide_some_below _ (λ t. decide_some_below _ (missed_or_not reach n t) w.rules.nodes) (suc w.horizon)) w.rules.nodes

  search : (reach : List ℕ) → IsReachOf w.rules.nodes w.horizon reach
      → KeepsTo (CanHear w faults) reach ⊎ Lacks (CanHear w faults) w.rules.nodes w.horizon reach
  search reach form = elim (some_missed reach) [
    | inl found ↦
        let heard = found.2.2.2.1 in
        inr (record {
          n = found.0;
          t = found.2.0;
          m = found.2.2.0;
          v = heard.0;
          node = found.1;
          last = omega (arith, found.2.1);
          past = found.2.2.2.0;
          near = heard.1;
          rests = heard.2;
        })
    | inr none ↦ inl (λ n t m v can near. elim (cases_lt (slice_index reach n) t) [
      | inr enough ↦ enough
      | inl past ↦ absurd (none (
        n,
        speaker w faults n t m v can,
        (
          t,
          omega (arith, (IsRunning-up w faults n t can.sends).last),
          (m, hearer w faults n t m v can, (past, (v, near, can))),
        ),
      ))
    ])
  ]

  -- a reach of the world is closed, or what is heard within it was done past it
  pub closed_or_past : (reach : List ℕ) → IsReachOf w.rules.nodes w.horizon reach
      → IsClosed w faults reach ⊎ ((n : ℕ) × (t : ℕ) × (m : ℕ) × (slice_index reach n < t) × IsHeard w faults reach n t m)
  closed_or_past reach form = elim (search reach form) [
    | inl keeps ↦ inl (closed-keeps w faults reach form keeps)
    | inr lacks ↦ inr (lacks.n, lacks.t, lacks.m, lacks.past, (lacks.v, lacks.near, lacks.rests))
  ]

  pub closed_or_not : (reach : List ℕ) → IsClosed w faults reach ⊎ (IsClosed w faults reach → ⊥)
  closed_or_not reach = elim (form_or_not w.rules.nodes w.horizon reach) [
    | inr never ↦ inr (λ closed. never closed.form)
    | inl form ↦ elim (closed_or_past reach form) [
      | inl closed ↦ inl closed
      | inr found ↦ inr (λ closed. omega (arith, closed.each found.0 found.1 found.2 found.4, found.3))
    ]
  ]

  -- points of the world have a sharp reach
  pub sharp_exists : (points : List Point) → AreInside w.rules.nodes w.horizon points → (reach : List ℕ) × IsSharp w faults points reach
  sharp_exists points inside =
      let start = covering_exists w.rules.nodes w.horizon points inside in
      let form = start-form w.rules.nodes w.horizon points start.0 start.1 inside in
      let found = least_exists (CanHear w faults) w.rules.nodes w.horizon search start.0 form in
      (found.0, sharp-least w faults w.rules.nodes points start.0 found.0 refl start.1 found.1)

  -- whether a fault could change what is within a reach
  live_or_not : (reach : List ℕ) (n t : ℕ) → Decided (IsLive w faults reach n t)
  live_or_not reach n t = decide_both _ _ (decide_is (is_up w faults n t) true) (decide_le t (slice_index reach n))

  supports_or_not : (reach : List ℕ) (f : Parts) → Decided (Supports w faults reach f)
  supports_or_not reach (Omit n m t) = decide_both _ _ (decide_is (is_some (sent w faults n m t)) true) (heard_or_not reach n t m)
  supports_or_not reach (Crash n c) =
      decide_iff _ (Supports w faults reach (Crash n c))
      (λ h. (h.0, h.2.0, h.2.1))
      (λ h. (h.0, omega (arith, (IsRunning-up w faults n h.0 h.2.0).last), (h.1, h.2)))
      (decide_some_below (λ t. (c ≤ t) × IsLive w faults reach n t) (λ t. decide_both _ _ (decide_le c t) (live_or_not reach n t)) (suc w.horizon))
  supports_or_not reach (Pause n s) =
      decide_iff _ (Supports w faults reach (Pause n s))
      (λ h. (h.0, h.2.0, h.2.1.0, h.2.1.1))
      (λ h. (h.0, omega (arith, (IsRunning-up w faults n h.0 h.3.0).last), (h.1, (h.2, h.3))))
      (decide_some_below (λ t. (s ≤ t) × ((suc t ≤ s + w.pause_length) × IsLive w faults reach n t))
      (λ t. decide_both _ _ (decide_le s t) (decide_both _ _ (decide_le (suc t) (s + w.pause_length)) (live_or_not reach n t))) (suc w.horizon))

  -- whether it is to be tried
  pub required_or_not : (b : Bounds) (reach : List ℕ) (excluded : List Parts) (f : Parts)
      → IsRequired w faults b reach excluded f ⊎ (IsRequired w faults b reach excluded f → ⊥)
  required_or_not b reach excluded f =
      decide_iff _ (IsRequired w faults b reach excluded f)
      (λ h. record { supports = h.0; allowed = (h.1.0.0, h.1.0.1); included = h.1.1 })
      (λ h. (h.supports, ((h.allowed.0, h.allowed.1), h.included)))
      (decide_both _ _ (supports_or_not reach f) (decide_both _ _
      (decide_both _ _ (decide_not _ (in_or_not faults f)) (allowed_or_not b (inserted f faults))) (decide_not _ (in_or_not excluded f))))

-- those of a list that have a property, in order
abbrev AreKept : (Parts → Type 0) → List Parts → List Parts → Type 0
AreKept P fs xs = IsAscending xs × ((f : Parts) → Contains xs f ↔ (Contains fs f × P f))

module _ (P : Parts → Type 0) (decide : (f : Parts) → Decided (P f)) where
  kept-not : (g : Parts) (fs xs : List Parts) → (P g → ⊥) → AreKept P fs xs → AreKept P (g ∷ fs) xs
  kept-not g fs xs never h = (
    h.0,
    λ f. (
      λ c. let was = (h.1 f).0 c in (Contains-more g fs f was.0, was.1),
      λ c. elim (cases_in g fs f c.0) [ inl same ↦ absurd (never (subst P (sym same) c.1)) | inr later ↦ (h.1 f).1 (later, c.1) ],
    ),
  )

  kept-already : (g : Parts) (fs xs : List Parts) → Contains xs g → AreKept P fs xs → AreKept P (g ∷ fs) xs
  kept-already g fs xs there h = (
    h.0,
    λ f. (
      λ c. let was = (h.1 f).0 c in (Contains-more g fs f was.0, was.1),
      λ c. elim (cases_in g fs f c.0) [ inl same ↦ subst (Contains xs) same there | inr later ↦ (h.1 f).1 (later, c.1) ],
    ),
  )

  kept-new : (g : Parts) (fs xs : List Parts) → P g → (Contains xs g → ⊥) → AreKept P fs xs → AreKept P (g ∷ fs) (inserted g xs)
  kept-new g fs xs is none h = (
    inserted-ascending g xs none h.0,
    λ f. (
      λ c. elim (cases_inserted g xs f c) [
        | inl same ↦ (subst (Contains (g ∷ fs)) same (Contains-first g fs), subst P same is)
        | inr old ↦ let was = (h.1 f).0 old in (Contains-more g fs f was.0, was.1)
      ],
      λ c. elim (cases_in g fs f c.0) [
        | inl same ↦ subst (Contains (inserted g xs)) same (in-inserted g xs)
        | inr later ↦ still-in g xs f ((h.1 f).1 (later, c.1))
      ],
    ),
  )

  kept : (fs : List Parts) → (xs : List Parts) × AreKept P fs xs
  kept [] = ([], (tt, λ f. (λ c. absurd (none-in f c), λ c. c.0)))
  kept (g ∷ fs) =
      let rest = kept fs in
      elim (decide g) [
        | inr never ↦ (rest.0, kept-not g fs rest.0 never rest.1)
        | inl is ↦ elim (in_or_not rest.0 g) [
          | inl there ↦ (rest.0, kept-already g fs rest.0 there rest.1)
          | inr none ↦ (inserted g rest.0, kept-new g fs rest.0 is none rest.1)
        ]
      ]

-- all faults of the bounds
in-each_below : (list : ℕ → List Parts) (k n : ℕ) (f : Parts) → k < n → Contains (list k) f → Contains (each_below list n) f
in-each_below list k zero f few c = absurd (omega (arith, few))
in-each_below list k (suc n) f few c = elim (cases_eq k n) [
  | inl same ↦ Contains-append_right (each_below list n) (list n) f (subst (λ i. Contains (list i) f) same c)
  | inr other ↦ Contains-append_left (each_below list n) (list n) f (in-each_below list k n f (omega (arith, few, other)) c)
]

abbrev each_step : (ℕ → Parts) → ℕ → List Parts
each_step make last = each_below (λ t. make t ∷ []) (suc last)

in-each_step : (make : ℕ → Parts) (last t : ℕ) → t ≤ last → Contains (each_step make last) (make t)
in-each_step make last t few = in-each_below (λ s. make s ∷ []) t (suc last) (make t) (omega (arith, few)) (Contains-first (make t) [])

module _ (b : Bounds) where
  abbrev omissions_to : ℕ → ℕ → List Parts
  omissions_to n m = each_step (Omit n m) b.last_omission

  abbrev omissions_of : ℕ → List Parts
  omissions_of n = each_below (omissions_to n) b.nodes

  abbrev crashes_of : ℕ → List Parts
  crashes_of n = each_step (Crash n) b.horizon

  abbrev pauses_of : ℕ → List Parts
  pauses_of n = each_step (Pause n) b.horizon

  abbrev omissions : List Parts
  omissions = each_below omissions_of b.nodes

  abbrev crashes : List Parts
  crashes = each_below crashes_of b.nodes

  abbrev pauses : List Parts
  pauses = each_below pauses_of b.nodes

  in-faults : (f : Parts) → IsAdmitted b f → Contains (omissions ++ (crashes ++ pauses)) f
  in-faults (Omit n m t) h =
      Contains-append_left omissions (crashes ++ pauses) (Omit n m t)
      (in-each_below omissions_of n b.nodes (Omit n m t) h.0
      (in-each_below (omissions_to n) m b.nodes (Omit n m t) h.1 (in-each_step (Omit n m) b.last_omission t h.4)))
  in-faults (Crash n t) h =
      Contains-append_right omissions (crashes ++ pauses) (Crash n t)
      (Contains-append_left crashes pauses (Crash n t)
      (in-each_below crashes_of n b.nodes (Crash n t) h.0 (in-each_step (Crash n) b.horizon t h.2)))
  in-faults (Pause n t) h =
      Contains-append_right omissions (crashes ++ pauses) (Pause n t)
      (Contains-append_right crashes pauses (Pause n t)
      (in-each_below pauses_of n b.nodes (Pause n t) h.0 (in-each_step (Pause n) b.horizon t h.2)))

-- the faults to be tried are a list, in order
pub required_exist : {State Note Fact : Type 0} (w : World State Note Fact) (faults : List Parts) (b : Bounds) (reach : List ℕ) (excluded : List Parts)
    → (edges : List Parts) × AreRequired w faults b reach excluded edges
required_exist w faults b reach excluded =
    let found = kept (IsRequired w faults b reach excluded) (required_or_not w faults b reach excluded) (omissions b ++ (crashes b ++ pauses b)) in (
      found.0,
      record {
        ascending = found.1.0;
        each = λ f. (
          λ c. ((found.1.1 f).0 c).1,
          λ is. (found.1.1 f).1 (in-faults b f (in_allowed-admitted b (inserted f faults) f is.allowed.1 (in-inserted f faults)), is),
        );
      },
    )
