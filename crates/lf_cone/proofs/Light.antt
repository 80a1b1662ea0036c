-- Within a closed reach the run of a wider set is the run.
use Rattle.std.proofs.Common.{◌≡◌, ◌≢◌, ℕ, zero, suc, ◌+◌, ◌<◌, ◌≤◌, Bool, true, false, List, get_or, Option, None, Some, refl, sym, ap, ◌∙◌, inl, inr}
use Rattle.std.proofs.Common.{arith, add-one}
use Rattle.std.specs.Prelude.{IsSome}
use Rattle.std.specs.List.{Contains}
use Rattle.std.specs.Option.{option_map}
use Rattle.std.proofs.lemmas.Bool.{cases_Bool, cases_eq, both_ways, false_from_ne_true, true_from_ne_false}
use Rattle.lf_faults.specs.declared.fault.Parts.{Parts}
use Rattle.lf_faults.specs.declared.fault.Parts.TheVariants.{Omit, Crash, Pause}
use Rattle.lf_faults.specs.Faults.{set_omits, set_wakes, step_of}
use Rattle.lf_sim.specs.declared.out.Stepped.{Stepped}
use Rattle.lf_sim.specs.Outs.{note_to, nothing}
use Rattle.lf_sim.specs.Runs.{World, is_up, before_step, did, view, sent, inbox, letter}
use Rattle.lf_sim.proofs.Laws.{omitted-contains, contains-omitted, woken-contains, contains-woken, IsRunning-up, up-IsRunning, did-up, did-down}
use Rattle.lf_sim.proofs.Laws.{did-zero, sent-down, letters-each, letter-self, letter-elsewhere, letter-omitted, letter-comes, letter-silent}
use Rattle.lf_cone.specs.Cones.{IsHeard, IsClosed, IsLive, IsOutside, AgreesWithin}

both_ways' : (a b : Bool) → (a ≡ true → b ≡ true) → (b ≡ true → a ≡ true) → a ≡ b
both_ways' true b h k = sym (h refl)
both_ways' false true h k = k refl
both_ways' false false h k = refl

none_from_not_some : {A : Type 0} (o : Option A) → (IsSome o → ⊥) → o ≡ None
none_from_not_some None h = refl
none_from_not_some (Some x) h = absurd (h refl)

-- the faults of the wider set come at step 1 or later
abbrev pub StartsLate : List Parts → Type 0
StartsLate wider = (f : Parts) → Contains wider f → 1 ≤ step_of f

module _ {State Note Fact : Type 0} (w : World State Note Fact) (faults : List Parts) (reach : List ℕ) (wider : List Parts)
    (lasts : 1 ≤ w.pause_length) (closed : IsClosed w faults reach) (outside : IsOutside w faults reach wider) (starts : StartsLate wider) where
  -- what is up within the reach stays up
  pub stays_up : (n t : ℕ) → IsLive w faults reach n t → is_up w wider n t ≡ true
  stays_up n t live =
      let r = IsRunning-up w faults n t live.0 in
      up-IsRunning w wider n t (record {
        node = r.node;
        first = r.first;
        last = r.last;
        crashes = λ s l c. r.crashes s l (outside.adds (Crash n s) c (t, l, live));
        pauses = λ s l m c. r.pauses s l m (outside.adds (Pause n s) c (t, l, m, live));
      })

  -- what isn't up stays so
  pub stays_down : (n t : ℕ) → is_up w faults n t ≡ false → is_up w wider n t ≡ false
  stays_down n t down = false_from_ne_true (is_up w wider n t) (λ up.
      let r = IsRunning-up w wider n t up in
      both_ways (is_up w faults n t) down (up-IsRunning w faults n t (record {
        node = r.node;
        first = r.first;
        last = r.last;
        crashes = λ s l c. r.crashes s l (outside.keeps (Crash n s) c);
        pauses = λ s l m c. r.pauses s l m (outside.keeps (Pause n s) c);
      })))

  -- some later step of n is within the reach, and n is up there
  abbrev Lasts : ℕ → ℕ → Type 0
  Lasts n t = (s : ℕ) × (t ≤ s) × IsLive w faults reach n s

  Lasts-earlier : (n t : ℕ) → Lasts n (suc t) → Lasts n t
  Lasts-earlier n t h = (h.0, omega (arith, h.1), h.2)

  -- where it was down and is up again, a pause of it has ended
  paused-before : (n t : ℕ) → is_up w faults n (suc t) ≡ true → 1 ≤ t → is_up w faults n t ≡ false
      → ((s : ℕ) → Contains faults (Pause n s) → s + w.pause_length ≡ suc t → ⊥) → ⊥
  paused-before n t up first down none =
      let r = IsRunning-up w faults n (suc t) up in
      both_ways (is_up w faults n t) down (up-IsRunning w faults n t (record {
        node = r.node;
        first = first;
        last = omega (arith, r.last);
        crashes = λ s l c. r.crashes s (omega arith) c;
        pauses = λ s l m c. elim (cases_eq (s + w.pause_length) (suc t)) [
          | inl ends ↦ none s c ends
          | inr goes ↦ r.pauses s (omega arith) (omega arith) c
        ];
      }))

  -- the same pauses end there
  wakes_same : (n t : ℕ) → is_up w faults n (suc t) ≡ true → suc t ≤ get_or reach n 0
      → set_wakes w.pause_length wider n (suc t) ≡ set_wakes w.pause_length faults n (suc t)
  wakes_same n t up near =
      both_ways' (set_wakes w.pause_length wider n (suc t)) (set_wakes w.pause_length faults n (suc t))
      (λ h.
      let found = woken-contains wider w.pause_length n (suc t) h in
      let late : 1 ≤ found.0 = starts (Pause n found.0) found.2 in
      let first : 1 ≤ t = omega (arith, lasts, late, found.1) in
      elim (cases_Bool (is_up w faults n t)) [
        | inl was ↦ contains-woken faults w.pause_length n found.0 (suc t) (outside.adds (Pause n found.0) found.2 (
          t,
          omega (arith, lasts, found.1),
          omega
              (arith, found.1),
          (was, omega arith),
        )) found.1
        | inr down ↦ elim (cases_Bool (set_wakes w.pause_length faults n (suc t))) [
          | inl is ↦ is
          | inr isnt ↦ absurd (paused-before n t up first down (λ s c e. both_ways (set_wakes w.pause_length faults n (suc t)) isnt
              (contains-woken faults w.pause_length n s (suc t) c e)))
        ]
      ])
      (λ h.
      let found = woken-contains faults w.pause_length n (suc t) h in
      contains-woken wider w.pause_length n found.0 (suc t) (outside.keeps (Pause n found.0) found.2) found.1)

  from_same : (n t : ℕ) (last : State) → is_up w faults n (suc t) ≡ true → suc t ≤ get_or reach n 0
      → before_step w wider n (suc t) last ≡ before_step w faults n (suc t) last
  unfolding before_step
  from_same n t last up near = rw (wakes_same n t up near) refl

  -- what reaches a node from one slot is the same
  letter_same : (m u n t : ℕ) → IsLive w faults reach m u → (IsLive w faults reach n t → did w wider n t ≡ did w faults n t)
      → letter w wider (did w wider) m u n t ≡ letter w faults (did w faults) m u n t
  letter_same m u n t live before =
      elim (cases_eq n m) [
        | inl self ↦ letter-self w wider (did w wider) m u n t self ∙ sym (letter-self w faults (did w faults) m u n t self)
        | inr apart ↦ elim (cases_eq (w.arrival n m t) u) [
          | inr other ↦ letter-elsewhere w wider (did w wider) m u n t other ∙ sym (letter-elsewhere w faults (did w faults) m u n t other)
          | inl here ↦ elim (cases_Bool (set_omits faults n m t)) [
            | inl lost ↦
                let still : set_omits wider n m t ≡ true = contains-omitted wider n m t (outside.keeps (Omit n m t) (omitted-contains faults n m t lost)) in
                letter-omitted w wider (did w wider) m u n t still ∙ sym (letter-omitted w faults (did w faults) m u n t lost)
            | inr kept ↦ elim (cases_Bool (is_up w faults n t)) [
              | inr down ↦
                  letter-silent w wider (did w wider) m u n t (sent-down w wider n m t (stays_down n t down))
                  ∙ sym (letter-silent w faults (did w faults) m u n t (sent-down w faults n m t down))
              | inl up ↦ heard_same m u n t live before apart here kept up
            ]
          ]
        ]
      ]
    where
      heard_same : (m u n t : ℕ) → IsLive w faults reach m u → (IsLive w faults reach n t → did w wider n t ≡ did w faults n t)
          → n ≢ m → w.arrival n m t ≡ u → set_omits faults n m t ≡ false → is_up w faults n t ≡ true
          → letter w wider (did w wider) m u n t ≡ letter w faults (did w faults) m u n t
      heard_same m u n t live before apart here kept up =
          let heard : IsHeard w faults reach n t m = (u, live.1, record { apart = apart; sends = up; arrives = here; kept = kept; hears = live.0 }) in
          let same : did w wider n t ≡ did w faults n t = before (up, closed.each n t m heard) in
          elim (cases_Bool (set_omits wider n m t)) [
            | inr still ↦
                letter-comes w wider (did w wider) m u n t apart here still
                ∙ ap (λ (s : Stepped State Note). option_map (λ x. record { from = n; sent = t; note = x }) (note_to s.out m)) same
                ∙ sym (letter-comes w faults (did w faults) m u n t apart here kept)
            | inl lost ↦
                let silent : sent w faults n m t ≡ None = none_from_not_some (sent w faults n m t) (λ some.
                both_ways (set_omits faults n m t) kept (contains-omitted faults n m t (outside.adds (Omit n m t) (omitted-contains wider n m t lost)
                (some, heard)))) in
                letter-omitted w wider (did w wider) m u n t lost ∙ sym (letter-silent w faults (did w faults) m u n t silent)
          ]

  -- each step up to the last one within the reach is the same
  step_same : (n t : ℕ) → did w wider n t ≡ did w faults n t → Lasts n (suc t) → ((m s : ℕ) → s ≤ t → IsLive w faults reach m s
      → did w wider m s ≡ did w faults m s)
      → did w wider n (t + 1) ≡ did w faults n (t + 1)
  step_same n t last lasts' before =
      let state : view w wider n t ≡ view w faults n t = ap (λ (s : Stepped State Note). s.state) last in
      elim (cases_Bool (is_up w faults n (t + 1))) [
        | inr down ↦
            did-down w wider n t (stays_down n (t + 1) down) ∙ ap (λ v. record { state = v; out = nothing }) state ∙ sym (did-down w faults n t down)
        | inl up ↦
            let near : suc t ≤ get_or reach n 0 = omega (arith, lasts'.1, lasts'.2.1) in
            let up' : is_up w faults n (suc t) ≡ true = rw (← add-one t) up in
            let mail : inbox w wider n (suc t) ≡ inbox w faults n (suc t) =
            letters-each w wider faults (did w wider) (did w faults) n (suc t) (λ m s _ l. letter_same n (suc t) m s (up', near) (before m s
            (omega arith))) in
            did-up w wider n t (stays_up n (t + 1) (up, omega (arith, near)))
            ∙ rw add-one (rw (from_same n t (view w wider n t) up' near, state, mail) refl)
            ∙ sym (did-up w faults n t up)
      ]

  same_below : (b n t : ℕ) → t < b → Lasts n t → did w wider n t ≡ did w faults n t
  same_below zero n t l h = absurd (omega arith)
  same_below (suc b) n zero l h = did-zero w wider n ∙ sym (did-zero w faults n)
  same_below (suc b) n (suc t) l h =
      rw (← add-one t) (step_same n t (same_below b n t (omega arith) (Lasts-earlier n t h)) h (λ m s e live. same_below b m s (omega arith)
      (s, omega arith, live)))

  pub agrees : AgreesWithin w faults reach wider
  agrees n t live = (stays_up n t live, ap (λ (s : Stepped State Note). s.state) (same_below (suc t) n t (omega arith) (t, omega arith, live)))

  pub stays_up_only : (n t : ℕ) → is_up w wider n t ≡ true → is_up w faults n t ≡ true
  stays_up_only n t up = true_from_ne_false (is_up w faults n t) (λ down. both_ways (is_up w wider n t) (stays_down n t down) up)
