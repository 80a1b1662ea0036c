-- Which faults are to be tried, place by place.
use Rattle.std.proofs.Common.{◌≡◌, ◌≢◌, ℕ, ◌+◌, ◌<◌, ◌≤◌, false, List, length, [], ◌∷◌, ◌++◌, sym, ap, ◌∙◌, inl, inr, arith}
use Rattle.std.proofs.Common.{subst, get_or}
use Rattle.std.specs.Prelude.{slice_set}
use Rattle.std.proofs.lemmas.Bool.{both_ways, cases_lt}
use Rattle.std.proofs.lemmas.List.{get_or-set_same, get_or-set_other}
use Rattle.lf_faults.specs.declared.fault.Parts.{Parts}
use Rattle.lf_faults.specs.declared.fault.Parts.TheVariants.{Omit, Crash, Pause}
use Rattle.lf_faults.specs.Faults.{IsFault, IsAscending, inserted, set_omits}
use Rattle.lf_faults.specs.declared.spec.Bounds.{Bounds}
use Rattle.lf_faults.specs.Allowed.{IsInLimits, IsAdmitted, IsAllowed, CanAdd}
use Rattle.lf_faults.proofs.Laws.{in_allowed-admitted, admitted-fault, subset_allowed, in-inserted, still-in, length-inserted, can_add}
use Rattle.lf_sim.specs.Runs.{World, is_up}
use Rattle.lf_sim.proofs.Laws.{IsRunning-up, contains-omitted}
use Rattle.lf_cone.specs.Cones.{Supports, IsRequired, AreRequired}
use Rattle.lf_cone.specs.Places.{sender_row, crash_row, pause_row, place_at, place_of, IsGathered, LivesBetween}
use Rattle.lf_cone.proofs.Gathering.{gathered-none, gathered-push, gathered-leap, few-places}

-- what stands at a step's places
omission-at : (t : ℕ) (f : Parts) → IsFault f → 1 ≤ t → place_at (sender_row 0 t) 0 ≤ place_of f → place_of f < place_at (crash_row t) 0
    → (n : ℕ) × (m : ℕ) × (f ≡ Omit n m t) × (place_of f ≡ place_at (sender_row n t) m) × (m < 8)
omission-at t (Omit n m s) h first low high =
    let e : s ≡ t = omega (arith, h.0, h.1, h.3) in
    (n, m, ap (Omit n m) e, omega (arith, e), h.1)
omission-at t (Crash n s) h first low high = absurd (omega (arith, h.0, h.1))
omission-at t (Pause n s) h first low high = absurd (omega (arith, h.0, h.1))

crash-at : (t : ℕ) (f : Parts) → IsFault f → 1 ≤ t → place_at (crash_row t) 0 ≤ place_of f → place_of f < place_at (pause_row t) 0
    → (n : ℕ) × (f ≡ Crash n t) × (place_of f ≡ place_at (crash_row t) n)
crash-at t (Omit n m s) h first low high = absurd (omega (arith, h.0, h.1, h.3))
crash-at t (Crash n s) h first low high = let e : s ≡ t = omega (arith, h.0, h.1) in (n, ap (Crash n) e, omega (arith, e))
crash-at t (Pause n s) h first low high = absurd (omega (arith, h.0, h.1))

pause-at : (t : ℕ) (f : Parts) → IsFault f → 1 ≤ t → place_at (pause_row t) 0 ≤ place_of f → place_of f < place_at (sender_row 0 (t + 1)) 0
    → (n : ℕ) × (f ≡ Pause n t) × (place_of f ≡ place_at (pause_row t) n)
pause-at t (Omit n m s) h first low high = absurd (omega (arith, h.0, h.1, h.3))
pause-at t (Crash n s) h first low high = absurd (omega (arith, h.0, h.1))
pause-at t (Pause n s) h first low high = let e : s ≡ t = omega (arith, h.0, h.1) in (n, ap (Pause n) e, omega (arith, e))

late-place : (b : Bounds) (end : ℕ) (f : Parts) → IsFault f → IsAdmitted b f → b.last_omission < b.horizon → b.horizon < end
    → place_of f < place_at (sender_row 0 end) 0
late-place b end (Omit n m t) h is less short = omega (arith, h.0, h.1, h.3, is.4)
late-place b end (Crash n t) h is less short = omega (arith, h.0, h.1, is.2)
late-place b end (Pause n t) h is less short = omega (arith, h.0, h.1, is.2)

-- a step that is reached before the end of all is one of them
pub within_end : (t last horizon : ℕ) → t < last + 1 → last ≡ horizon → t ≤ horizon
within_end t last horizon below same = omega arith

-- one number is less than another, by names that they have elsewhere
pub less_than_same : (a b c d : ℕ) → a < b → a ≡ c → b ≡ d → c < d
less_than_same a b c d less left right = omega arith

module _ {State Note Fact : Type 0} (w : World State Note Fact) (faults : List Parts) (b : Bounds) (reach : List ℕ) (excluded : List Parts)
    (limits : IsInLimits b) where
  abbrev P : Parts → Type 0
  P = IsRequired w faults b reach excluded

  abbrev pub Gathered : ℕ → List Parts → Type 0
  Gathered = IsGathered (IsRequired w faults b reach excluded)

  pub is-admitted : (f : Parts) → IsRequired w faults b reach excluded f → IsAdmitted b f
  is-admitted f h = in_allowed-admitted b (inserted f faults) f h.allowed.1 (in-inserted f faults)

  pub is-fault : (f : Parts) → IsRequired w faults b reach excluded f → IsFault f
  is-fault f h = admitted-fault b f limits (is-admitted f h)

  pub start : Gathered 0 []
  start = gathered-none P is-fault

  -- a fault is put
  pub put_one : (fs xs : List Parts) (f g : Parts) (k l : ℕ) → xs ≡ fs ++ f ∷ [] → f ≡ g → place_of g ≡ k → l ≡ k + 1 → Gathered k fs
      → IsRequired w faults b reach excluded g → Gathered l xs
  put_one fs xs f g k l whole same at next h p =
      subst (λ n. Gathered n xs) (sym next)
      (subst (Gathered (k + 1)) (sym (whole ∙ ap (λ x. fs ++ x ∷ []) same)) (gathered-push P is-fault fs k g h p at))

  -- no omission of the slot
  pub skip_omission : (fs : List Parts) (n m t : ℕ) → 1 ≤ t → n < 8 → m < 8 → Gathered (place_at (sender_row n t) m) fs
      → (IsRequired w faults b reach excluded (Omit n m t) → ⊥) → Gathered (place_at (sender_row n t) m + 1) fs
  skip_omission fs n m t first sender receiver h none =
      gathered-leap P is-fault fs (place_at (sender_row n t) m) (place_at (sender_row n t) m + 1) (omega arith) h
      (λ f p low high.
      let at = omission-at t f (is-fault f p) first (omega arith) (omega arith) in
      let from : at.0 ≡ n = omega (arith, at.3, at.4) in
      let to : at.1 ≡ m = omega (arith, at.3, at.4) in
      let is : P (Omit n m t) = subst (λ k. P (Omit k m t)) from (subst (λ k. P (Omit at.0 k t)) to (subst P at.2 p)) in
      none is)

  -- no omission of what a node sends
  pub skip_sender : (fs : List Parts) (n t : ℕ) → 1 ≤ t → n < 8 → Gathered (place_at (sender_row n t) 0) fs → is_up w faults n t ≡ false
      → Gathered (place_at (sender_row (n + 1) t) 0) fs
  skip_sender fs n t first sender h down =
      gathered-leap P is-fault fs (place_at (sender_row n t) 0) (place_at (sender_row (n + 1) t) 0) (omega arith) h
      (λ f p low high.
      let at = omission-at t f (is-fault f p) first (omega arith) (omega arith) in
      let from : at.0 ≡ n = omega (arith, at.3, at.4) in
      let is : P (Omit n at.1 t) = subst (λ k. P (Omit k at.1 t)) from (subst P at.2 p) in
      both_ways (is_up w faults n t) down (is.supports.1.2.sends))

  -- no omission to or from what isn't a node, nor after the last one
  pub end_receivers : (fs : List Parts) (n m t : ℕ) → 1 ≤ t → n < 8 → b.nodes ≤ m → m ≤ 8 → Gathered (place_at (sender_row n t) m) fs
      → Gathered (place_at (sender_row (n + 1) t) 0) fs
  end_receivers fs n m t first sender past few h =
      gathered-leap P is-fault fs (place_at (sender_row n t) m) (place_at (sender_row (n + 1) t) 0) (omega arith) h
      (λ f p low high.
      let at = omission-at t f (is-fault f p) first (omega arith) (omega arith) in
      let is = is-admitted (Omit at.0 at.1 t) (subst P at.2 p) in
      omega (arith, at.3, at.4, is.1))

  pub end_senders : (fs : List Parts) (n t : ℕ) → 1 ≤ t → b.nodes ≤ n → n ≤ 8 → Gathered (place_at (sender_row n t) 0) fs
      → Gathered (place_at (crash_row t) 0) fs
  end_senders fs n t first past few h =
      gathered-leap P is-fault fs (place_at (sender_row n t) 0) (place_at (crash_row t) 0) (omega arith) h
      (λ f p low high.
      let at = omission-at t f (is-fault f p) first (omega arith) (omega arith) in
      let is = is-admitted (Omit at.0 at.1 t) (subst P at.2 p) in
      omega (arith, at.3, at.4, is.0))

  pub skip_omissions : (fs : List Parts) (t : ℕ) → 1 ≤ t → b.last_omission < t → Gathered (place_at (sender_row 0 t) 0) fs
      → Gathered (place_at (crash_row t) 0) fs
  skip_omissions fs t first late h =
      gathered-leap P is-fault fs (place_at (sender_row 0 t) 0) (place_at (crash_row t) 0) (omega arith) h
      (λ f p low high.
      let at = omission-at t f (is-fault f p) first low high in
      let is = is-admitted (Omit at.0 at.1 t) (subst P at.2 p) in
      omega (arith, is.4))

  -- crashes and pauses
  pub skip_crash : (fs : List Parts) (n t : ℕ) → 1 ≤ t → n < 8 → Gathered (place_at (crash_row t) n) fs → (IsRequired w faults b reach excluded (Crash n t) → ⊥)
      → Gathered (place_at (crash_row t) n + 1) fs
  skip_crash fs n t first node h none =
      gathered-leap P is-fault fs (place_at (crash_row t) n) (place_at (crash_row t) n + 1) (omega arith) h
      (λ f p low high.
      let at = crash-at t f (is-fault f p) first (omega arith) (omega arith) in
      let from : at.0 ≡ n = omega (arith, at.2) in
      let is : P (Crash n t) = subst (λ k. P (Crash k t)) from (subst P at.1 p) in
      none is)

  pub end_crashes : (fs : List Parts) (n t : ℕ) → 1 ≤ t → b.nodes ≤ n → n ≤ 8 → Gathered (place_at (crash_row t) n) fs → Gathered (place_at (pause_row t) 0) fs
  end_crashes fs n t first past few h =
      gathered-leap P is-fault fs (place_at (crash_row t) n) (place_at (pause_row t) 0) (omega arith) h
      (λ f p low high.
      let at = crash-at t f (is-fault f p) first (omega arith) (omega arith) in
      let is = is-admitted (Crash at.0 t) (subst P at.1 p) in
      omega (arith, at.2, is.0))

  pub skip_pause : (fs : List Parts) (n t : ℕ) → 1 ≤ t → n < 8 → Gathered (place_at (pause_row t) n) fs → (IsRequired w faults b reach excluded (Pause n t) → ⊥)
      → Gathered (place_at (pause_row t) n + 1) fs
  skip_pause fs n t first node h none =
      gathered-leap P is-fault fs (place_at (pause_row t) n) (place_at (pause_row t) n + 1) (omega arith) h
      (λ f p low high.
      let at = pause-at t f (is-fault f p) first (omega arith) (omega arith) in
      let from : at.0 ≡ n = omega (arith, at.2) in
      let is : P (Pause n t) = subst (λ k. P (Pause k t)) from (subst P at.1 p) in
      none is)

  pub end_pauses : (fs : List Parts) (n t : ℕ) → 1 ≤ t → b.nodes ≤ n → n ≤ 8 → Gathered (place_at (pause_row t) n) fs
      → Gathered (place_at (sender_row 0 (t + 1)) 0) fs
  end_pauses fs n t first past few h =
      gathered-leap P is-fault fs (place_at (pause_row t) n) (place_at (sender_row 0 (t + 1)) 0) (omega arith) h
      (λ f p low high.
      let at = pause-at t f (is-fault f p) first (omega arith) (omega arith) in
      let is = is-admitted (Pause at.0 t) (subst P at.1 p) in
      omega (arith, at.2, is.0))

  -- all steps are done
  pub end_steps : (fs : List Parts) (end : ℕ) → b.horizon < end → Gathered (place_at (sender_row 0 end) 0) fs → AreRequired w faults b reach excluded fs
  end_steps fs end short h = record {
    ascending = h.ascending;
    each = λ f. (λ c. ((h.members f).0 c).0, λ p. (h.members f).1 (p, late-place b end f (is-fault f p) (is-admitted f p) limits.last_omission short));
  }

  -- no more edges are required than there are places
  pub edges_few : (edges : List Parts) → AreRequired w faults b reach excluded edges → length edges ≤ 3840
  edges_few edges are =
      let few = few-places edges 0 3840 are.ascending
      (λ f c.
      let p = (are.each f).0 c in
      (is-fault f p, omega arith, late-place b 49 f (is-fault f p) (is-admitted f p) limits.last_omission (omega (arith, limits.horizon.1))))
      (omega arith) in
      omega (arith, few)

  -- where no fault may be added, none is required
  none_added : ((f : Parts) → CanAdd b faults f → ⊥) → AreRequired w faults b reach excluded []
  none_added none = record {
    ascending = tt;
    each = λ f. (λ c. absurd (omega (arith, c.1)), λ p. absurd (none f p.allowed));
  }

  pub none_allowed : IsAscending faults → (IsAllowed b faults → ⊥) → AreRequired w faults b reach excluded []
  none_allowed ascending none = none_added (λ f can. none (subset_allowed b (inserted f faults) faults can.1 ascending (λ g c. still-in f faults g c)))

  pub none_left : b.budget ≤ length faults → AreRequired w faults b reach excluded []
  none_left full = none_added (λ f can. omega (arith, full, can.1.budget, length-inserted f faults))

  pub moved : (fs : List Parts) (k l : ℕ) → k ≡ l → Gathered k fs → Gathered l fs
  moved fs k l e h = subst (λ x. Gathered x fs) e h

  -- a crash could change something where the node is up at a later step within the reach
  pub crash-lives : (n t end : ℕ) → LivesBetween w faults reach n t end → Supports w faults reach (Crash n t)
  crash-lives n t end h = (h.0, h.1, h.3)

  pub lives-crash : (n t end : ℕ) → w.horizon < end → Supports w faults reach (Crash n t) → LivesBetween w faults reach n t end
  lives-crash n t end far h = (h.0, h.1, omega (arith, (IsRunning-up w faults n h.0 h.2.0).last, far), h.2)

  -- an omission of a note that is kept may be added where the budget isn't used up
  pub omission-added : IsAllowed b faults → length faults < b.budget → (n m t : ℕ) → n < b.nodes → m < b.nodes → n ≢ m → 1 ≤ t → t ≤ b.last_omission
      → Supports w faults reach (Omit n m t) → CanAdd b faults (Omit n m t)
  omission-added allowed few n m t sender receiver apart first last h =
      can_add b faults (Omit n m t) allowed few (sender, receiver, apart, first, last)
      (λ c. both_ways (set_omits faults n m t) h.1.2.kept (contains-omitted faults n m t c)) tt

-- a table's entries, one more
pub table-more : {X : Type 0} (Q : ℕ → X → Type 0) (table : List X) (d : X) (k : ℕ) (value : X) → k < length table → Q k value
    → ((n : ℕ) → n < k → Q n (get_or table n d)) → (n : ℕ) → n < k + 1 → Q n (get_or (slice_set table k value) n d)
table-more Q table d k value inside is before n below = elim (cases_lt n k) [
  | inl early ↦ subst (Q n) (sym (get_or-set_other table k n value d (λ e. omega (arith, e, early)))) (before n early)
  | inr late ↦
      let same : k ≡ n = omega (arith, below, late) in
      subst (λ m. Q m (get_or (slice_set table k value) m d)) same (subst (Q k) (sym (get_or-set_same table k value d inside)) is)
]
