-- What comes out at a point depends on what comes in alone.
use Rattle.std.proofs.Common.{◌≡◌, ℕ, zero, suc, ◌+◌, ◌-◌, ◌<◌, true, false, cond, List, refl, sym, ap, subst, ◌∙◌, arith, inl, inr}
use Rattle.std.specs.Prelude.{◌⊎◌, ◌↔◌, Option, None, Some}
use Rattle.std.specs.Option.{option_map}
use Rattle.std.specs.List.{Contains}
use Rattle.std.specs.Cmp.{both_ways}
use Rattle.std.proofs.lemmas.Bool.Decides.{eqb_tells}
use Rattle.std.proofs.lemmas.Bool.{cases_Bool, cases_lt}
use Rattle.lf_faults.specs.declared.fault.Parts.{Parts}
use Rattle.lf_faults.specs.declared.fault.Parts.TheVariants.{Crash, Pause}
use Rattle.lf_faults.specs.Faults.{set_omits, set_wakes}
use Rattle.lf_sim.specs.declared.letter.Letter.{Letter}
use Rattle.lf_sim.specs.declared.record.Run.{Run}
use Rattle.lf_sim.specs.declared.out.Stepped.{Stepped}
use Rattle.lf_sim.specs.Outs.{note_to, nothing}
use Rattle.lf_sim.specs.OutsLemmas.{note_to-nothing}
use Rattle.lf_sim.specs.Runs.{World, is_up, before_step, letter, letters, did, view, sent, inbox}
use Rattle.lf_sim.specs.Settings.{cell_of, sent_of, state_of}
use Rattle.lf_sim.proofs.Laws as laws
use Rattle.lf_sim.specs.Changes.{Stops, Ignores, IsSameAt, IsUnchanged, act}

-- what is so or else for each number below k
all-or : (D : Type 0) (P : ℕ → Type 0) (k : ℕ) → ((i : ℕ) → i < k → D ⊎ P i) → D ⊎ ((i : ℕ) → i < k → P i)
all-or D P zero f = inr (λ i h. absurd (omega (arith, h)))
all-or D P (suc k) f = elim (all-or D P k (λ i h. f i (omega (arith, h)))) [
  | inl d ↦ inl d
  | inr each ↦ elim (f k (omega arith)) [
    | inl d ↦ inl d
    | inr here ↦ inr (λ i h. elim (cases_lt i k) [
      | inl near ↦ each i near
      | inr far ↦ let is : k ≡ i = omega (arith, h, far) in subst P is here
    ])
  ]
]

-- the same crashes and pauses have a say: up and waking are the same
module _ {State Note Fact : Type 0} (w : World State Note Fact) (from to : List Parts) (m u : ℕ)
    (same : (f : Parts) → Stops w m u f → Contains from f → Contains to f) (back : (f : Parts) → Stops w m u f → Contains to f → Contains from f) where
  up-kept : is_up w from m u ≡ true → is_up w to m u ≡ true
  up-kept up =
      let r = laws.IsRunning-up w from m u up in
      laws.up-IsRunning w to m u (record {
        node = r.node;
        first = r.first;
        last = r.last;
        crashes = λ s early c. r.crashes s early (back (Crash m s) (refl, early) c);
        pauses = λ s early over c. r.pauses s early over (back (Pause m s) (refl, early, omega (arith, over)) c);
      })

  wakes-kept : set_wakes w.pause_length from m u ≡ true → set_wakes w.pause_length to m u ≡ true
  wakes-kept wakes =
      let p = laws.woken-contains from w.pause_length m u wakes in
      laws.contains-woken to w.pause_length m p.0 u (same (Pause m p.0) (refl, omega (arith, p.1), omega (arith, p.1)) p.2) p.1

module _ {State Note Fact : Type 0} (w : World State Note Fact) (from to : List Parts) (m u : ℕ)
    (same : (f : Parts) → Stops w m u f → (Contains from f ↔ Contains to f)) where
  up-same : is_up w from m u ≡ is_up w to m u
  up-same =
      both_ways _ _ (up-kept w from to m u (λ f h. (same f h).0) (λ f h. (same f h).1))
      (up-kept w to from m u (λ f h. (same f h).1) (λ f h. (same f h).0))

  wakes-same : set_wakes w.pause_length from m u ≡ set_wakes w.pause_length to m u
  wakes-same =
      both_ways _ _ (wakes-kept w from to m u (λ f h. (same f h).0) (λ f h. (same f h).1))
      (wakes-kept w to from m u (λ f h. (same f h).1) (λ f h. (same f h).0))

  before_step-same : (last : State) → before_step w from m u last ≡ before_step w to m u last
  unfolding before_step
  before_step-same last = rw wakes-same refl

  act-same : (last : State) (letters : List (Letter Note)) → act w from m u last letters ≡ act w to m u last letters
  act-same last letters =
      ap (λ b. cond b (w.rules.step m u (before_step w from m u last) letters) (record { state = last; out = nothing })) up-same
      ∙ ap (λ s. cond (is_up w to m u) (w.rules.step m u s letters) (record { state = last; out = nothing })) (before_step-same last)

-- what m did is what it does with its letters
did-act : {State Note Fact : Type 0} (w : World State Note Fact) (faults : List Parts) (m v : ℕ)
    → did w faults m (v + 1) ≡ act w faults m (v + 1) (view w faults m v) (inbox w faults m (v + 1))
did-act {State = State} {Note = Note} w faults m v =
    let made : Stepped State Note = w.rules.step m (v + 1) (before_step w faults m (v + 1) (view w faults m v)) (inbox w faults m (v + 1)) in
    let kept : Stepped State Note = record { state = view w faults m v; out = nothing } in
    elim (cases_Bool (is_up w faults m (v + 1))) [
      | inl up ↦ laws.did-up w faults m v up ∙ sym (ap (λ b. cond b made kept) up)
      | inr down ↦ laws.did-down w faults m v down ∙ sym (ap (λ b. cond b made kept) down)
    ]

-- nothing is sent before step 1
sent-zero : {State Note Fact : Type 0} (w : World State Note Fact) (faults : List Parts) (n m : ℕ) → sent w faults n m 0 ≡ None
sent-zero w faults n m = ap (λ (s : Stepped _ _). note_to s.out m) (laws.did-zero w faults n) ∙ note_to-nothing m

-- a letter of the same note, omitted in both or in neither
letter-alike : {State Note Fact : Type 0} (w : World State Note Fact) (from to : List Parts) (m u n t : ℕ) → set_omits from n m t ≡ set_omits to n m t
    → sent w from n m t ≡ sent w to n m t → letter w from (did w from) m u n t ≡ letter w to (did w to) m u n t
unfolding letter
letter-alike w from to m u n t lost note = rw (lost, note) refl

-- a state or a note that a run tells twice is the same
pub told-state : {M State Note Fact : Type 0} (run : Run M State Note Fact) (n t : ℕ) (cell : Stepped State Note) (state : State)
    → cell_of run n t ≡ Some cell → state_of run n t ≡ Some state → cell.state ≡ state
told-state run n t cell state is told =
    let both : Some cell.state ≡ Some state = ap (option_map (λ c. c.state)) (sym is) ∙ told in cc

pub told-note : {M State Note Fact : Type 0} (run : Run M State Note Fact) (n m t : ℕ) (cell : Stepped State Note) (note : Option Note)
    → cell_of run n t ≡ Some cell → sent_of run n m t ≡ Some note → note_to cell.out m ≡ note
told-note run n m t cell note is told =
    let both : Some (note_to cell.out m) ≡ Some note = ap (option_map (λ (c : Stepped _ _). note_to c.out m)) (sym is) ∙ told in cc

module _ {M State Note Fact : Type 0} (w : World State Note Fact) (from to : List Parts) (run : Run M State Note Fact) (m v : ℕ)
    (same : IsUnchanged w from to run m (v + 1))
    (done : (n s : ℕ) → n < w.rules.nodes → s < v + 1 → cell_of run n s ≡ Some (did w to n s)) where
  letter-kept : (n s : ℕ) → n < w.rules.nodes → s < v + 1
      → Ignores w to m (v + 1) run ⊎ (letter w from (did w from) m (v + 1) n s ≡ letter w to (did w to) m (v + 1) n s)
  letter-kept n zero node early =
      inr (laws.letter-silent w from (did w from) m (v + 1) n 0 (sent-zero w from n m)
      ∙ sym (laws.letter-silent w to (did w to) m (v + 1) n 0 (sent-zero w to n m)))
  letter-kept n (suc s) node early = elim (eqb_tells n m) [
    | inl one ↦
        inr (laws.letter-self w from (did w from) m (v + 1) n (suc s) one.1 ∙ sym (laws.letter-self w to (did w to) m (v + 1) n (suc s) one.1))
    | inr apart ↦ elim (eqb_tells (w.arrival n m (suc s)) (v + 1)) [
      | inl there ↦ elim (same.heard n (suc s) node apart.1 (omega arith) early there.1) [
        | inl deaf ↦ inl deaf
        | inr both ↦
            inr (letter-alike w from to m (v + 1) n (suc s) both.0
            (sym (told-note run n m (suc s) (did w to n (suc s)) (sent w from n m (suc s)) (done n (suc s) node early) both.1)))
      ]
      | inr elsewhere ↦
          inr (laws.letter-elsewhere w from (did w from) m (v + 1) n (suc s) elsewhere.1
          ∙ sym (laws.letter-elsewhere w to (did w to) m (v + 1) n (suc s) elsewhere.1))
    ]
  ]

  inbox-kept : Ignores w to m (v + 1) run ⊎ (inbox w from m (v + 1) ≡ inbox w to m (v + 1))
  inbox-kept =
      let D : Type 0 = Ignores w to m (v + 1) run in
      elim (all-or D (λ n. (s : ℕ) → s < v + 1 → letter w from (did w from) m (v + 1) n s ≡ letter w to (did w to) m (v + 1) n s) w.rules.nodes
      (λ n node. all-or D (λ s. letter w from (did w from) m (v + 1) n s ≡ letter w to (did w to) m (v + 1) n s) (v + 1)
      (λ s early. letter-kept n s node early))) [
        | inl deaf ↦ inl deaf
        | inr each ↦ inr (laws.letters-each w from to (did w from) (did w to) m (v + 1) (λ n t node early. each n node t early))
      ]

  view-kept : m < w.rules.nodes → view w from m v ≡ view w to m v
  view-kept node = sym (told-state run m v (did w to m v) (view w from m v) (done m v node (omega arith)) (same.last v refl))

  heard-kept : act w to m (v + 1) (view w from m v) (inbox w from m (v + 1)) ≡ act w to m (v + 1) (view w from m v) (inbox w to m (v + 1))
  heard-kept = elim inbox-kept [
    | inl deaf ↦ deaf v (view w from m v) refl (same.last v refl) (inbox w from m (v + 1)) (inbox w to m (v + 1))
    | inr mail ↦ ap (act w to m (v + 1) (view w from m v)) mail
  ]

  -- what comes out is the same
  pub did-kept : m < w.rules.nodes → did w from m (v + 1) ≡ did w to m (v + 1)
  did-kept node =
      did-act w from m v
      ∙ act-same w from to m (v + 1) same.stops (view w from m v) (inbox w from m (v + 1))
      ∙ heard-kept
      ∙ ap (λ last. act w to m (v + 1) last (inbox w to m (v + 1))) (view-kept node)
      ∙ sym (did-act w to m v)

  -- and so is whether it is up, and its view
  pub same-at : m < w.rules.nodes → IsSameAt w from to m (v + 1)
  same-at node = record {
    up = up-same w from to m (v + 1) same.stops;
    view = ap (λ (c : Stepped _ _). c.state) (did-kept node);
  }

-- a node whose machine says that it ignores its letters
pub ignores-by : {M State Note Fact : Type 0} (w : World State Note Fact) (faults : List Parts) (m u : ℕ) (run : Run M State Note Fact)
    (state : State)
    → set_wakes w.pause_length faults m u ≡ false → Some state ≡ state_of run m (u - 1)
    → ((letters others : List (Letter Note)) → w.rules.step m u state letters ≡ w.rules.step m u state others) → Ignores w faults m u run
ignores-by w faults m u run state awake is same v last e told letters others =
    let now : u - 1 ≡ v = omega (arith, e) in
    let both : Some state ≡ Some last = is ∙ ap (state_of run m) now ∙ told in
    let one : last ≡ state = cc in
    let from : before_step w faults m u last ≡ state = laws.before_step-awake w faults m u last awake ∙ one in
    ap (λ made. cond (is_up w faults m u) made (record { state = last; out = nothing }))
    (ap (λ s. w.rules.step m u s letters) from ∙ same letters others ∙ sym (ap (λ s. w.rules.step m u s others) from))
