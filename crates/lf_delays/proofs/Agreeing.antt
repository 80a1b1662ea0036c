-- Assignments that agree on what has arrived give runs that agree.
use Rattle.std.proofs.Common.{◌≡◌, ℕ, zero, suc, ◌+◌, ◌<◌, ◌≤◌, Bool, true, false, not, List, ◌++◌, refl, sym, ap, ◌∙◌, subst, arith, inl, inr}
use Rattle.std.proofs.Common.{add-one}
use Rattle.std.specs.Prelude.{Option, None, Some}
use Rattle.std.specs.Option.{option_map, option_to_list}
use Rattle.std.proofs.lemmas.Bool.{and_parts, and_from, cases_Bool, cases_eq, cond-false, cond-true, true_from_ne_false}
use Rattle.lf_faults.specs.declared.fault.Parts.{Parts}
use Rattle.lf_faults.specs.Faults.{set_omits}
use Rattle.lf_latency.specs.declared.network.Timing.{Timing}
use Rattle.lf_latency.specs.Links.{IsPair}
use Rattle.lf_latency.specs.Arrivals.{IsSlot}
use Rattle.lf_sim.specs.declared.out.Stepped.{Stepped}
use Rattle.lf_sim.specs.Outs.{note_to, nothing}
use Rattle.lf_sim.specs.Points.{IsRunning}
use Rattle.lf_sim.specs.Runs.{World, each_below, is_up, before_step, letter, letters, did, view, sent, inbox}
use Rattle.lf_sim.proofs.Laws as runs
use Rattle.lf_outcome.specs.declared.formula.Formula.{Formula}
use Rattle.lf_outcome.specs.Truth.{reaches, entered, is_down, is_shown, is_single}
use Rattle.lf_outcome.specs.Unfolding.{unfolded}
use Rattle.lf_outcome.proofs.Laws.{single-agree, truth-carries}
use Rattle.lf_delays.specs.Answers.{IsOn}
use Rattle.lf_delays.specs.Windows.{under, AreLevel, AgreeUpTo}

each_below-same : {A : Type 0} (f g : ℕ → List A) (n : ℕ) → ((k : ℕ) → k < n → f k ≡ g k) → each_below f n ≡ each_below g n
each_below-same f g zero h = refl
each_below-same f g (suc n) h =
    ap (λ xs. xs ++ f n) (each_below-same f g n (λ k low. h k (omega (arith, low)))) ∙ ap (λ ys. each_below g n ++ ys) (h n (omega arith))

bool_same : (x y : Bool) → (x ≡ true → y ≡ true) → (y ≡ true → x ≡ true) → x ≡ y
bool_same true y to back = sym (to refl)
bool_same false true to back = back refl
bool_same false false to back = refl

module _ {State Note Fact : Type 0} (w : World State Note Fact) (fs : List Parts) (other : ℕ → ℕ → ℕ → ℕ) where
  abbrev v : World State Note Fact
  v = under w other

  -- who is up, and from what a step starts, don't depend on arrivals
  pub up_same : (n t : ℕ) → is_up w fs n t ≡ is_up v fs n t
  unfolding is_up
  up_same n t = refl

  before_same : (n t : ℕ) (s : State) → before_step w fs n t s ≡ before_step v fs n t s
  unfolding before_step
  before_same n t s = refl

  -- what sends a note is up
  sender : (n m t : ℕ) (note : Note) → sent w fs n m t ≡ Some note → IsRunning w fs n t
  sender n m t note sends =
      runs.IsRunning-up w fs n t
      (true_from_ne_false (is_up w fs n t) (λ down. let none : sent w fs n m t ≡ None = runs.sent-down w fs n m t down in cc))

  module _ (reach : ℕ → ℕ) (level : AreLevel reach) (agree : AgreeUpTo w fs other reach) where
    module _ (n m t u : ℕ) (early : t < u) (low : u ≤ reach m) (up : is_up w fs m u ≡ true) (same : did w fs n t ≡ did v fs n t) where
      sent_same : sent w fs n m t ≡ sent v fs n m t
      sent_same = ap (λ (x : Stepped State Note). note_to x.out m) same

      letter_of_note : (o : Option Note) → sent w fs n m t ≡ o → (n ≡ m → ⊥) → set_omits fs n m t ≡ false
          → letter w fs (did w fs) m u n t ≡ letter v fs (did v fs) m u n t
      letter_of_note None is apart kept =
          runs.letter-silent w fs (did w fs) m u n t is ∙ sym (runs.letter-silent v fs (did v fs) m u n t (sym sent_same ∙ is))
      letter_of_note (Some note) is apart kept =
          let from = sender n m t note is in
          let to = runs.IsRunning-up w fs m u up in
          let both = agree n m t u note from.node to.node apart from.first from.last early low up is kept in
          elim (cases_eq (w.arrival n m t) u) [
            | inl there ↦
                runs.letter-comes w fs (did w fs) m u n t apart there kept
                ∙ ap (λ o. option_map (λ x. record { from = n; sent = t; note = x }) o) sent_same
                ∙ sym (runs.letter-comes v fs (did v fs) m u n t apart (both.0 there) kept)
            | inr elsewhere ↦
                runs.letter-elsewhere w fs (did w fs) m u n t elsewhere
                ∙ sym (runs.letter-elsewhere v fs (did v fs) m u n t (λ e. elsewhere (both.1 e)))
          ]

      letter_same : letter w fs (did w fs) m u n t ≡ letter v fs (did v fs) m u n t
      letter_same = elim (cases_eq n m) [
        | inl self ↦ runs.letter-self w fs (did w fs) m u n t self ∙ sym (runs.letter-self v fs (did v fs) m u n t self)
        | inr apart ↦ elim (cases_Bool (set_omits fs n m t)) [
          | inl lost ↦ runs.letter-omitted w fs (did w fs) m u n t lost ∙ sym (runs.letter-omitted v fs (did v fs) m u n t lost)
          | inr kept ↦ letter_of_note (sent w fs n m t) refl apart kept
        ]
      ]

    letters_same : (m u : ℕ) → u ≤ reach m → is_up w fs m u ≡ true → ((n t : ℕ) → t < u → did w fs n t ≡ did v fs n t)
        → letters w fs (did w fs) m u ≡ letters v fs (did v fs) m u
    unfolding letters
    letters_same m u low up same =
        each_below-same _ _ w.rules.nodes
        (λ n k. each_below-same _ _ u (λ t l. ap option_to_list (letter_same n m t u l low up (same n t l))))

    next : (n t : ℕ) → t + 1 ≤ reach n → ((k s : ℕ) → s ≤ t → s ≤ reach k → did w fs k s ≡ did v fs k s)
        → did w fs n (t + 1) ≡ did v fs n (t + 1)
    next n t low before =
        let here : did w fs n t ≡ did v fs n t = before n t (omega arith) (omega (arith, low)) in
        elim (cases_Bool (is_up w fs n (t + 1))) [
          | inl up ↦
              let mail : inbox w fs n (t + 1) ≡ inbox v fs n (t + 1) =
              letters_same n (t + 1) low up (λ k s early. before k s (omega (arith, early)) (let near = level k n in omega (arith, early, near, low))) in
              let from : before_step w fs n (t + 1) (view w fs n t) ≡ before_step v fs n (t + 1) (view v fs n t) =
              ap (λ (x : Stepped State Note). before_step w fs n (t + 1) x.state) here ∙ before_same n (t + 1) (view v fs n t) in
              runs.did-up w fs n t up
              ∙ ap (λ ls. w.rules.step n (t + 1) (before_step w fs n (t + 1) (view w fs n t)) ls) mail
              ∙ ap (λ s. w.rules.step n (t + 1) s (inbox v fs n (t + 1))) from
              ∙ sym (runs.did-up v fs n t (sym (up_same n (t + 1)) ∙ up))
          | inr down ↦
              runs.did-down w fs n t down
              ∙ ap (λ (x : Stepped State Note). record { state = x.state; out = nothing }) here
              ∙ sym (runs.did-down v fs n t (sym (up_same n (t + 1)) ∙ down))
        ]

    did_same : (d n t : ℕ) → t ≤ d → t ≤ reach n → did w fs n t ≡ did v fs n t
    did_same d n zero few low = runs.did-zero w fs n ∙ sym (runs.did-zero v fs n)
    did_same zero n (suc t) few low = absurd (omega arith)
    did_same (suc d) n (suc t) few low =
        subst (λ k. did w fs n k ≡ did v fs n k) (add-one t) (next n t (omega (arith, low)) (λ k s early near. did_same d k s (omega (arith, early, few)) near))

    -- what is done up to the steps is the same by both
    pub did_agree : (n t : ℕ) → t ≤ reach n → did w fs n t ≡ did v fs n t
    did_agree n t low = did_same t n t (omega arith) low

    pub inbox_agree : (m u : ℕ) → u ≤ reach m → is_up w fs m u ≡ true → inbox w fs m u ≡ inbox v fs m u
    inbox_agree m u low up =
        letters_same m u low up (λ n t early. did_agree n t (let near = level n m in omega (arith, early, near, low)))

  -- where they agree up to the last step, the set reaches by both or by neither
  module _ (agree : AgreeUpTo w fs other (λ n. w.horizon)) where
    shown_same : (n t : ℕ) (fact : Fact) → is_up w fs n t ≡ true → w.rules.shows n (view w fs n t) fact ≡ w.rules.shows n (view v fs n t) fact
    shown_same n t fact up =
        let last = (runs.IsRunning-up w fs n t up).last in
        ap (λ (x : Stepped State Note). w.rules.shows n x.state fact) (did_agree (λ k. w.horizon) (λ k j. omega arith) agree n t (omega (arith, last)))

    shows_to : (n t : ℕ) (fact : Fact) → is_shown w fs n t fact ≡ true → is_shown v fs n t fact ≡ true
    shows_to n t fact e =
        let parts = and_parts (is_up w fs n t) (w.rules.shows n (view w fs n t) fact) e in
        and_from (is_up v fs n t) (w.rules.shows n (view v fs n t) fact) (sym (up_same n t) ∙ parts.0)
        (sym (shown_same n t fact parts.0) ∙ parts.1)

    shows_back : (n t : ℕ) (fact : Fact) → is_shown v fs n t fact ≡ true → is_shown w fs n t fact ≡ true
    shows_back n t fact e =
        let parts = and_parts (is_up v fs n t) (w.rules.shows n (view v fs n t) fact) e in
        let up : is_up w fs n t ≡ true = up_same n t ∙ parts.0 in
        and_from (is_up w fs n t) (w.rules.shows n (view w fs n t) fact) up (shown_same n t fact up ∙ parts.1)

    enters_same : (topic n t : ℕ) → entered v fs topic n t ≡ entered w fs topic n t
    enters_same topic n t = elim (cases_Bool (is_up w fs n t)) [
      | inl up ↦
          let last = (runs.IsRunning-up w fs n t up).last in
          cond-true (is_up v fs n t) (w.rules.entry n (view v fs n t) topic) None (sym (up_same n t) ∙ up)
          ∙ sym (ap (λ (x : Stepped State Note). w.rules.entry n x.state topic)
          (did_agree (λ k. w.horizon) (λ k j. omega arith) agree n t (omega (arith, last))))
          ∙ sym (cond-true (is_up w fs n t) (w.rules.entry n (view w fs n t) topic) None up)
      | inr down ↦
          cond-false (is_up v fs n t) (w.rules.entry n (view v fs n t) topic) None (sym (up_same n t) ∙ down)
          ∙ sym (cond-false (is_up w fs n t) (w.rules.entry n (view w fs n t) topic) None down)
    ]

    single_same : (nodes last topic : ℕ) → is_single v fs nodes last topic ≡ is_single w fs nodes last topic
    single_same nodes last topic = single-agree w v fs fs nodes last topic (λ n t node first late. enters_same topic n t)

    pub reaches_agree : (f : Formula Fact) → reaches w fs f ≡ reaches v fs f
    reaches_agree f =
        bool_same (reaches w fs f) (reaches v fs f)
        (truth-carries (is_down w fs) (is_down v fs) (is_shown w fs) (is_shown v fs) (is_single w fs) (is_single v fs)
        (λ n t e. sym (ap not (up_same n t)) ∙ e) shows_to (λ nodes last topic e. single_same nodes last topic ∙ e) (unfolded f))
        (truth-carries (is_down v fs) (is_down w fs) (is_shown v fs) (is_shown w fs) (is_single v fs) (is_single w fs)
        (λ n t e. ap not (up_same n t) ∙ e) shows_back (λ nodes last topic e. sym (single_same nodes last topic) ∙ e) (unfolded f))

-- assignments that are the same at each slot
module _ {State Note Fact : Type 0} (timing : Timing) (w : World State Note Fact) (on : IsOn timing w) (a d : ℕ → ℕ → ℕ → ℕ)
    (same : (n m t : ℕ) → IsSlot timing n m t → a n m t ≡ d n m t) (fs : List Parts) where
  slots_agree : AgreeUpTo (under w a) fs d (λ n. w.horizon)
  slots_agree n m t u note from to apart first last early low up sends kept =
      let nodes = on.nodes in
      let horizon = on.horizon in
      let pair : IsPair timing.nodes n m = record { sender = omega (arith, from, nodes); receiver = omega (arith, to, nodes); apart = apart } in
      let e : a n m t ≡ d n m t = same n m t (record { pair = pair; first = first; last = omega (arith, last, horizon) }) in
      (λ h. sym e ∙ h, λ h. e ∙ h)

  pub slots_reach : (f : Formula Fact) → reaches (under w a) fs f ≡ reaches (under w d) fs f
  slots_reach f = reaches_agree (under w a) fs d slots_agree f
