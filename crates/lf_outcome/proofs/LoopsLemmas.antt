-- The points of a run, and what is entered at them, as loops over nodes and steps meet them.
use Rattle.std.proofs.Common.{◌≡◌, ℕ, ◌+◌, ◌-◌, ◌<◌, Bool, true, false, not, cond, ◌||◌, List, [], ◌∷◌, ◌++◌, refl, sym, ap, ◌∙◌, min, inl, inr, arith}
use Rattle.std.proofs.Common.{append_assoc}
use Rattle.std.specs.Prelude.{Option, None, Some, is_some}
use Rattle.std.specs.List.{Contains, filter, list_all}
use Rattle.std.specs.Option.{option_to_list}
use Rattle.std.proofs.lemmas.Bool.{and_parts, and_from, cases_lt, false≢true, or_right}
use Rattle.std.proofs.lemmas.List.{append-nil}
use Rattle.std.proofs.lemmas.List.Elements.{filter-append}
use Rattle.std.proofs.lemmas.List.Folds.{list_all-append}
use Rattle.lf_faults.specs.declared.fault.Parts.{Parts}
use Rattle.lf_sim.specs.declared.entry.Entry.{Entry}
use Rattle.lf_sim.specs.Runs.{World, is_up}
use Rattle.lf_outcome.specs.declared.formula.Formula.{Formula}
use Rattle.lf_outcome.specs.declared.point.Point.{Point}
use Rattle.lf_outcome.specs.Evidence.{points_up}
use Rattle.lf_outcome.specs.Truth.{all_agree, counts, entered, entries_at, is_down, is_shown, is_shown_where, is_single, is_single_where, points_at}
use Rattle.lf_outcome.specs.Truth.{points_to, reaches, truth}
use Rattle.lf_outcome.specs.Unfolding.{unfolded}
use Rattle.lf_outcome.proofs.EvidenceLemmas.{truth-more}
use Rattle.lf_outcome.proofs.PointsLemmas.{point-of_up}
use Rattle.lf_outcome.proofs.PlacesLemmas.{all_pass, awake-counts, by_test, each-step, fewer-nodes, fewer-steps, iff, in-points, in-points_at, not_so}
use Rattle.lf_outcome.proofs.PlacesLemmas.{one-step, passes, point, points-in, points_at-in, points_at-more, points_to-more}
use Rattle.lf_outcome.proofs.EntriesLemmas.{agree-fewer, entries-carry, entries_at-more, up-where}

-- the points of a run are those that count
module _ {State Note Fact : Type 0} (w : World State Note Fact) (faults : List Parts) (nodes last few end : ℕ)
    (is_few : few ≡ min nodes w.rules.nodes) (is_end : end ≡ min last w.horizon) where
  up-there : (p : Point) → Contains (points_to nodes last) p → is_up w faults p.node p.step ≡ true → Contains (points_to few end) p
  up-there p c up =
      let within = in-points nodes last p c in
      let there = point-of_up w faults p.node p.step up in
      points-in few end p.node p.step (omega (arith, is_few, within.0, there.0)) within.1 (omega (arith, is_end, within.2, there.2))

  still-there : (p : Point) → Contains (points_to few end) p → Contains (points_to nodes last) p
  still-there p c =
      let within = in-points few end p c in
      points-in nodes last p.node p.step (omega (arith, is_few, within.0)) within.1 (omega (arith, is_end, within.2))

  same-single : (topic : ℕ) → all_agree (entries_at (entered w faults topic) (points_to few end)) ≡ is_single w faults nodes last topic
  same-single topic =
      let enters = entered w faults topic in
      iff (all_agree (entries_at enters (points_to few end))) (is_single w faults nodes last topic)
      (agree-fewer (entries_at enters (points_to nodes last)) (entries_at enters (points_to few end))
      (entries-carry enters enters (points_to nodes last) (points_to few end) (λ p e c is.
      (up-there p c (up-where w faults nodes last topic p.node p.step e is), is))))
      (agree-fewer (entries_at enters (points_to few end)) (entries_at enters (points_to nodes last))
      (entries-carry enters enters (points_to few end) (points_to nodes last) (λ p e c is. (still-there p c, is))))

  pub run-single : (topic t : ℕ) (es : List Entry) (b : Bool) → t ≡ end → es ≡ entries_at (entered w faults topic) (points_to few t) → b ≡ all_agree es
      → b ≡ is_single w faults nodes last topic
  run-single topic t es b all is h =
      h ∙ ap all_agree (is ∙ ap (λ u. entries_at (entered w faults topic) (points_to few u)) all) ∙ same-single topic

  -- a test that points pass at which nobody is up
  pub run-within : (test : ℕ → ℕ → Bool) (t : ℕ) → t ≡ end → list_all (λ p. is_down w faults p.node p.step || test p.node p.step) (points_to few t) ≡ true
      → true ≡ list_all (λ p. is_down w faults p.node p.step || test p.node p.step) (points_to nodes last)
  run-within test t all h =
      let ok : Point → Bool = λ p. is_down w faults p.node p.step || test p.node p.step in
      let each : list_all ok (points_to few end) ≡ true = ap (λ u. list_all ok (points_to few u)) (sym all) ∙ h in
      sym (all_pass ok (points_to nodes last) (λ p c. by_test (is_up w faults p.node p.step) (test p.node p.step) (λ up.
      awake-counts (is_up w faults p.node p.step) (test p.node p.step) (passes ok (points_to few end) p each (up-there p c up)) up)))

  asleep : (b : Bool) → (b ≡ true → ⊥) → not (not b) ≡ false
  asleep true h = absurd (h refl)
  asleep false h = refl

  abbrev pub awake : Point → Bool
  awake p = not (is_down w faults p.node p.step)

  same-nodes : (t : ℕ) → filter awake (points_at few t) ≡ filter awake (points_at nodes t)
  same-nodes t = elim (cases_lt w.rules.nodes nodes) [
    | inl less ↦
        let is : few + (nodes - few) ≡ nodes = omega (arith, less, is_few) in
        sym (fewer-nodes awake few t (nodes - few) (λ n low. asleep (is_up w faults n t) (λ up.
        omega (arith, is_few, less, low, (point-of_up w faults n t up).0))))
        ∙ ap (λ n. filter awake (points_at n t)) is
    | inr all ↦ ap (λ n. filter awake (points_at n t)) (omega (arith, all, is_few))
  ]

  same-steps : filter awake (points_to nodes end) ≡ filter awake (points_to nodes last)
  same-steps = elim (cases_lt w.horizon last) [
    | inl less ↦
        let is : end + (last - end) ≡ last = omega (arith, less, is_end) in
        sym (fewer-steps awake nodes end (last - end) (λ n t low. asleep (is_up w faults n t) (λ up.
        omega (arith, is_end, less, low, (point-of_up w faults n t up).2))))
        ∙ ap (λ t. filter awake (points_to nodes t)) is
    | inr all ↦ ap (λ t. filter awake (points_to nodes t)) (omega (arith, all, is_end))
  ]

  pub run-up : (t : ℕ) (before ps : List Point) → t ≡ end → ps ≡ before ++ points_up (is_down w faults) few t
      → ps ≡ before ++ points_up (is_down w faults) nodes last
  run-up t before ps all h =
      h ∙ ap (λ u. before ++ points_up (is_down w faults) few u) all
      ∙ ap (λ qs. before ++ qs) (each-step awake few nodes end same-nodes ∙ same-steps)

-- one node more, and one step more
module _ (enters : ℕ → ℕ → Option Entry) where
  node-entries : (n t : ℕ) → entries_at enters (points_at (n + 1) t) ≡ entries_at enters (points_at n t) ++ option_to_list (enters n t)
  node-entries n t =
      ap (entries_at enters) (points_at-more n t) ∙ entries_at-more enters (points_at n t) (point t n ∷ [])
      ∙ ap (λ es. entries_at enters (points_at n t) ++ es) (append-nil (option_to_list (enters n t)))

  module _ (n t : ℕ) (before sofar : List Entry) (o : Option Entry) (is : o ≡ enters n t) (so : sofar ≡ before ++ entries_at enters (points_at n t)) where
    pub behind : (es : List Entry) → option_to_list (enters n t) ≡ es → sofar ++ es ≡ before ++ entries_at enters (points_at (n + 1) t)
    behind es found =
        ap (λ xs. xs ++ es) so ∙ append_assoc before (entries_at enters (points_at n t)) es
        ∙ ap (λ xs. before ++ xs) (ap (λ xs. entries_at enters (points_at n t) ++ xs) (sym found) ∙ sym (node-entries n t))

    pub enters-one : (e : Entry) (new : List Entry) → o ≡ Some e → new ≡ sofar ++ e ∷ [] → new ≡ before ++ entries_at enters (points_at (n + 1) t)
    enters-one e new one more = more ∙ behind (e ∷ []) (ap option_to_list (sym is ∙ one))

    pub enters-none : o ≡ None → sofar ≡ before ++ entries_at enters (points_at (n + 1) t)
    enters-none none = sym (append-nil sofar) ∙ behind [] (ap option_to_list (sym is ∙ none))

  pub enters-step : (nodes t : ℕ) (sofar new : List Entry) → new ≡ sofar ++ entries_at enters (points_at nodes (t + 1))
      → sofar ≡ entries_at enters (points_to nodes t) → new ≡ entries_at enters (points_to nodes (t + 1))
  enters-step nodes t sofar new more so =
      more ∙ ap (λ es. es ++ entries_at enters (points_at nodes (t + 1))) so
      ∙ sym (ap (entries_at enters) (points_to-more nodes t) ∙ entries_at-more enters (points_to nodes t) (points_at nodes (t + 1)))

module _ (down counted : ℕ → ℕ → Bool) where
  abbrev fine : Point → Bool
  fine p = down p.node p.step || counted p.node p.step

  pub node-fails : (nodes n t : ℕ) → n < nodes → down n t ≡ false → counted n t ≡ false → false ≡ list_all fine (points_at nodes t)
  node-fails nodes n t within up past =
      sym (not_so (list_all fine (points_at nodes t)) (down n t || counted n t)
      (λ h. passes fine (points_at nodes t) (point t n) h (points_at-in nodes t n within))
      (ap (λ b. b || counted n t) up ∙ past))

  pub node-counts : (n t : ℕ) → list_all fine (points_at n t) ≡ true → (down n t || counted n t) ≡ true → list_all fine (points_at (n + 1) t) ≡ true
  node-counts n t before one =
      ap (list_all fine) (points_at-more n t) ∙ list_all-append fine (points_at n t) (point t n ∷ [])
      ∙ and_from (list_all fine (points_at n t)) (list_all fine (point t n ∷ [])) before (and_from (down n t || counted n t) true one refl)

  pub step-counts : (nodes t : ℕ) (b : Bool) → b ≡ list_all fine (points_at nodes (t + 1)) → b ≡ true → list_all fine (points_to nodes t) ≡ true
      → list_all fine (points_to nodes (t + 1)) ≡ true
  step-counts nodes t b tested holds before =
      ap (list_all fine) (points_to-more nodes t) ∙ list_all-append fine (points_to nodes t) (points_at nodes (t + 1))
      ∙ and_from (list_all fine (points_to nodes t)) (list_all fine (points_at nodes (t + 1))) before (sym tested ∙ holds)

module _ (down : ℕ → ℕ → Bool) where
  abbrev is_awake : Point → Bool
  is_awake p = not (down p.node p.step)

  module _ (n t : ℕ) (before sofar : List Point) (so : sofar ≡ before ++ filter is_awake (points_at n t)) where
    behind-them : (ps : List Point) → filter is_awake (point t n ∷ []) ≡ ps → sofar ++ ps ≡ before ++ filter is_awake (points_at (n + 1) t)
    behind-them ps found =
        ap (λ xs. xs ++ ps) so ∙ append_assoc before (filter is_awake (points_at n t)) ps
        ∙ ap (λ xs. before ++ xs) (ap (λ xs. filter is_awake (points_at n t) ++ xs) (sym found)
        ∙ sym (ap (filter is_awake) (points_at-more n t) ∙ filter-append is_awake (points_at n t) (point t n ∷ [])))

    pub node-up : (new : List Point) → down n t ≡ false → new ≡ sofar ++ record { node = n; step = t } ∷ []
        → new ≡ before ++ filter is_awake (points_at (n + 1) t)
    node-up new up more = more ∙ behind-them (point t n ∷ []) (ap (λ b. cond (not b) (point t n ∷ []) []) up)

    pub node-down : down n t ≡ true → sofar ≡ before ++ filter is_awake (points_at (n + 1) t)
    node-down off = sym (append-nil sofar) ∙ behind-them [] (ap (λ b. cond (not b) (point t n ∷ []) []) off)

  pub step-up : (nodes t : ℕ) (before sofar new : List Point) → new ≡ sofar ++ filter is_awake (points_at nodes (t + 1))
      → sofar ≡ before ++ points_up down nodes t → new ≡ before ++ points_up down nodes (t + 1)
  step-up nodes t before sofar new more so =
      more ∙ ap (λ xs. xs ++ filter is_awake (points_at nodes (t + 1))) so
      ∙ append_assoc before (points_up down nodes t) (filter is_awake (points_at nodes (t + 1)))
      ∙ ap (λ xs. before ++ xs) (sym (one-step is_awake nodes t))

-- at a point of the run that is past the reach
module _ {State Note Fact : Type 0} (w : World State Note Fact) (faults : List Parts) (nodes last few end : ℕ)
    (is_few : few ≡ min nodes w.rules.nodes) (is_end : end ≡ min last w.horizon) (counted : ℕ → ℕ → Bool) where
  abbrev fit : Point → Bool
  fit p = is_down w faults p.node p.step || counted p.node p.step

  pub step-fails : (t : ℕ) (b : Bool) → t < end → b ≡ list_all fit (points_at few (t + 1)) → b ≡ false → false ≡ list_all fit (points_to nodes last)
  step-fails t b below tested fails =
      sym (not_so (list_all fit (points_to nodes last)) (list_all fit (points_at few (t + 1)))
      (λ h. all_pass fit (points_at few (t + 1)) (λ p c.
      let there = in-points_at few (t + 1) p c in
      passes fit (points_to nodes last) p h (still-there w faults nodes last few end is_few is_end p
      (points-in few end p.node p.step there.0 (omega (arith, there.1)) (omega (arith, there.1, below))))))
      (sym tested ∙ fails))

-- what is told of whether a node is up
pub off : (told up : Bool) → told ≡ up → told ≡ false → not up ≡ true
off told up is h = ap not (sym is ∙ h)

pub on : (told up : Bool) → told ≡ up → told ≡ true → not up ≡ false
on told up is h = ap not (sym is ∙ h)

pub told-so : (a b c : Bool) → a ≡ b → a ≡ c → b ≡ c
told-so a b c is h = sym is ∙ h

pub at-most : (few all told kept most : ℕ) → few ≡ min all told → told ≡ kept → kept ≡ most → few ≡ min all most
at-most few all told kept most least is same = least ∙ ap (min all) (is ∙ same)

-- where each point counts, truth is truth
pub true-anywhere : {State Note Fact : Type 0} (w : World State Note Fact) (faults : List Parts) (f : Formula Fact) (b : Bool)
    → b ≡ truth (is_down w faults) (is_shown_where w faults None) (is_single_where w faults None) (unfolded f) → b ≡ reaches w faults f
true-anywhere w faults f b h =
    let down = is_down w faults in
    let all_count : ℕ → ℕ → Bool = λ nodes last. list_all (λ p. is_down w faults p.node p.step || counts None p.node p.step) (points_to nodes last) in
    h ∙ iff (truth down (is_shown_where w faults None) (is_single_where w faults None) (unfolded f)) (reaches w faults f)
    (truth-more down down (is_shown_where w faults None) (is_shown w faults) (is_single_where w faults None) (is_single w faults)
    (λ n t e. e) (λ n t fact e. e) (λ nodes last topic e. (and_parts (all_count nodes last) (is_single w faults nodes last topic) e).1) (unfolded f))
    (truth-more down down (is_shown w faults) (is_shown_where w faults None) (is_single w faults) (is_single_where w faults None)
    (λ n t e. e) (λ n t fact e. e) (λ nodes last topic e. and_from (all_count nodes last) (is_single w faults nodes last topic)
    (all_pass (λ p. is_down w faults p.node p.step || counts None p.node p.step) (points_to nodes last)
    (λ p c. or_right (is_down w faults p.node p.step) true refl)) e) (unfolded f))

pub all-anywhere : {State Note Fact : Type 0} (w : World State Note Fact) (faults : List Parts) (limit : Option (List ℕ)) (nodes last : ℕ) (b : Bool)
    → is_some limit ≡ not b → b ≡ true → true ≡ list_all (λ p. is_down w faults p.node p.step || counts limit p.node p.step) (points_to nodes last)
all-anywhere w faults None nodes last b told is =
    sym (all_pass (λ p. is_down w faults p.node p.step || counts None p.node p.step) (points_to nodes last)
    (λ p c. or_right (is_down w faults p.node p.step) true refl))
all-anywhere w faults (Some reach) nodes last b told is = absurd (false≢true (sym (told ∙ ap not is)))
