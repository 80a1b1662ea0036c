-- A run on its way from one set of faults to another, point by point.
use Rattle.std.proofs.Common.{◌≡◌, ℕ, zero, suc, ◌+◌, ◌-◌, ◌<◌, ◌≤◌, Bool, true, false, List, refl, sym, ap, subst, ◌∙◌, arith, inl, inr, add-one}
use Rattle.std.specs.Prelude.{◌≢◌, ◌⊎◌, Some}
use Rattle.std.specs.Option.{option_map}
use Rattle.std.specs.List.{Contains}
use Rattle.std.proofs.lemmas.Bool.{both_ways, cases_Bool, cases_lt}
use Rattle.std.proofs.lemmas.Bool.Decides.{eqb_tells}
use Rattle.lf_faults.specs.declared.fault.Parts.{Parts}
use Rattle.lf_faults.specs.declared.fault.Parts.TheVariants.{Omit, Crash, Pause}
use Rattle.lf_faults.specs.Faults.{set_omits}
use Rattle.lf_sim.specs.declared.record.Run.{Run}
use Rattle.lf_sim.specs.declared.out.Stepped.{Stepped}
use Rattle.lf_sim.specs.Outs.{note_to}
use Rattle.lf_sim.specs.Runs.{World, did, view, sent}
use Rattle.lf_sim.specs.Settings.{HasSize, IsRun, cell_of, sent_of, set_of, state_of}
use Rattle.lf_sim.proofs.Laws as laws
use Rattle.lf_sim.specs.Marks.{is_marked}
use Rattle.lf_sim.specs.Changes.{AreMarked, AreSameBut, Covers, Ignores, IsOnItsWay, IsSameAt, IsSpared, IsUnchanged, Stops, Touches}
use Rattle.lf_sim.proofs.ChangesLemmas.{did-kept, same-at}
use Rattle.lf_sim.proofs.MarksLemmas.{unmarked-before}

module _ {State Note Fact : Type 0} (w : World State Note Fact) (from to : List Parts) where
  touched : (m u : ℕ) (f : Parts) → Stops w m u f → Touches w m u f
  touched m u (Omit node other step) says = absurd says
  touched m u (Crash node step) says = says
  touched m u (Pause node step) says = says

  -- an omission is in both or in neither, or it doesn't matter
  omitted : (D : Type 0) (n m t : ℕ)
      → (Contains from (Omit n m t) → Contains to (Omit n m t) ⊎ D) → (Contains to (Omit n m t) → Contains from (Omit n m t) ⊎ D)
      → D ⊎ (set_omits from n m t ≡ set_omits to n m t)
  omitted D n m t f g = elim (cases_Bool (set_omits from n m t)) [
    | inl a ↦ elim (f (laws.omitted-contains from n m t a)) [
      | inl c ↦ inr (a ∙ sym (laws.contains-omitted to n m t c))
      | inr d ↦ inl d
    ]
    | inr a ↦ elim (cases_Bool (set_omits to n m t)) [
      | inl b ↦ elim (g (laws.omitted-contains to n m t b)) [
        | inl c ↦ absurd (both_ways (set_omits from n m t) a (laws.contains-omitted from n m t c))
        | inr d ↦ inl d
      ]
      | inr b ↦ inr (a ∙ sym b)
    ]
  ]

module _ {M State Note Fact : Type 0} (w : World State Note Fact) (from to : List Parts) where
  -- at its start it is the run of the first set, under the name of the second
  pub way_start : (old new : Run M State Note Fact) → IsRun w old → set_of old ≡ from → set_of new ≡ to → HasSize w new
      → ((n t : ℕ) → cell_of new n t ≡ cell_of old n t) → IsOnItsWay w from to new 1 0
  way_start old new run named renamed size kept =
      let each : (n t : ℕ) → n < w.rules.nodes → t ≤ w.horizon → cell_of new n t ≡ Some (did w from n t) =
      λ n t node last. kept n t ∙ run.each n t node last ∙ ap (λ F. Some (did w F n t)) named in
      record {
        size = size;
        set = renamed;
        done = λ m s node early.
            let zero' : s ≡ 0 = omega (arith, early) in
            subst (λ k. cell_of new m k ≡ Some (did w to m k)) (sym zero')
            (each m 0 node (omega arith) ∙ ap Some (laws.did-zero w from m ∙ sym (laws.did-zero w to m)));
        here = λ m node none. absurd (omega (arith, none));
        next = λ m node late last. each m 1 node last;
        left = λ m s node late last. each m s node last;
      }

  -- what is in the one set is in the other too, of crashes and pauses
  stopped : (run : Run M State Note Fact) (others : List Parts) (m u : ℕ) (f : Parts) → Stops w m u f → Contains others f ⊎ IsSpared w to run m u f
      → Contains others f
  stopped run others m u (Omit node other step) says h = absurd says
  stopped run others m u (Crash node step) says h = elim h [ inl c ↦ c | inr b ↦ absurd b ]
  stopped run others m u (Pause node step) says h = elim h [ inl c ↦ c | inr b ↦ absurd b ]

  -- a node ignores its letters from the state that another run has there too
  ignores-moved : (old new : Run M State Note Fact) (m u : ℕ) → ((v : ℕ) → u ≡ v + 1 → state_of old m v ≡ state_of new m v) → Ignores w to m u old
      → Ignores w to m u new
  ignores-moved old new m u same ignores v last e told = ignores v last e (same v e ∙ told)

  pub covers_start : (old new : Run M State Note Fact) (points : List Bool) → IsRun w old → set_of old ≡ from
      → ((n t : ℕ) → cell_of new n t ≡ cell_of old n t) → AreMarked w to old from to points → AreMarked w to old to from points → Covers w from to new points
  covers_start old new points run named kept one other m u node first last free =
      let each : (n t : ℕ) → n < w.rules.nodes → t ≤ w.horizon → cell_of new n t ≡ Some (did w from n t) =
      λ n t inside late. kept n t ∙ run.each n t inside late ∙ ap (λ F. Some (did w F n t)) named in
      let move : Ignores w to m u old → Ignores w to m u new =
      ignores-moved old new m u (λ v e. ap (option_map (λ (c : Stepped _ _). c.state)) (sym (kept m v))) in
      record {
        stops = λ f says. (
          λ c. stopped old to m u f says (one f c m u node first last (touched w from to m u f says) free),
          λ c. stopped old from m u f says (other f c m u node first last (touched w from to m u f says) free),
        );
        last = λ t e. ap (option_map (λ c. c.state)) (each m t node (omega (arith, e, last)));
        heard = λ n t inside apart begun early arrives.
            let says : Touches w m u (Omit n m t) = (inside, apart, refl, early, arrives) in
            elim (omitted w from to (Ignores w to m u old) n m t
            (λ c. one (Omit n m t) c m u node first last says free) (λ c. other (Omit n m t) c m u node first last says free)) [
              | inl deaf ↦ inl (move deaf)
              | inr same ↦ inr (same, ap (option_map (λ (c : Stepped _ _). note_to c.out m)) (each n t inside (omega (arith, early, last))))
            ];
      }

  module _ (run : Run M State Note Fact) (points : List Bool) (t : ℕ) (first : 1 ≤ t) (last : t ≤ w.horizon) (covers : Covers w from to run points) where
    -- what comes out at a point that isn't marked is the same in both
    unmarked-same : (n : ℕ) → n < w.rules.nodes → is_marked points n t ≡ false → ((m s : ℕ) → m < w.rules.nodes → s < t → cell_of run m s ≡ Some (did w to m s))
        → did w from n t ≡ did w to n t
    unmarked-same n node free done =
        let e : t - 1 + 1 ≡ t = omega (arith, first) in
        subst (λ k. IsUnchanged w from to run n k → ((m s : ℕ) → m < w.rules.nodes → s < k → cell_of run m s ≡ Some (did w to m s))
        → did w from n k ≡ did w to n k) e
        (λ same known. did-kept w from to run n (t - 1) same known node) (covers n t node first last free) done

    pub way_pass : (n : ℕ) → n < w.rules.nodes → is_marked points n t ≡ false → IsOnItsWay w from to run t n → IsOnItsWay w from to run t (n + 1)
    way_pass n node free way = record {
      size = way.size;
      set = way.set;
      done = way.done;
      here = λ m inside early. elim (cases_lt m n) [
        | inl before ↦ way.here m inside before
        | inr after ↦
            let same : n ≡ m = omega (arith, after, early) in
            subst (λ k. cell_of run k t ≡ Some (did w to k t)) same
            (way.next n node (omega arith) last ∙ ap Some (unmarked-same n node free way.done))
      ];
      next = λ m inside late. way.next m inside (omega (arith, late));
      left = way.left;
    }

    pub way_row : ((n : ℕ) → n < w.rules.nodes → is_marked points n t ≡ false) → IsOnItsWay w from to run t 0 → (n : ℕ) → n ≤ w.rules.nodes
        → IsOnItsWay w from to run t n
    way_row free way zero h = way
    way_row free way (suc n) h =
        rw (← add-one n) (way_pass n (omega (arith, h)) (free n (omega (arith, h))) (way_row free way n (omega (arith, h))))

  -- a step is done where all its nodes are
  pub way_next : (run : Run M State Note Fact) (t n : ℕ) → n ≡ w.rules.nodes → IsOnItsWay w from to run t n → IsOnItsWay w from to run (t + 1) 0
  way_next run t n all way = record {
    size = way.size;
    set = way.set;
    done = λ m s node early. elim (cases_lt s t) [
      | inl before ↦ way.done m s node before
      | inr after ↦
          let same : t ≡ s = omega (arith, after, early) in
          subst (λ k. cell_of run m k ≡ Some (did w to m k)) same (way.here m node (omega (arith, node, all)))
    ];
    here = λ m node none. absurd (omega (arith, none));
    next = λ m node late last. way.left m (t + 1) node (omega arith) last;
    left = λ m s node late last. way.left m s node (omega (arith, late)) last;
  }

  -- at its end it is the run of the second set
  pub way_end : (run : Run M State Note Fact) (t : ℕ) → w.horizon < t → IsOnItsWay w from to run t 0 → IsRun w run
  way_end run t late way = record {
    nodes = way.size.nodes;
    horizon = way.size.horizon;
    pause_length = way.size.pause_length;
    each = λ n s node last. way.done n s node (omega (arith, late, last)) ∙ ap (λ F. Some (did w F n s)) (sym way.set);
  }

  -- a point is worked again
  module _ (old new : Run M State Note Fact) (n t : ℕ) (node : n < w.rules.nodes) (last : t ≤ w.horizon)
      (others : (m s : ℕ) → m < w.rules.nodes → s ≤ w.horizon → (m ≡ n → s ≡ t → ⊥) → cell_of new m s ≡ cell_of old m s) where
    pub way_worked : HasSize w new → set_of new ≡ set_of old → cell_of new n t ≡ Some (did w to n t) → IsOnItsWay w from to old t n
        → IsOnItsWay w from to new t (n + 1)
    way_worked size named there way = record {
      size = size;
      set = named ∙ way.set;
      done = λ m s inside early. others m s inside (omega (arith, early, last)) (λ a b. omega (arith, b, early)) ∙ way.done m s inside early;
      here = λ m inside early. elim (cases_lt m n) [
        | inl before ↦ others m t inside last (λ a b. omega (arith, a, before)) ∙ way.here m inside before
        | inr after ↦
            let same : n ≡ m = omega (arith, after, early) in
            subst (λ k. cell_of new k t ≡ Some (did w to k t)) same there
      ];
      next = λ m inside late near. others m t inside near (λ a b. omega (arith, a, late)) ∙ way.next m inside (omega (arith, late)) near;
      left = λ m s inside late near. others m s inside near (λ a b. omega (arith, b, late)) ∙ way.left m s inside late near;
    }

    pub covers_worked : (before after : List Bool) (stood turn : Stepped State Note)
        → Covers w from to old before
        → stood ≡ did w from n t → cell_of new n t ≡ Some turn
        → ((m u : ℕ) → is_marked before m u ≡ true → is_marked after m u ≡ true)
        → (is_marked after n (t + 1) ≡ false → stood.state ≡ turn.state)
        → ((m : ℕ) → m < w.rules.nodes → n ≢ m → w.arrival n m t ≤ w.horizon → is_marked after m (w.arrival n m t) ≡ false
        → Ignores w to m (w.arrival n m t) new ⊎ (note_to stood.out m ≡ note_to turn.out m))
        → Covers w from to new after
    covers_worked before after stood turn covers was there kept state notes m u inside first near free =
        let old' = covers m u inside first near (unmarked-before before after m u (kept m u) free) in
        let from-others : (k s : ℕ) → k < w.rules.nodes → s ≤ w.horizon → (k ≡ n → s ≡ t → ⊥) → cell_of new k s ≡ cell_of old k s = others in
        let lasts : (v : ℕ) → u ≡ v + 1 → state_of new m v ≡ Some (view w from m v) = λ v e. elim (eqb_tells m n) [
          | inr other ↦ ap (option_map (λ c. c.state)) (from-others m v inside (omega (arith, e, near)) (λ a b. other.1 a)) ∙ old'.last v e
          | inl same ↦ elim (eqb_tells v t) [
            | inr later ↦ ap (option_map (λ c. c.state)) (from-others m v inside (omega (arith, e, near)) (λ a b. later.1 b)) ∙ old'.last v e
            | inl now ↦
                let here : is_marked after n (t + 1) ≡ false =
                subst (λ k. is_marked after k (t + 1) ≡ false) same.1 (subst (λ k. is_marked after m k ≡ false) (omega (arith, e, now.1)) free) in
                let told : state_of new n t ≡ Some (view w from n t) =
                ap (option_map (λ c. c.state)) there ∙ ap Some (sym (state here) ∙ ap (λ (c : Stepped _ _). c.state) was) in
                subst (λ k. state_of new k v ≡ Some (view w from k v)) (sym same.1) (subst (λ s. state_of new n s ≡ Some (view w from n s)) (sym now.1) told)
          ]
        ] in
        let move : Ignores w to m u old → Ignores w to m u new = ignores-moved old new m u (λ v e. old'.last v e ∙ sym (lasts v e)) in
        record {
          stops = old'.stops;
          last = lasts;
          heard = λ k s sender apart begun early arrives. elim (old'.heard k s sender apart begun early arrives) [
            | inl deaf ↦ inl (move deaf)
            | inr both ↦ elim (eqb_tells k n) [
              | inr other ↦
                  inr (
                    both.0,
                    ap (option_map (λ (c : Stepped _ _). note_to c.out m)) (from-others k s sender (omega (arith, early, near)) (λ a b. other.1 a))
                        ∙ both.1,
                  )
              | inl same ↦ elim (eqb_tells s t) [
                | inr later ↦
                    inr (
                      both.0,
                      ap (option_map (λ (c : Stepped _ _). note_to c.out m)) (from-others k s sender (omega (arith, early, near)) (λ a b. later.1 b))
                          ∙ both.1,
                    )
                | inl now ↦
                    let comes : w.arrival n m t ≡ u = subst (λ i. w.arrival i m t ≡ u) same.1 (subst (λ i. w.arrival k m i ≡ u) now.1 arrives) in
                    elim (notes m inside (λ e. apart (same.1 ∙ e)) (omega (arith, comes, near)) (subst (λ i. is_marked after m i ≡ false) (sym comes) free)) [
                      | inl deaf ↦ inl (subst (λ i. Ignores w to m i new) comes deaf)
                      | inr note ↦
                          let told : sent_of new n m t ≡ Some (sent w from n m t) =
                          ap (option_map (λ (c : Stepped _ _). note_to c.out m)) there
                          ∙ ap Some (sym note ∙ ap (λ (c : Stepped _ _). note_to c.out m) was) in
                          inr (
                            both.0,
                            subst (λ i. sent_of new i m s ≡ Some (sent w from i m s)) (sym same.1)
                                (subst (λ i. sent_of new n m i ≡ Some (sent w from n m i)) (sym now.1) told),
                          )
                    ]
              ]
            ]
          ];
        }

-- the points that aren't marked in the end: what comes out there is the same
pub same-but : {M State Note Fact : Type 0} (w : World State Note Fact) (from to : List Parts) (run : Run M State Note Fact) (points : List Bool)
    → IsOnItsWay w from to run (w.horizon + 1) 0 → Covers w from to run points → AreSameBut w from to points
same-but w from to run points way covers n zero node first last free = absurd (omega (arith, first))
same-but w from to run points way covers n (suc v) node first last free =
    let next : v + 1 ≡ suc v = omega arith in
    subst (IsSameAt w from to n) next
    (same-at w from to run n v (subst (IsUnchanged w from to run n) (sym next) (covers n (suc v) node first last free))
    (λ m s inside early. way.done m s inside (omega (arith, early, last))) node)
