-- The formulas of the named outcomes, as they are built, and what they say of each node.
use Rattle.std.proofs.Common.{◌≡◌, ◌⊎◌, ◌↔◌, ℕ, zero, suc, ◌+◌, ◌<◌, ◌≤◌, Bool, true, false, not, ◌&&◌}
use Rattle.std.proofs.Common.{◌||◌, List, [], ◌∷◌, ◌++◌, refl, sym, ap, ◌∙◌, map, zero-add, inl, inr, arith}
use Rattle.std.specs.List.{range_with_len, list_all}
use Rattle.std.proofs.lemmas.Bool.{and_parts, and_from, or_cases, or_left, or_right, cases_lt}
use Rattle.std.proofs.lemmas.List.Folds.{list_all-map}
use Rattle.std.proofs.lemmas.List.FromFn.{map-range_with_len_more}
use Rattle.lf_faults.specs.declared.fault.Parts.{Parts}
use Rattle.lf_protocols.specs.declared.fact.Fact.{Fact}
use Rattle.lf_protocols.specs.declared.fact.Fact.TheVariants.{Has, Lacks, NotCommitted, NotAborted, Free, Backup, NotDone, Holds}
use Rattle.lf_sim.specs.Runs.{World, is_up, view}
use Rattle.lf_outcome.specs.declared.formula.Formula.{Formula}
use Rattle.lf_outcome.specs.declared.formula.Formula.TheVariants as kind
use Rattle.lf_outcome.specs.declared.outcome.Outcome.TheVariants.{Delivered, Agreement, Unblocked, OnePrimary, Durable}
use Rattle.lf_outcome.specs.Named.{shows_or_down, each_shows, formula_of, AllUpShow, UpShows}
use Rattle.lf_outcome.specs.Truth.{is_down, is_shown, is_single, reaches}
use Rattle.lf_outcome.proofs.TruthLemmas.{said-All, said-Any, said-Down, said-Shows}

-- one more at the end of a disjunction
or_false : (b : Bool) → (b || false) ≡ b
or_false true = refl
or_false false = refl

-- one node more
pub each-more : {Fact : Type 0} (t n : ℕ) (fact : Fact) (sofar next either one none : List (Formula Fact))
    → none ≡ [] → one ≡ none ++ kind.Down n t ∷ [] → either ≡ one ++ kind.Shows n t fact ∷ [] → next ≡ sofar ++ kind.Any either ∷ []
    → sofar ≡ map (shows_or_down t fact) (range_with_len 0 n)
    → next ≡ map (shows_or_down t fact) (range_with_len 0 (n + 1))
each-more {Fact = Fact} t n fact sofar next either one none begins first second pushed before =
    let parts : either ≡ kind.Down n t ∷ kind.Shows n t fact ∷ [] = rw (second, first, begins) refl in
    pushed ∙ ap (λ (xs : List (Formula Fact)). xs ++ kind.Any either ∷ []) before
    ∙ ap (λ (xs : List (Formula Fact)). map (shows_or_down t fact) (range_with_len 0 n) ++ kind.Any xs ∷ []) parts
    ∙ sym (map-range_with_len_more (shows_or_down t fact) 0 n n (zero-add n))

-- a test of all numbers of a range
module _ (p : ℕ → Bool) where
  range-then : (n a : ℕ) → list_all p (range_with_len a n) ≡ true → (k : ℕ) → a ≤ k → k < a + n → p k ≡ true
  range-then zero a h k low high = absurd (omega arith)
  range-then (suc n) a h k low high =
      let parts = and_parts (p a) (list_all p (range_with_len (a + 1) n)) h in
      elim (cases_lt a k) [
        | inl later ↦ range-then n (a + 1) parts.1 k (omega (arith, later)) (omega (arith, high))
        | inr first ↦
            let same : a ≡ k = omega (arith, low, first) in
            ap p (sym same) ∙ parts.0
      ]

  range-from : (n a : ℕ) → ((k : ℕ) → a ≤ k → k < a + n → p k ≡ true) → list_all p (range_with_len a n) ≡ true
  range-from zero a h = refl
  range-from (suc n) a h =
      and_from (p a) (list_all p (range_with_len (a + 1) n)) (h a (omega arith) (omega arith))
      (range-from n (a + 1) (λ k low high. h k (omega arith) (omega arith)))

either-then : (u s : Bool) → (not u || ((u && s) || false)) ≡ true → u ≡ true → s ≡ true
either-then true true h up = refl
either-then true false h up = h
either-then false s h up = absurd cc

either-from : (u s : Bool) → (u ≡ true → s ≡ true) → (not u || ((u && s) || false)) ≡ true
either-from true true h = refl
either-from true false h = h refl
either-from false s h = refl

module _ {State Note F : Type 0} (w : World State Note F) (faults : List Parts) where
  at_node : (n t : ℕ) (fact : F)
      → reaches w faults (shows_or_down t fact n)
      ≡ (not (is_up w faults n t) || ((is_up w faults n t && w.rules.shows n (view w faults n t) fact) || false))
  at_node n t fact =
      let D = is_down w faults in
      let S = is_shown w faults in
      said-Any D S (is_single w faults) (kind.Down n t ∷ kind.Shows n t fact ∷ [])
      ∙ ap (λ b. b || (reaches w faults (kind.Shows n t fact) || false)) (said-Down D S (is_single w faults) n t)
      ∙ ap (λ b. not (is_up w faults n t) || (b || false)) (said-Shows D S (is_single w faults) n t fact)

  each_of : (nodes t : ℕ) (fact : F)
      → reaches w faults (each_shows nodes t fact) ≡ list_all (λ n. reaches w faults (shows_or_down t fact n)) (range_with_len 0 nodes)
  each_of nodes t fact =
      said-All (is_down w faults) (is_shown w faults) (is_single w faults) (map (shows_or_down t fact) (range_with_len 0 nodes))
      ∙ list_all-map (reaches w faults) (shows_or_down t fact) (range_with_len 0 nodes)

  each-then : (nodes t : ℕ) (fact : F) → reaches w faults (each_shows nodes t fact) ≡ true → AllUpShow w faults nodes t fact
  each-then nodes t fact h n below up =
      either-then (is_up w faults n t) (w.rules.shows n (view w faults n t) fact)
      (sym (at_node n t fact)
      ∙ range-then (λ m. reaches w faults (shows_or_down t fact m)) nodes 0 (sym (each_of nodes t fact) ∙ h) n (omega arith) (omega arith))
      up

  each-from : (nodes t : ℕ) (fact : F) → AllUpShow w faults nodes t fact → reaches w faults (each_shows nodes t fact) ≡ true
  each-from nodes t fact h =
      each_of nodes t fact
      ∙ range-from (λ m. reaches w faults (shows_or_down t fact m)) nodes 0
      (λ n low high. at_node n t fact
      ∙ either-from (is_up w faults n t) (w.rules.shows n (view w faults n t) fact) (h n (omega arith)))

-- where node 0 and node 1 are up, node 1 shows it
one-then : (u v s : Bool) → (not u || (not v || ((v && s) || false))) ≡ true → u ≡ true → v ≡ true → s ≡ true
one-then true true true h zero_up one_up = refl
one-then true true false h zero_up one_up = h
one-then true false s h zero_up one_up = absurd cc
one-then false v s h zero_up one_up = absurd cc

one-from : (u v s : Bool) → (u ≡ true → v ≡ true → s ≡ true) → (not u || (not v || ((v && s) || false))) ≡ true
one-from true true true h = refl
one-from true true false h = h refl refl
one-from true false s h = refl
one-from false v s h = refl

-- where node 2 is up and doesn't show the one, node 0 or node 1 is up and shows the other
kept-then : (u s a h b k : Bool) → (not u || ((u && s) || ((a && h) || ((b && k) || false)))) ≡ true → u ≡ true → s ≡ false →
    ((a ≡ true) × (h ≡ true)) ⊎ ((b ≡ true) × (k ≡ true))
kept-then true false true true b k e up told = inl (refl, refl)
kept-then true false a h true true e up told = inr (refl, refl)
kept-then true false true false true false e up told = absurd cc
kept-then true false true false false k e up told = absurd cc
kept-then true false false h true false e up told = absurd cc
kept-then true false false h false k e up told = absurd cc
kept-then true true a h b k e up told = absurd cc
kept-then false s a h b k e up told = absurd cc

both : (a h : Bool) → (a ≡ true) × (h ≡ true) → (a && h) ≡ true
both a h p = and_from a h p.0 p.1

kept-from : (u s a h b k : Bool) → (u ≡ true → s ≡ false → ((a ≡ true) × (h ≡ true)) ⊎ ((b ≡ true) × (k ≡ true))) →
    (not u || ((u && s) || ((a && h) || ((b && k) || false)))) ≡ true
kept-from false s a h b k f = refl
kept-from true true a h b k f = refl
kept-from true false a h b k f = elim (f refl refl) [
  | inl p ↦ or_left (a && h) ((b && k) || false) (both a h p)
  | inr p ↦ or_right (a && h) ((b && k) || false) (or_left (b && k) false (both b k p))
]

-- all that are up show the one fact, or all of them show the other
module _ {State Note : Type 0} (w : World State Note Fact) (faults : List Parts) (nodes t : ℕ) where
  either-each : (a b : Fact) → (reaches w faults (kind.Any (each_shows nodes t a ∷ each_shows nodes t b ∷ [])) ≡ true)
      ↔ (AllUpShow w faults nodes t a ⊎ AllUpShow w faults nodes t b)
  either-each a b =
      let A = reaches w faults (each_shows nodes t a) in
      let B = reaches w faults (each_shows nodes t b) in
      let two : reaches w faults (kind.Any (each_shows nodes t a ∷ each_shows nodes t b ∷ [])) ≡ (A || (B || false)) =
      said-Any (is_down w faults) (is_shown w faults) (is_single w faults) (each_shows nodes t a ∷ each_shows nodes t b ∷ []) in (
        (λ h. elim (or_cases A (B || false) (sym two ∙ h)) [
          | inl one ↦ inl (each-then w faults nodes t a one)
          | inr other ↦ inr (each-then w faults nodes t b (sym (or_false B) ∙ other))
        ]),
        (λ h. two ∙ elim h [
          | inl one ↦ or_left A (B || false) (each-from w faults nodes t a one)
          | inr other ↦ or_right A (B || false) (or_left B false (each-from w faults nodes t b other))
        ]),
      )

  pub delivered : (reaches w faults (formula_of Delivered nodes t) ≡ true) ↔ (AllUpShow w faults nodes t Has ⊎ AllUpShow w faults nodes t Lacks)
  delivered = either-each Has Lacks

  pub agreement : (reaches w faults (formula_of Agreement nodes t) ≡ true) ↔ (AllUpShow w faults nodes t NotCommitted ⊎ AllUpShow w faults nodes t NotAborted)
  agreement = either-each NotCommitted NotAborted

  pub unblocked : (reaches w faults (formula_of Unblocked nodes t) ≡ true) ↔ AllUpShow w faults nodes t Free
  unblocked = (each-then w faults nodes t Free, each-from w faults nodes t Free)

  -- the truth of an atom
  down_at : (n : ℕ) → reaches w faults (kind.Down n t) ≡ not (is_up w faults n t)
  down_at n = said-Down (is_down w faults) (is_shown w faults) (is_single w faults) n t

  shows_at : (n : ℕ) (fact : Fact) → reaches w faults (kind.Shows n t fact) ≡ (is_up w faults n t && w.rules.shows n (view w faults n t) fact)
  shows_at n fact = said-Shows (is_down w faults) (is_shown w faults) (is_single w faults) n t fact

  primary_of : reaches w faults (formula_of OnePrimary nodes t)
      ≡ (not (is_up w faults 0 t) || (not (is_up w faults 1 t) || ((is_up w faults 1 t && w.rules.shows 1 (view w faults 1 t) Backup) || false)))
  primary_of =
      said-Any (is_down w faults) (is_shown w faults) (is_single w faults) (kind.Down 0 t ∷ kind.Down 1 t ∷ kind.Shows 1 t Backup ∷ [])
      ∙ ap (λ b. b || (reaches w faults (kind.Down 1 t) || (reaches w faults (kind.Shows 1 t Backup) || false))) (down_at 0)
      ∙ ap (λ b. not (is_up w faults 0 t) || (b || (reaches w faults (kind.Shows 1 t Backup) || false))) (down_at 1)
      ∙ ap (λ b. not (is_up w faults 0 t) || (not (is_up w faults 1 t) || (b || false))) (shows_at 1 Backup)

  pub one_primary : (reaches w faults (formula_of OnePrimary nodes t) ≡ true)
      ↔ (is_up w faults 0 t ≡ true → is_up w faults 1 t ≡ true → w.rules.shows 1 (view w faults 1 t) Backup ≡ true)
  one_primary = (
    (λ h zero_up one_up. one-then (is_up w faults 0 t) (is_up w faults 1 t) (w.rules.shows 1 (view w faults 1 t) Backup) (sym primary_of ∙ h) zero_up one_up),
    (λ h. primary_of ∙ one-from (is_up w faults 0 t) (is_up w faults 1 t) (w.rules.shows 1 (view w faults 1 t) Backup) h),
  )

  durable_of : reaches w faults (formula_of Durable nodes t)
      ≡ (not (is_up w faults 2 t) || ((is_up w faults 2 t && w.rules.shows 2 (view w faults 2 t) NotDone)
      || ((is_up w faults 0 t && w.rules.shows 0 (view w faults 0 t) Holds) || ((is_up w faults 1 t && w.rules.shows 1 (view w faults 1 t) Holds) || false))))
  durable_of =
      let R : Formula Fact → Bool = reaches w faults in
      let up : ℕ → Bool = λ n. is_up w faults n t in
      let told = up 2 && w.rules.shows 2 (view w faults 2 t) NotDone in
      let zero_holds = up 0 && w.rules.shows 0 (view w faults 0 t) Holds in
      said-Any (is_down w faults) (is_shown w faults) (is_single w faults)
      (kind.Down 2 t ∷ kind.Shows 2 t NotDone ∷ kind.Shows 0 t Holds ∷ kind.Shows 1 t Holds ∷ [])
      ∙ ap (λ b. b || (R (kind.Shows 2 t NotDone) || (R (kind.Shows 0 t Holds) || (R (kind.Shows 1 t Holds) || false)))) (down_at 2)
      ∙ ap (λ b. not (up 2) || (b || (R (kind.Shows 0 t Holds) || (R (kind.Shows 1 t Holds) || false)))) (shows_at 2 NotDone)
      ∙ ap (λ b. not (up 2) || (told || (b || (R (kind.Shows 1 t Holds) || false)))) (shows_at 0 Holds)
      ∙ ap (λ b. not (up 2) || (told || (zero_holds || (b || false)))) (shows_at 1 Holds)

  pub durable : (reaches w faults (formula_of Durable nodes t) ≡ true)
      ↔ (is_up w faults 2 t ≡ true → w.rules.shows 2 (view w faults 2 t) NotDone ≡ false →
      (UpShows w faults 0 t Holds ⊎ UpShows w faults 1 t Holds))
  durable = (
    (λ h up told. kept-then (is_up w faults 2 t) (w.rules.shows 2 (view w faults 2 t) NotDone)
        (is_up w faults 0 t) (w.rules.shows 0 (view w faults 0 t) Holds) (is_up w faults 1 t) (w.rules.shows 1 (view w faults 1 t) Holds)
        (sym durable_of ∙ h) up told),
    (λ h. durable_of ∙ kept-from (is_up w faults 2 t) (w.rules.shows 2 (view w faults 2 t) NotDone)
        (is_up w faults 0 t) (w.rules.shows 0 (view w faults 0 t) Holds) (is_up w faults 1 t) (w.rules.shows 1 (view w faults 1 t) Holds) h),
  )
