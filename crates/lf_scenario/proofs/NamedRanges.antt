-- The formulas of the named outcomes are in range.
use Rattle.std.proofs.Common.{◌≡◌, ℕ, zero, suc, ◌+◌, ◌*◌, ◌<◌, ◌≤◌, Bool, true, ◌&&◌, List, [], ◌∷◌, refl, sym, ap, ◌∙◌, map, max, inl, inr, arith}
use Rattle.std.specs.Prelude.{nat_le, nat_lt}
use Rattle.std.specs.List.{AllByRecursion, fold, range_with_len, list_all}
use Rattle.std.proofs.lemmas.Bool.{and_from, lt-ltb, le-leb}
use Rattle.std.proofs.lemmas.List.Folds.{list_all-map}
use Rattle.lf_faults.specs.Allowed.{IsInLimits}
use Rattle.lf_faults.specs.declared.spec.Bounds.{Bounds}
use Rattle.lf_protocols.specs.declared.fact.Fact.{Fact}
use Rattle.lf_protocols.specs.declared.fact.Fact.TheVariants.{Has, Lacks, NotCommitted, NotAborted, Free, Backup, NotDone, Holds}
use Rattle.lf_protocols.specs.declared.protocol.Kind.{Kind}
use Rattle.lf_protocols.specs.declared.protocol.Kind.TheVariants as kinds
use Rattle.lf_protocols.specs.Limits.{IsWithinLimits}
use Rattle.lf_protocols.specs.Protocols.{nodes_of}
use Rattle.lf_outcome.specs.declared.formula.Formula.{Formula, fold-roll-Formula}
use Rattle.lf_outcome.specs.declared.formula.Formula.TheVariants.{rolls-All, rolls-Any, rolls-Down, rolls-Shows}
use Rattle.lf_outcome.specs.declared.formula.Formula.TheVariants as kind
use Rattle.lf_outcome.specs.declared.formula.Formula.TheOpen.{Formula-F}
use Rattle.lf_outcome.specs.declared.outcome.Outcome.TheVariants.{OnePrimary, Durable}
use Rattle.lf_outcome.specs.Outcomes.{outcomes_of}
use Rattle.lf_outcome.specs.Measures.{depth_of, atoms_of}
use Rattle.lf_outcome.specs.Named.{shows_or_down, each_shows, formula_of}
use Rattle.lf_outcome.proofs.Laws.{depth_of-parts, atoms_of-parts, depth_of-Down, depth_of-Shows, atoms_of-Down, atoms_of-Shows}
use Rattle.lf_outcome.specs.Formulas.{is_point, is_fact_of, range_step, is_in_range, IsFormulaOf}
use Rattle.lf_scenario.proofs.PlainRanges.{written-fits}

-- a node that shows a fact or is down
module _ (t : ℕ) (fact : Fact) where
  abbrev either : ℕ → List (Formula Fact)
  either n = kind.Down n t ∷ kind.Shows n t fact ∷ []

  depth-either : (n : ℕ) → depth_of (shows_or_down t fact n) ≤ 2
  depth-either n =
      let whole : depth_of (shows_or_down t fact n) ≡ max (max 0 (depth_of {Fact = Fact} (kind.Down n t))) (depth_of (kind.Shows n t fact)) + 1 =
      depth_of-parts (kind.Any (either n)) (either n) (inr refl) in
      omega (arith, whole, depth_of-Down Fact n t, depth_of-Shows n t fact)

  atoms-either : (n : ℕ) → atoms_of (shows_or_down t fact n) ≡ 2
  atoms-either n =
      let whole : atoms_of (shows_or_down t fact n) ≡ 0 + atoms_of {Fact = Fact} (kind.Down n t) + atoms_of (kind.Shows n t fact) =
      atoms_of-parts (kind.Any (either n)) (either n) (inr refl) in
      omega (arith, whole, atoms_of-Down Fact n t, atoms_of-Shows n t fact)

  -- each of some nodes
  abbrev all_of : ℕ → ℕ → List (Formula Fact)
  all_of a n = map (shows_or_down t fact) (range_with_len a n)

  depth-from : (n a start : ℕ) → start ≤ 2 → fold max start (map depth_of (all_of a n)) ≤ 2
  depth-from zero a start h = h
  depth-from (suc n) a start h = depth-from n (a + 1) (max start (depth_of (shows_or_down t fact a))) (omega (arith, h, depth-either a))

  atoms-from : (n a start : ℕ) → fold ◌+◌ start (map atoms_of (all_of a n)) ≡ start + 2 * n
  atoms-from zero a start = omega arith
  atoms-from (suc n) a start =
      let rest = atoms-from n (a + 1) (start + atoms_of (shows_or_down t fact a)) in
      rest ∙ omega (arith, atoms-either a)

  depth-each : (nodes : ℕ) → depth_of (each_shows nodes t fact) ≤ 3
  depth-each nodes =
      omega (arith, depth_of-parts (kind.All (all_of 0 nodes)) (all_of 0 nodes) (inl refl), depth-from nodes 0 0 (omega arith))

  atoms-each : (nodes : ℕ) → atoms_of (each_shows nodes t fact) ≡ 2 * nodes
  atoms-each nodes = atoms_of-parts (kind.All (all_of 0 nodes)) (all_of 0 nodes) (inl refl) ∙ atoms-from nodes 0 0 ∙ omega arith

-- what is in range
module _ (k : Kind) (nodes horizon : ℕ) where
  pub range-All : (parts : List (Formula Fact)) → is_in_range k nodes horizon (kind.All parts) ≡ list_all (is_in_range k nodes horizon) parts
  range-All parts =
      ap (is_in_range k nodes horizon) (sym (rolls-All parts)) ∙ fold-roll-Formula Fact Bool (range_step k nodes horizon) (Formula-F.All parts)
      ∙ list_all-map (λ b. b) (is_in_range k nodes horizon) parts

  pub range-Any : (parts : List (Formula Fact)) → is_in_range k nodes horizon (kind.Any parts) ≡ list_all (is_in_range k nodes horizon) parts
  range-Any parts =
      ap (is_in_range k nodes horizon) (sym (rolls-Any parts)) ∙ fold-roll-Formula Fact Bool (range_step k nodes horizon) (Formula-F.Any parts)
      ∙ list_all-map (λ b. b) (is_in_range k nodes horizon) parts

  pub range-Down : (n t : ℕ) → is_in_range k nodes horizon (kind.Down n t) ≡ is_point nodes horizon n t
  range-Down n t =
      ap (is_in_range k nodes horizon) (sym (rolls-Down n t)) ∙ fold-roll-Formula Fact Bool (range_step k nodes horizon) (Formula-F.Down n t)

  pub range-Shows : (n t : ℕ) (fact : Fact) → is_in_range k nodes horizon (kind.Shows n t fact) ≡ (is_point nodes horizon n t && is_fact_of k fact)
  range-Shows n t fact =
      ap (is_in_range k nodes horizon) (sym (rolls-Shows n t fact)) ∙ fold-roll-Formula Fact Bool (range_step k nodes horizon) (Formula-F.Shows n t fact)

  -- at the last step
  module _ (some : 1 ≤ horizon) where
    point : (n : ℕ) → n < nodes → is_point nodes horizon n horizon ≡ true
    point n below =
        and_from (nat_lt n nodes) (nat_le 1 horizon && nat_le horizon horizon) (lt-ltb n nodes below)
        (and_from (nat_le 1 horizon) (nat_le horizon horizon) (le-leb 1 horizon some) (le-leb horizon horizon (omega arith)))

    down : (n : ℕ) → n < nodes → is_in_range k nodes horizon (kind.Down n horizon) ≡ true
    down n below = range-Down n horizon ∙ point n below

    shows : (fact : Fact) → is_fact_of k fact ≡ true → (n : ℕ) → n < nodes → is_in_range k nodes horizon (kind.Shows n horizon fact) ≡ true
    shows fact own n below = range-Shows n horizon fact ∙ and_from (is_point nodes horizon n horizon) (is_fact_of k fact) (point n below) own

    range-either : (fact : Fact) → is_fact_of k fact ≡ true → (n : ℕ) → n < nodes → is_in_range k nodes horizon (shows_or_down horizon fact n) ≡ true
    range-either fact own n below =
        range-Any (either horizon fact n)
        ∙ and_from (is_in_range k nodes horizon (kind.Down n horizon)) (is_in_range k nodes horizon (kind.Shows n horizon fact) && true)
        (down n below)
        (and_from (is_in_range k nodes horizon (kind.Shows n horizon fact)) true (shows fact own n below) refl)

    range-from : (fact : Fact) → is_fact_of k fact ≡ true → (n a : ℕ) → a + n ≤ nodes
        → list_all (is_in_range k nodes horizon) (all_of horizon fact a n) ≡ true
    range-from fact own zero a h = refl
    range-from fact own (suc n) a h =
        and_from (is_in_range k nodes horizon (shows_or_down horizon fact a)) (list_all (is_in_range k nodes horizon) (all_of horizon fact (a + 1) n))
        (range-either fact own a (omega (arith, h))) (range-from fact own n (a + 1) (omega (arith, h)))

    range-each : (fact : Fact) → is_fact_of k fact ≡ true → is_in_range k nodes horizon (each_shows nodes horizon fact) ≡ true
    range-each fact own = range-All (all_of horizon fact 0 nodes) ∙ range-from fact own nodes 0 (omega arith)

-- some node-wise promise of two facts
module _ (k : Kind) (b : Bounds) (limits : IsInLimits b) (one other : Fact) where
  abbrev both : List (Formula Fact)
  both = each_shows b.nodes b.horizon one ∷ each_shows b.nodes b.horizon other ∷ []

  either_each : is_fact_of k one ≡ true → is_fact_of k other ≡ true → IsFormulaOf k b (kind.Any both)
  either_each first second = written-fits k b (kind.Any both) (record {
    range =
        range-Any k b.nodes b.horizon both
        ∙ and_from (is_in_range k b.nodes b.horizon (each_shows b.nodes b.horizon one)) (is_in_range k b.nodes b.horizon
        (each_shows b.nodes b.horizon other) && true)
        (range-each k b.nodes b.horizon limits.horizon.0 one first)
        (and_from (is_in_range k b.nodes b.horizon (each_shows b.nodes b.horizon other)) true
        (range-each k b.nodes b.horizon limits.horizon.0 other second) refl);
    depth =
        let whole : depth_of (kind.Any both) ≡ max (max 0 (depth_of (each_shows b.nodes b.horizon one))) (depth_of (each_shows b.nodes b.horizon other)) + 1 =
        depth_of-parts (kind.Any both) both (inr refl) in
        omega (arith, whole, depth-each b.horizon one b.nodes, depth-each b.horizon other b.nodes);
    atoms =
        let whole : atoms_of (kind.Any both) ≡ 0 + atoms_of (each_shows b.nodes b.horizon one) + atoms_of (each_shows b.nodes b.horizon other) =
        atoms_of-parts (kind.Any both) both (inr refl) in
        omega (arith, whole, atoms-each b.horizon one b.nodes, atoms-each b.horizon other b.nodes, limits.nodes.1);
  })

-- each node that is up
module _ (k : Kind) (b : Bounds) (limits : IsInLimits b) (fact : Fact) where
  all_each : is_fact_of k fact ≡ true → IsFormulaOf k b (each_shows b.nodes b.horizon fact)
  all_each own = written-fits k b (each_shows b.nodes b.horizon fact) (record {
    range = range-each k b.nodes b.horizon limits.horizon.0 fact own;
    depth = omega (arith, depth-each b.horizon fact b.nodes);
    atoms = omega (arith, atoms-each b.horizon fact b.nodes, limits.nodes.1);
  })

-- one of some atoms
module _ (k : Kind) (b : Bounds) (limits : IsInLimits b) where
  abbrev last : ℕ
  last = b.horizon

  abbrev fits_in : Formula Fact → Bool
  fits_in = is_in_range k b.nodes b.horizon

  one_of_three : (x y z : Formula Fact) → fits_in x ≡ true → fits_in y ≡ true → fits_in z ≡ true
      → depth_of x ≡ 1 → depth_of y ≡ 1 → depth_of z ≡ 1 → atoms_of x ≡ 1 → atoms_of y ≡ 1 → atoms_of z ≡ 1
      → IsFormulaOf k b (kind.Any (x ∷ y ∷ z ∷ []))
  one_of_three x y z in_x in_y in_z deep_x deep_y deep_z one_x one_y one_z = written-fits k b (kind.Any (x ∷ y ∷ z ∷ [])) (record {
    range =
        range-Any k b.nodes b.horizon (x ∷ y ∷ z ∷ [])
        ∙ and_from (fits_in x) (fits_in y && (fits_in z && true)) in_x (and_from (fits_in y) (fits_in z && true) in_y (and_from (fits_in z) true in_z refl));
    depth =
        let whole : depth_of (kind.Any (x ∷ y ∷ z ∷ [])) ≡ max (max (max 0 (depth_of x)) (depth_of y)) (depth_of z) + 1 =
        depth_of-parts (kind.Any (x ∷ y ∷ z ∷ [])) (x ∷ y ∷ z ∷ []) (inr refl) in
        omega (arith, whole, deep_x, deep_y, deep_z);
    atoms =
        let whole : atoms_of (kind.Any (x ∷ y ∷ z ∷ [])) ≡ 0 + atoms_of x + atoms_of y + atoms_of z =
        atoms_of-parts (kind.Any (x ∷ y ∷ z ∷ [])) (x ∷ y ∷ z ∷ []) (inr refl) in
        omega (arith, whole, one_x, one_y, one_z);
  })

  one_of_four : (w x y z : Formula Fact) → fits_in w ≡ true → fits_in x ≡ true → fits_in y ≡ true → fits_in z ≡ true
      → depth_of w ≡ 1 → depth_of x ≡ 1 → depth_of y ≡ 1 → depth_of z ≡ 1 → atoms_of w ≡ 1 → atoms_of x ≡ 1 → atoms_of y ≡ 1 → atoms_of z ≡ 1
      → IsFormulaOf k b (kind.Any (w ∷ x ∷ y ∷ z ∷ []))
  one_of_four w x y z in_w in_x in_y in_z deep_w deep_x deep_y deep_z one_w one_x one_y one_z = written-fits k b (kind.Any (w ∷ x ∷ y ∷ z ∷ [])) (record {
    range =
        range-Any k b.nodes b.horizon (w ∷ x ∷ y ∷ z ∷ [])
        ∙ and_from (fits_in w) (fits_in x && (fits_in y && (fits_in z && true))) in_w
        (and_from (fits_in x) (fits_in y && (fits_in z && true)) in_x (and_from (fits_in y) (fits_in z && true) in_y (and_from (fits_in z) true in_z refl)));
    depth =
        let whole : depth_of (kind.Any (w ∷ x ∷ y ∷ z ∷ [])) ≡ max (max (max (max 0 (depth_of w)) (depth_of x)) (depth_of y)) (depth_of z) + 1 =
        depth_of-parts (kind.Any (w ∷ x ∷ y ∷ z ∷ [])) (w ∷ x ∷ y ∷ z ∷ []) (inr refl) in
        omega (arith, whole, deep_w, deep_x, deep_y, deep_z);
    atoms =
        let whole : atoms_of (kind.Any (w ∷ x ∷ y ∷ z ∷ [])) ≡ 0 + atoms_of w + atoms_of x + atoms_of y + atoms_of z =
        atoms_of-parts (kind.Any (w ∷ x ∷ y ∷ z ∷ [])) (w ∷ x ∷ y ∷ z ∷ []) (inr refl) in
        omega (arith, whole, one_w, one_x, one_y, one_z);
  })

  down_fits : (n : ℕ) → n < b.nodes → fits_in (kind.Down n last) ≡ true
  down_fits n below = down k b.nodes b.horizon limits.horizon.0 n below

  shows_fits : (n : ℕ) (fact : Fact) → n < b.nodes → is_fact_of k fact ≡ true → fits_in (kind.Shows n last fact) ≡ true
  shows_fits n fact below own = shows k b.nodes b.horizon limits.horizon.0 fact own n below

  one_primary_fits : is_fact_of k Backup ≡ true → IsFormulaOf k b (formula_of OnePrimary b.nodes b.horizon)
  one_primary_fits own =
      one_of_three (kind.Down 0 last) (kind.Down 1 last) (kind.Shows 1 last Backup)
      (down_fits 0 (omega (arith, limits.nodes.0))) (down_fits 1 (omega (arith, limits.nodes.0))) (shows_fits 1 Backup (omega (arith, limits.nodes.0)) own)
      (depth_of-Down Fact 0 last) (depth_of-Down Fact 1 last) (depth_of-Shows 1 last Backup)
      (atoms_of-Down Fact 0 last) (atoms_of-Down Fact 1 last) (atoms_of-Shows 1 last Backup)

  durable_fits : 3 ≤ b.nodes → is_fact_of k NotDone ≡ true → is_fact_of k Holds ≡ true → IsFormulaOf k b (formula_of Durable b.nodes b.horizon)
  durable_fits three done holds =
      one_of_four (kind.Down 2 last) (kind.Shows 2 last NotDone) (kind.Shows 0 last Holds) (kind.Shows 1 last Holds)
      (down_fits 2 (omega (arith, three))) (shows_fits 2 NotDone (omega (arith, three)) done) (shows_fits 0 Holds (omega (arith, three)) holds)
      (shows_fits 1 Holds (omega (arith, three)) holds)
      (depth_of-Down Fact 2 last) (depth_of-Shows 2 last NotDone) (depth_of-Shows 0 last Holds) (depth_of-Shows 1 last Holds)
      (atoms_of-Down Fact 2 last) (atoms_of-Shows 2 last NotDone) (atoms_of-Shows 0 last Holds) (atoms_of-Shows 1 last Holds)

-- each outcome of the protocol
pub outcomes_fit : (k : Kind) (b : Bounds) → IsInLimits b → IsWithinLimits k → nodes_of k ≡ b.nodes
    → AllByRecursion (λ o. IsFormulaOf k b (formula_of o b.nodes b.horizon)) (outcomes_of k)
outcomes_fit (kinds.Retry nodes tries) b limits within same = (either_each (kinds.Retry nodes tries) b limits Has Lacks refl refl, tt)
outcomes_fit (kinds.Redundant nodes tries) b limits within same = (either_each (kinds.Redundant nodes tries) b limits Has Lacks refl refl, tt)
outcomes_fit (kinds.TwoPhase nodes patience votes) b limits within same = (
  either_each (kinds.TwoPhase nodes patience votes) b limits NotCommitted NotAborted refl refl,
  (
    all_each
        (kinds.TwoPhase nodes patience votes) b limits Free refl,
    tt,
  ),
)
outcomes_fit (kinds.ThreePhase nodes patience votes) b limits within same = (
  either_each (kinds.ThreePhase nodes patience votes) b limits NotCommitted NotAborted refl refl,
  (
    all_each
        (kinds.ThreePhase nodes patience votes) b limits Free refl,
    tt,
  ),
)
outcomes_fit (kinds.Ruled m) b limits within same = tt
outcomes_fit (kinds.PrimaryBackup nodes patience) b limits within same = (
  one_primary_fits (kinds.PrimaryBackup nodes patience) b limits refl,
  (
    durable_fits (kinds.PrimaryBackup nodes patience) b limits (omega
        (arith, within.0, same)) refl refl,
    tt,
  ),
)
