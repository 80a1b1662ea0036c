-- What crates above may cite of this one beside its contracts.
use Rattle.std.proofs.Common.{◌≡◌, ◌⊎◌, ◌↔◌, ℕ, ◌+◌, ◌<◌, ◌≤◌, Bool, true, false, not, ◌&&◌, List, refl, ap, subst, ◌∙◌, map, max, sum, ◌||◌, sym}
use Rattle.std.specs.Prelude.{nat_le, Some, IfSome, All, nat_lt}
use Rattle.std.specs.Option.{is_some}
use Rattle.std.specs.List.{flat_map, fold, list_all, list_any}
use Rattle.std.proofs.lemmas.Bool.{and_parts, and_from, leb-true, false≢true, ltb-false}
use Rattle.lf_faults.specs.declared.fault.Parts.{Parts}
use Rattle.lf_sim.specs.Runs.{World, is_up, view}
use Rattle.lf_outcome.specs.declared.formula.Formula.{Formula}
use Rattle.lf_outcome.specs.declared.formula.Formula.TheVariants as kind
use Rattle.lf_outcome.specs.declared.point.Point.{Point}
use Rattle.lf_outcome.specs.Entries.{EachKeyHasOne, NoTwoDiffer}
use Rattle.lf_outcome.specs.Evidence.{evidence_of, rests_on, AreUp, ArePoints, Covers}
use Rattle.lf_outcome.specs.Measures.{depth_of, atoms_of}
use Rattle.lf_outcome.specs.Reaches.{reach_at}
use Rattle.lf_outcome.specs.Truth.{truth, entered, is_down, is_shown, is_shown_where, is_single, is_single_where, points_to, reaches, reaches_within, counts}
use Rattle.lf_outcome.specs.Unfolding.{is_plain, joined, later, steps, unfold_at, unfolded}
use Rattle.lf_outcome.specs.declared.scenario.Scenario.{Scenario}
use Rattle.lf_outcome.specs.Sameness.{AreSame}
use Rattle.lf_sim.specs.Settings.{world_of}
use Rattle.lf_outcome.specs.Failing.{down_or_later, fails_by, may_reach, shown_or_later, single_by}
use Rattle.lf_outcome.proofs.EvidenceLemmas.{truth-more}
use Rattle.lf_outcome.proofs.EntriesLemmas as entries
use Rattle.lf_outcome.proofs.EvidenceLemmas as evidence
use Rattle.lf_outcome.proofs.MeasuresLemmas as measures
use Rattle.lf_outcome.proofs.PointsLemmas as pages
use Rattle.lf_outcome.proofs.UnfoldingLemmas as unfolds
use Rattle.lf_outcome.proofs.TruthLemmas.{said-All, said-Any, said-Down, said-One, said-Over, said-Shows}
use Rattle.lf_outcome.proofs.formula.Formula.TheLaws.TheKnot as formula

module _ {Fact : Type 0} where
  -- All and Any are one deeper than their deepest part
  pub depth_of-parts : (f : Formula Fact) (parts : List (Formula Fact)) → (f ≡ kind.All parts) ⊎ (f ≡ kind.Any parts)
      → depth_of f ≡ fold max 0 (map depth_of parts) + 1
  depth_of-parts = measures.depth_of-parts

  -- they have as many atoms as their parts
  pub atoms_of-parts : (f : Formula Fact) (parts : List (Formula Fact)) → (f ≡ kind.All parts) ⊎ (f ≡ kind.Any parts)
      → atoms_of f ≡ sum (map atoms_of parts)
  atoms_of-parts = measures.atoms_of-parts

  -- Shows is 1 deep, and one atom
  pub depth_of-Shows : (n t : ℕ) (fact : Fact) → depth_of (kind.Shows n t fact) ≡ 1
  depth_of-Shows = measures.depth_of-Shows

  pub atoms_of-Shows : (n t : ℕ) (fact : Fact) → atoms_of (kind.Shows n t fact) ≡ 1
  atoms_of-Shows = measures.atoms_of-Shows

-- Down is 1 deep, and one atom
pub depth_of-Down : (Fact : Type 0) (n t : ℕ) → depth_of {Fact = Fact} (kind.Down n t) ≡ 1
depth_of-Down = measures.depth_of-Down

pub atoms_of-Down : (Fact : Type 0) (n t : ℕ) → atoms_of {Fact = Fact} (kind.Down n t) ≡ 1
atoms_of-Down = measures.atoms_of-Down

-- One is 1 deep, and one atom
pub depth_of-One : (Fact : Type 0) (nodes last topic : ℕ) → depth_of {Fact = Fact} (kind.One nodes last topic) ≡ 1
depth_of-One = measures.depth_of-One

pub atoms_of-One : (Fact : Type 0) (nodes last topic : ℕ) → atoms_of {Fact = Fact} (kind.One nodes last topic) ≡ 1
atoms_of-One = measures.atoms_of-One

-- What a formula says without Over, where its steps are counted from the step k, by its kind;
module _ {Fact : Type 0} where
  pub unfold-All : (parts : List (Formula Fact)) (k : ℕ) → unfold_at (kind.All parts) k ≡ kind.All (map (λ part. unfold_at part k) parts)
  unfold-All = unfolds.unfold-All

  pub unfold-Any : (parts : List (Formula Fact)) (k : ℕ) → unfold_at (kind.Any parts) k ≡ kind.Any (map (λ part. unfold_at part k) parts)
  unfold-Any = unfolds.unfold-Any

  pub unfold-Down : (n t k : ℕ) → unfold_at {Fact = Fact} (kind.Down n t) k ≡ kind.Down n (later k t)
  unfold-Down = unfolds.unfold-Down

  pub unfold-Shows : (n t : ℕ) (fact : Fact) (k : ℕ) → unfold_at (kind.Shows n t fact) k ≡ kind.Shows n (later k t) fact
  unfold-Shows = unfolds.unfold-Shows

  pub unfold-One : (nodes last topic k : ℕ) → unfold_at {Fact = Fact} (kind.One nodes last topic) k ≡ kind.One nodes last topic
  unfold-One = unfolds.unfold-One

  pub unfold-Over : (every : Bool) (first last : ℕ) (parts : List (Formula Fact)) (k : ℕ)
      → unfold_at (kind.Over every first last parts) k
      ≡ joined every (flat_map (λ t. map (λ part. unfold_at part (later k t)) parts) (steps first last))
  unfold-Over = unfolds.unfold-Over

  -- at the steps that it names, Over is its parts at each of its steps,
  pub unfolded-Over : (every : Bool) (first last : ℕ) (parts : List (Formula Fact))
      → unfolded (kind.Over every first last parts) ≡ joined every (flat_map (λ t. map (λ part. unfold_at part t) parts) (steps first last))
  unfolded-Over = unfolds.unfolded-Over

  -- a formula without Over is what it says, and what a formula says is without Over,
  pub unfolded-plain : (f : Formula Fact) → is_plain f ≡ true → unfolded f ≡ f
  unfolded-plain = unfolds.unfolded-plain

  pub plain-unfolded : (f : Formula Fact) (k : ℕ) → is_plain (unfold_at f k) ≡ true
  plain-unfolded = unfolds.plain-unfolded

  pub unfolded-again : (f : Formula Fact) (k : ℕ) → unfolded (unfold_at f k) ≡ unfold_at f k
  unfolded-again = unfolds.unfolded-again

  pub plain-All : (parts : List (Formula Fact)) → is_plain (kind.All parts) ≡ list_all is_plain parts
  plain-All = unfolds.plain-All

  pub plain-Any : (parts : List (Formula Fact)) → is_plain (kind.Any parts) ≡ list_all is_plain parts
  plain-Any = unfolds.plain-Any

  pub plain-Shows : (n t : ℕ) (fact : Fact) → is_plain (kind.Shows n t fact) ≡ true
  plain-Shows = unfolds.plain-Shows

  -- and at any step it is as deep as the formula, and has as many atoms
  pub depth-unfolded : (f : Formula Fact) (k : ℕ) → depth_of (unfold_at f k) ≡ depth_of f
  depth-unfolded = measures.depth-unfolded

  pub atoms-unfolded : (f : Formula Fact) (k : ℕ) → atoms_of (unfold_at f k) ≡ atoms_of f
  atoms-unfolded = measures.atoms-unfolded

pub plain-Down : (Fact : Type 0) (n t : ℕ) → is_plain {Fact = Fact} (kind.Down n t) ≡ true
plain-Down = unfolds.plain-Down

pub plain-One : (Fact : Type 0) (nodes last topic : ℕ) → is_plain {Fact = Fact} (kind.One nodes last topic) ≡ true
plain-One = unfolds.plain-One

-- A step counted from step 0 is that step, and step 0 counted from a step is the step that it is counted from.
pub later-none : (t : ℕ) → later 0 t ≡ t
later-none = unfolds.later-none

pub later-zero : (k : ℕ) → k ≤ 4294967295 → later k 0 ≡ k
later-zero = unfolds.later-zero

module _ {State Note Fact : Type 0} (w : World State Note Fact) (faults : List Parts) where
  -- truth within a reach, by the kind of the formula
  pub within-All : (reach : List ℕ) (parts : List (Formula Fact))
      → reaches_within w faults reach (kind.All parts) ≡ list_all (reaches_within w faults reach) parts
  within-All reach parts = said-All (is_down w faults) (is_shown_where w faults (Some reach)) (is_single_where w faults (Some reach)) parts

  pub within-Any : (reach : List ℕ) (parts : List (Formula Fact))
      → reaches_within w faults reach (kind.Any parts) ≡ list_any (reaches_within w faults reach) parts
  within-Any reach parts = said-Any (is_down w faults) (is_shown_where w faults (Some reach)) (is_single_where w faults (Some reach)) parts

  pub within-Down : (reach : List ℕ) (n t : ℕ) → reaches_within w faults reach (kind.Down n t) ≡ not (is_up w faults n t)
  within-Down reach n t = said-Down (is_down w faults) (is_shown_where w faults (Some reach)) (is_single_where w faults (Some reach)) n t

  pub within-Shows : (reach : List ℕ) (n t : ℕ) (fact : Fact)
      → reaches_within w faults reach (kind.Shows n t fact)
      ≡ (nat_le t (reach_at reach n) && (is_up w faults n t && w.rules.shows n (view w faults n t) fact))
  within-Shows reach n t fact = said-Shows (is_down w faults) (is_shown_where w faults (Some reach)) (is_single_where w faults (Some reach)) n t fact

  pub within-One : (reach : List ℕ) (nodes last topic : ℕ)
      → reaches_within w faults reach (kind.One nodes last topic)
      ≡ (list_all (λ p. not (is_up w faults p.node p.step) || nat_le p.step (reach_at reach p.node)) (points_to nodes last)
      && is_single w faults nodes last topic)
  within-One reach nodes last topic =
      said-One (is_down w faults) (is_shown_where w faults (Some reach)) (is_single_where w faults (Some reach)) nodes last topic

  pub within-Over : (reach : List ℕ) (every : Bool) (first last : ℕ) (parts : List (Formula Fact))
      → reaches_within w faults reach (kind.Over every first last parts)
      ≡ reaches_within w faults reach (joined every (flat_map (λ t. map (λ part. unfold_at part t) parts) (steps first last)))
  within-Over reach = said-Over (is_down w faults) (is_shown_where w faults (Some reach)) (is_single_where w faults (Some reach))

  -- what is true within a reach is true
  pub reaches-from_within : (reach : List ℕ) (f : Formula Fact) → reaches_within w faults reach f ≡ true → reaches w faults f ≡ true
  reaches-from_within reach f =
      truth-more (is_down w faults) (is_down w faults) (is_shown_where w faults (Some reach)) (is_shown w faults)
      (is_single_where w faults (Some reach)) (is_single w faults)
      (λ n t e. e) (λ n t fact e. (and_parts (nat_le t (reach_at reach n)) (is_shown w faults n t fact) e).1)
      (λ nodes last topic e. (and_parts (list_all (λ p. is_down w faults p.node p.step || counts (Some reach) p.node p.step) (points_to nodes last))
      (is_single w faults nodes last topic) e).1) (unfolded f)

-- Truth carries over: where each node that is down stays down, each fact that is shown stays shown, and what is of one value for each key stays so, a
-- formula that is true stays true.
pub truth-carries : {Fact : Type 0} (down later_down : ℕ → ℕ → Bool) (shown later_shown : ℕ → ℕ → Fact → Bool) (single later_single : ℕ → ℕ → ℕ → Bool)
    → ((n t : ℕ) → down n t ≡ true → later_down n t ≡ true)
    → ((n t : ℕ) (fact : Fact) → shown n t fact ≡ true → later_shown n t fact ≡ true)
    → ((nodes last topic : ℕ) → single nodes last topic ≡ true → later_single nodes last topic ≡ true)
    → (f : Formula Fact) → truth down shown single f ≡ true → truth later_down later_shown later_single f ≡ true
truth-carries down later_down shown later_shown single later_single = truth-more down later_down shown later_shown single later_single

not_more : (was now : Bool) → (now ≡ true → was ≡ true) → not was ≡ true → not now ≡ true
not_more true true h e = e
not_more false true h e = absurd (false≢true (h refl))
not_more was false h e = refl

-- Truth within a reach carries over to another list of faults, as to one with more faults: where no node is up that
-- wasn't, and each point within the reach at which a node was up is up still, with the same view.
pub within-carries : {State Note Fact : Type 0} (w : World State Note Fact) (faults wider : List Parts) (reach : List ℕ)
    → ((n t : ℕ) → is_up w wider n t ≡ true → is_up w faults n t ≡ true)
    → ((n t : ℕ) → t ≤ reach_at reach n → is_up w faults n t ≡ true
    → (is_up w wider n t ≡ true) × (view w wider n t ≡ view w faults n t))
    → (f : Formula Fact) → reaches_within w faults reach f ≡ true → reaches_within w wider reach f ≡ true
within-carries {Fact = Fact} w faults wider reach none_more same f =
    truth-more (is_down w faults) (is_down w wider) (is_shown_where w faults (Some reach)) (is_shown_where w wider (Some reach))
    (is_single_where w faults (Some reach)) (is_single_where w wider (Some reach))
    (λ n t down. not_more (is_up w faults n t) (is_up w wider n t) (none_more n t) down)
    (λ n t fact shown.
    let within = and_parts (nat_le t (reach_at reach n)) (is_shown w faults n t fact) shown in
    let up = and_parts (is_up w faults n t) (w.rules.shows n (view w faults n t) fact) within.1 in
    let there = same n t (leb-true t (reach_at reach n) within.0) up.0 in
    and_from (nat_le t (reach_at reach n)) (is_shown w wider n t fact) within.0
    (and_from (is_up w wider n t) (w.rules.shows n (view w wider n t) fact) there.0
    (ap (λ v. w.rules.shows n v fact) there.1 ∙ up.1)))
    (λ nodes last topic is. entries.single-carries w faults wider reach none_more same nodes last topic is) (unfolded f)

-- What nodes enter is of one value for each key where no two points differ, and where each key has a value.
module _ {State Note Fact : Type 0} (w : World State Note Fact) (faults : List Parts) (nodes last topic : ℕ) where
  pub single-pairs : (is_single w faults nodes last topic ≡ true) ↔ NoTwoDiffer w faults nodes last topic
  single-pairs = entries.pairs w faults nodes last topic

  pub single-values : (is_single w faults nodes last topic ≡ true) ↔ EachKeyHasOne w faults nodes last topic
  single-values = entries.values w faults nodes last topic

-- It is so in each run in which the same is entered at these points,
pub single-agree : {State Note Fact : Type 0} (w other : World State Note Fact) (faults others : List Parts) (nodes last topic : ℕ)
    → ((n t : ℕ) → n < nodes → 1 ≤ t → t ≤ last → entered other others topic n t ≡ entered w faults topic n t)
    → is_single other others nodes last topic ≡ is_single w faults nodes last topic
single-agree = entries.single-agree

-- and what is so within a reach is so within one that lies further out.
pub single-further : {State Note Fact : Type 0} (w : World State Note Fact) (faults : List Parts) (reach further : List ℕ)
    → ((n : ℕ) → reach_at reach n ≤ reach_at further n) → (nodes last topic : ℕ)
    → is_single_where w faults (Some reach) nodes last topic ≡ true → is_single_where w faults (Some further) nodes last topic ≡ true
single-further = entries.single-further

-- A formula without Over rests on something where it is true, by any tests
pub rests-truth : {Fact : Type 0} (down : ℕ → ℕ → Bool) (shown : ℕ → ℕ → Fact → Bool) (single : ℕ → ℕ → ℕ → Bool) (f : Formula Fact)
    → is_some (rests_on down shown single f) ≡ truth down shown single f
rests-truth = evidence.rests_on-truth

-- What a formula rests on: there is something where it is true,
module _ {State Note Fact : Type 0} (w : World State Note Fact) (faults : List Parts) (f : Formula Fact) where
  pub evidence-truth : is_some (evidence_of w faults f) ≡ reaches w faults f
  evidence-truth = evidence.rests_on-truth (is_down w faults) (is_shown w faults) (is_single w faults) (unfolded f)

  rests : (points : List Point) → evidence_of w faults f ≡ Some points → (P : List Point → Type 0) → IfSome (evidence_of w faults f) P → P points
  rests points is P h = subst (λ o. IfSome o P) is h

  -- its points are points of the run at which their nodes are up,
  pub evidence-points : (points : List Point) → evidence_of w faults f ≡ Some points → ArePoints w points
  evidence-points points is =
      pages.points-each w faults points (rests points is (All (pages.Up w faults)) (pages.evidence-up w faults f))

  pub evidence-up : (points : List Point) → evidence_of w faults f ≡ Some points → AreUp w faults points
  evidence-up points is = pages.up-each w faults points (rests points is (All (pages.Up w faults)) (pages.evidence-up w faults f))

  -- and within each reach that covers them it is true
  pub evidence-suffices : (points : List Point) → evidence_of w faults f ≡ Some points → (reach : List ℕ) → Covers reach points
      → reaches_within w faults reach f ≡ true
  evidence-suffices points is reach covers =
      rests points is (λ ps. All (λ p. counts (Some reach) p.node p.step ≡ true) ps → reaches_within w faults reach f ≡ true)
      (pages.covers-suffices w faults f reach) (pages.covers-each reach points covers)

-- formulas may cross threads where their facts may: a set for `search`
pub ruleset formulas_cross = (formula.crosses)

-- scenarios that are the same run in one world
pub worlds_are_one : (s t : Scenario) → AreSame s t → world_of s.setting ≡ world_of t.setting
worlds_are_one s t same = rw (same.protocol, same.network, same.bounds)

-- and of each list of faults they say the same: whether it reaches the outcome
pub answers_are_one : (s t : Scenario) → AreSame s t → (faults : List Parts)
    → reaches (world_of s.setting) faults s.formula ≡ reaches (world_of t.setting) faults t.formula
answers_are_one s t same faults =
    ap (λ w. reaches w faults s.formula) (worlds_are_one s t same) ∙ ap (reaches (world_of t.setting) faults) same.formula

-- what is true up to a step counts as it does there, or it lies later
or_later : (later a b : Bool) → (later ≡ false → a ≡ b) → a ≡ true → (later || b) ≡ true
or_later true a b same is = refl
or_later false a b same is = sym (same refl) ∙ is

missed : (may is : Bool) → (is ≡ true → may ≡ true) → not may ≡ true → is ≡ false
missed may false h e = refl
missed may true h e = absurd (false≢true (sym (ap not (h refl)) ∙ e))

-- a run that is seen to miss an outcome by a step misses it, and so does every other that shows the same up to that step
pub stays_missed : {State Note Fact : Type 0} (w other : World State Note Fact) (faults others : List Parts) (t : ℕ) (formula : Formula Fact)
    → fails_by w faults t formula ≡ true
    → ((n u : ℕ) → u ≤ t → is_down other others n u ≡ is_down w faults n u)
    → ((n u : ℕ) (fact : Fact) → u ≤ t → is_shown other others n u fact ≡ is_shown w faults n u fact)
    → ((topic n u : ℕ) → u ≤ t → entered other others topic n u ≡ entered w faults topic n u)
    → reaches other others formula ≡ false
stays_missed w other faults others t formula fails downs shows enters =
    missed (may_reach w faults t formula) (reaches other others formula)
    (truth-carries (is_down other others) (down_or_later w faults t) (is_shown other others) (shown_or_later w faults t) (is_single other others)
    (single_by w faults t)
    (λ n u. or_later (nat_lt t u) (is_down other others n u) (is_down w faults n u) (λ early. downs n u (ltb-false t u early)))
    (λ n u fact. or_later (nat_lt t u) (is_shown other others n u fact) (is_shown w faults n u fact) (λ early. shows n u fact (ltb-false t u early)))
    (λ nodes last topic is. entries.single-early w other faults others t enters nodes last topic is)
    (unfolded formula)) fails
