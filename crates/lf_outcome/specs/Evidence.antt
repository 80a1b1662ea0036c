-- What a true formula rests on.
use Rattle.std.specs.Prelude.{◌≡◌, ℕ, ◌<◌, ◌≤◌, Bool, true, not, if◌then◌else◌, List, [], ◌∷◌, ◌++◌, Option, None, Some}
use Rattle.std.specs.List.{Contains, filter}
use Rattle.std.specs.Option.{option_map, option_and_then}
use Rattle.lf_faults.specs.declared.fault.Parts.{Parts}
use Rattle.lf_sim.specs.Runs.{World, is_up}
use Rattle.lf_outcome.specs.declared.formula.Formula.{Formula, fold-Formula}
use Rattle.lf_outcome.specs.declared.formula.Formula.TheOpen.{Formula-F}
use Rattle.lf_outcome.specs.declared.point.Point.{Point}
use Rattle.lf_outcome.specs.Reaches.{reach_at}
use Rattle.lf_outcome.specs.Truth.{is_down, is_shown, is_single, points_to}
use Rattle.lf_outcome.specs.Unfolding.{unfold_at}

-- all of the lists, one after another; none where one of them is missing
abbrev pub all_of : {A : Type 0} → List (Option (List A)) → Option (List A)
all_of [] = Some []
all_of (found ∷ rest) = option_and_then (λ xs. option_map (λ ys. xs ++ ys) (all_of rest)) found

-- the first that is there
abbrev pub first_of : {A : Type 0} → List (Option A) → Option A
first_of [] = None
first_of (None ∷ rest) = first_of rest
first_of (Some x ∷ rest) = Some x

-- the points of so many nodes up to a last step at which their nodes are up
abbrev pub points_up : (ℕ → ℕ → Bool) → ℕ → ℕ → List Point
points_up down nodes last = filter (λ p. not (down p.node p.step)) (points_to nodes last)

-- by a test of which node is down at which step, one of which node shows which fact at which step, and one of the nodes, steps and topics whose entries
-- are of one value for each key
module _ {Fact : Type 0} (down : ℕ → ℕ → Bool) (shown : ℕ → ℕ → Fact → Bool) (single : ℕ → ℕ → ℕ → Bool) where
  -- one level, with what each part rests on in its place, and nothing there for a part that is false
  abbrev pub rests_step : Formula-F Fact (Option (List Point)) → Option (List Point)
  rests_step (Formula-F.All parts) = all_of parts
  rests_step (Formula-F.Any parts) = first_of parts
  rests_step (Formula-F.Down n t) = if down n t then Some [] else None
  rests_step (Formula-F.Shows n t fact) = if shown n t fact then Some (record { node = n; step = t } ∷ []) else None
  rests_step (Formula-F.One nodes last topic) = if single nodes last topic then Some (points_up down nodes last) else None
  rests_step (Formula-F.Over every first last parts) = None

  -- All rests on what all parts rest on, Any on what its first true part rests on, a fact on its point, Down on no point, and One on all of its points at
  -- which their nodes are up; a false formula rests on nothing; of a formula without Over, as truth
  abbrev pub rests_on : Formula Fact → Option (List Point)
  rests_on = fold-Formula Fact (Option (List Point)) rests_step

module _ {State Note Fact : Type 0} (w : World State Note Fact) (faults : List Parts) where
  -- the points on which the formula, its steps counted from the step k, rests in the run of the set, where it is true there
  abbrev pub evidence_at : ℕ → Formula Fact → Option (List Point)
  evidence_at k f = rests_on (is_down w faults) (is_shown w faults) (is_single w faults) (unfold_at f k)

  -- the points on which the formula, unfolded, rests in the run of the set, where the set reaches it
  abbrev pub evidence_of : Formula Fact → Option (List Point)
  evidence_of f = evidence_at 0 f

  -- each of the points is one at which its node is up
  abbrev pub AreUp : List Point → Type 0
  AreUp points = (p : Point) → Contains points p → is_up w faults p.node p.step ≡ true

-- each of the points is a node with a step of the run
abbrev pub ArePoints : {State Note Fact : Type 0} → World State Note Fact → List Point → Type 0
ArePoints w points = (p : Point) → Contains points p → (p.node < w.rules.nodes) × (1 ≤ p.step) × (p.step ≤ w.horizon)

-- none of the points lies past the reach
abbrev pub Covers : List ℕ → List Point → Type 0
Covers reach points = (p : Point) → Contains points p → p.step ≤ reach_at reach p.node
