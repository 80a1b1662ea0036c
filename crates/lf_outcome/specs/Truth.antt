-- When a formula is true, and when a set of faults reaches an outcome.
use Rattle.std.specs.Prelude.{ℕ, Bool, true, false, not, ◌&&◌, ◌||◌, ◌==◌, nat_le, if◌then◌else◌, List, map, Option, None, Some}
use Rattle.std.specs.List.{flat_map, list_all, list_any, range_with_len}
use Rattle.std.specs.Option.{option_to_list}
use Rattle.lf_faults.specs.declared.fault.Parts.{Parts}
use Rattle.lf_sim.specs.declared.entry.Entry.{Entry}
use Rattle.lf_sim.specs.Runs.{World, is_up, view}
use Rattle.lf_outcome.specs.declared.formula.Formula.{Formula, fold-Formula}
use Rattle.lf_outcome.specs.declared.formula.Formula.TheOpen.{Formula-F}
use Rattle.lf_outcome.specs.declared.point.Point.{Point}
use Rattle.lf_outcome.specs.Reaches.{reach_at}
use Rattle.lf_outcome.specs.Unfolding.{unfolded}

-- by a test of which node is down at which step, one of which node shows which fact at which step, and one of the nodes, steps and topics whose entries
-- are of one value for each key
module _ {Fact : Type 0} (down : ℕ → ℕ → Bool) (shown : ℕ → ℕ → Fact → Bool) (single : ℕ → ℕ → ℕ → Bool) where
  -- one level, with the truth of each part in its place
  abbrev pub truth_step : Formula-F Fact Bool → Bool
  truth_step (Formula-F.All parts) = list_all (λ b. b) parts
  truth_step (Formula-F.Any parts) = list_any (λ b. b) parts
  truth_step (Formula-F.Down n t) = down n t
  truth_step (Formula-F.Shows n t fact) = shown n t fact
  truth_step (Formula-F.One nodes last topic) = single nodes last topic
  truth_step (Formula-F.Over every first last parts) = false

  -- all parts are true, some part is true, the node is down, the node shows the fact, the entries have one value for each key; of a formula without Over:
  -- what one with Over says is what it says unfolded
  abbrev pub truth : Formula Fact → Bool
  truth = fold-Formula Fact Bool truth_step

-- the points of so many nodes at the steps 1 to the last, by step and then by node
abbrev pub points_at : ℕ → ℕ → List Point
points_at nodes t = map (λ n. record { node = n; step = t }) (range_with_len 0 nodes)

abbrev pub points_to : ℕ → ℕ → List Point
points_to nodes last = flat_map (points_at nodes) (range_with_len 1 last)

-- two entries agree unless they have one key and different values
abbrev pub agree : Entry → Entry → Bool
agree e f = not (e.key == f.key) || (e.value == f.value)

-- each two of them agree
abbrev pub all_agree : List Entry → Bool
all_agree es = list_all (λ e. list_all (agree e) es) es

-- what is entered at points, where something is
abbrev pub entries_at : (ℕ → ℕ → Option Entry) → List Point → List Entry
entries_at entered points = flat_map (λ p. option_to_list (entered p.node p.step)) points

-- whether n counts at t: everywhere, or where t isn't past the reach
abbrev pub counts : Option (List ℕ) → ℕ → ℕ → Bool
counts None n t = true
counts (Some reach) n t = nat_le t (reach_at reach n)

module _ {State Note Fact : Type 0} (w : World State Note Fact) (faults : List Parts) where
  -- n isn't up at t
  abbrev pub is_down : ℕ → ℕ → Bool
  is_down n t = not (is_up w faults n t)

  -- n is up at t, and its view after t shows the fact
  abbrev pub is_shown : ℕ → ℕ → Fact → Bool
  is_shown n t fact = is_up w faults n t && w.rules.shows n (view w faults n t) fact

  -- what n's view after t enters under a topic, if n is up at t
  abbrev pub entered : ℕ → ℕ → ℕ → Option Entry
  entered topic n t = if is_up w faults n t then w.rules.entry n (view w faults n t) topic else None

  -- of what so many nodes enter under a topic at the steps up to the last, each two entries agree
  abbrev pub is_single : ℕ → ℕ → ℕ → Bool
  is_single nodes last topic = all_agree (entries_at (entered topic) (points_to nodes last))

  -- the same, and each of these points at which its node is up counts
  abbrev pub is_single_where : Option (List ℕ) → ℕ → ℕ → ℕ → Bool
  is_single_where limit nodes last topic =
      list_all (λ p. is_down p.node p.step || counts limit p.node p.step) (points_to nodes last) && is_single nodes last topic

  -- the same, where n counts at t
  abbrev pub is_shown_where : Option (List ℕ) → ℕ → ℕ → Fact → Bool
  is_shown_where limit n t fact = counts limit n t && is_shown n t fact

  -- the formula, unfolded, is true in the run of the set: the set reaches the outcome, and elsewhere it misses
  abbrev pub reaches : Formula Fact → Bool
  reaches f = truth is_down is_shown is_single (unfolded f)

  -- the same, where a fact past the reach counts as not shown, and One as false if a node is up at one of its points past the reach
  abbrev pub reaches_within : List ℕ → Formula Fact → Bool
  reaches_within reach f = truth is_down (is_shown_where (Some reach)) (is_single_where (Some reach)) (unfolded f)
