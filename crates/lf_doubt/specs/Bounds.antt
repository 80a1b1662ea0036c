-- What is asked about the bounds of a scenario, and about the delays of notes.
use Rattle.std.specs.Prelude.{ℕ, ◌+◌, ◌*◌, ◌/◌, ◌<◌, ◌≤◌, min, Bool, true, false, ◌&&◌, not, ◌==◌, nat_lt, List, [], ◌∷◌, ◌++◌}
use Rattle.std.specs.List.{list_any, range_with_len}
use Rattle.lf_faults.specs.declared.spec.Bounds.{Bounds}
use Rattle.lf_latency.specs.declared.network.Timing.{Timing}
use Rattle.lf_latency.specs.Links.{spread_of}
use Rattle.lf_doubt.specs.declared.change.Change.{Change}
use Rattle.lf_doubt.specs.declared.change.Change.TheVariants as changes
use Rattle.lf_doubt.specs.declared.question.Question.{Question}
use Rattle.lf_doubt.specs.declared.question.Question.TheVariants as asks

-- a horizon half as long again, rounded up, and 48 at most
abbrev pub longer : ℕ → ℕ
longer horizon = min (horizon + (horizon + 1) / 2) 48

-- a pause twice as long, and 8 at most
abbrev pub twice : ℕ → ℕ
twice pause = min (2 * pause) 8

-- a question that is asked, or none
abbrev pub when : {X : Type 0} → Bool → X → List X
when true x = x ∷ []
when false x = []

-- a change is asked of each bound that can be larger
abbrev pub bounds_asked : Bounds → List Question
bounds_asked b =
    when (nat_lt b.horizon (longer b.horizon)) (asks.With (changes.Horizon (longer b.horizon)))
    ++ (when (nat_lt b.budget 6) (asks.With (changes.Budget (b.budget + 1)))
    ++ (when (nat_lt b.crashes b.nodes) (asks.With (changes.Crashes (b.crashes + 1)))
    ++ when (nat_lt 0 b.pauses && nat_lt b.pause_length (twice b.pause_length)) (asks.With (changes.PauseLength (twice b.pause_length)))))

-- the answer over every delay: where some link has a spread of that, and else with a spread of one step
abbrev pub delays_asked : Bool → List Question
delays_asked true = asks.EveryDelay ∷ []
delays_asked false = asks.Spread ∷ []

-- some link from a node has a spread
abbrev pub has_spread_from : Timing → ℕ → Bool
has_spread_from t from = list_any (λ to. not (from == to) && nat_lt 0 (spread_of t.links from to)) (range_with_len 0 t.nodes)

abbrev pub has_spread : Timing → Bool
has_spread t = list_any (has_spread_from t) (range_with_len 0 t.nodes)

-- a change of a bound makes it larger, within the limits of a scenario; none of the other changes is one of a bound
abbrev pub IsLarger : Bounds → Change → Type 0
IsLarger b (changes.Horizon n) = (b.horizon < n) × (n ≤ 48)
IsLarger b (changes.Budget n) = (b.budget < n) × (n ≤ 6)
IsLarger b (changes.Crashes n) = (b.crashes < n) × (n ≤ b.nodes)
IsLarger b (changes.PauseLength n) = (b.pause_length < n) × (n ≤ 8)
IsLarger b other = ⊥
