-- The limits of the protocols' settings.
use Rattle.std.specs.Prelude.{ℕ, ◌≤◌, Bool, true, IsTrue, List, All, drop, slice_index_or}
use Rattle.lf_protocols.specs.declared.protocol.Kind.{Kind}
use Rattle.lf_protocols.specs.declared.protocol.Kind.TheVariants.{Retry, Redundant, TwoPhase, ThreePhase, PrimaryBackup, Ruled}

-- 2 to 8 nodes, and 1 to 48 tries
abbrev pub IsDelivery : ℕ → ℕ → Type 0
IsDelivery nodes tries = (2 ≤ nodes) × (nodes ≤ 8) × (1 ≤ tries) × (tries ≤ 48)

-- votes, each in its node's place: true at every place of no participant, so at 0, and from `nodes` on
abbrev pub AreVotes : ℕ → List Bool → Type 0
AreVotes nodes votes = IsTrue (slice_index_or votes 0 true) × All IsTrue (drop nodes votes)

-- 2 to 8 nodes, 1 to 48 steps, and the votes
abbrev pub IsCommit : ℕ → ℕ → List Bool → Type 0
IsCommit nodes patience votes = (2 ≤ nodes) × (nodes ≤ 8) × (1 ≤ patience) × (patience ≤ 48) × AreVotes nodes votes

-- 3 to 8 nodes, and 1 to 48 steps
abbrev pub IsBackup : ℕ → ℕ → Type 0
IsBackup nodes patience = (3 ≤ nodes) × (nodes ≤ 8) × (1 ≤ patience) × (patience ≤ 48)

abbrev pub IsWithinLimits : Kind → Type 0
IsWithinLimits (Retry nodes tries) = IsDelivery nodes tries
IsWithinLimits (Redundant nodes tries) = IsDelivery nodes tries
IsWithinLimits (TwoPhase nodes patience votes) = IsCommit nodes patience votes
IsWithinLimits (ThreePhase nodes patience votes) = IsCommit nodes patience votes
IsWithinLimits (PrimaryBackup nodes patience) = IsBackup nodes patience
IsWithinLimits (Ruled m) = (2 ≤ m.nodes) × (m.nodes ≤ 8)
