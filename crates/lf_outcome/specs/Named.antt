-- The formulas of the named outcomes.
use Rattle.std.specs.Prelude.{◌≡◌, ℕ, ◌<◌, true, List, [], ◌∷◌, map}
use Rattle.std.specs.List.{range_with_len}
use Rattle.lf_faults.specs.declared.fault.Parts.{Parts}
use Rattle.lf_sim.specs.Runs.{World, is_up, view}
use Rattle.lf_protocols.specs.declared.fact.Fact.{Fact}
use Rattle.lf_protocols.specs.declared.fact.Fact.TheVariants.{Has, Lacks, NotCommitted, NotAborted, Free, Backup, NotDone, Holds}
use Rattle.lf_outcome.specs.declared.formula.Formula.{Formula}
use Rattle.lf_outcome.specs.declared.formula.Formula.TheVariants as kind
use Rattle.lf_outcome.specs.declared.outcome.Outcome.{Outcome}
use Rattle.lf_outcome.specs.declared.outcome.Outcome.TheVariants.{Delivered, Agreement, Unblocked, OnePrimary, Durable}

-- n isn't up at t, or shows the fact
abbrev pub shows_or_down : {F : Type 0} → ℕ → F → ℕ → Formula F
shows_or_down t fact n = kind.Any (kind.Down n t ∷ kind.Shows n t fact ∷ [])

-- each of the nodes 0 to nodes - 1 that is up at t shows the fact
abbrev pub each_shows : {F : Type 0} → ℕ → ℕ → F → Formula F
each_shows nodes t fact = kind.All (map (shows_or_down t fact) (range_with_len 0 nodes))

-- node 0 isn't up at t, or node 1 isn't, or node 1 is a backup
abbrev pub one_primary_at : ℕ → Formula Fact
one_primary_at t = kind.Any (kind.Down 0 t ∷ kind.Down 1 t ∷ kind.Shows 1 t Backup ∷ [])

-- node 2 isn't up at t, or wasn't told that its write is done, or node 0 or node 1 is up and holds it
abbrev pub durable_at : ℕ → Formula Fact
durable_at t = kind.Any (kind.Down 2 t ∷ kind.Shows 2 t NotDone ∷ kind.Shows 0 t Holds ∷ kind.Shows 1 t Holds ∷ [])

-- the formula of an outcome, for so many nodes and a last step
abbrev pub formula_of : Outcome → ℕ → ℕ → Formula Fact
-- all that are up at the end have the data, or all of them lack it
formula_of Delivered nodes horizon = kind.Any (each_shows nodes horizon Has ∷ each_shows nodes horizon Lacks ∷ [])
-- none that is up at the end has committed, or none of them has aborted
formula_of Agreement nodes horizon = kind.Any (each_shows nodes horizon NotCommitted ∷ each_shows nodes horizon NotAborted ∷ [])
-- none that is up at the end is blocked
formula_of Unblocked nodes horizon = each_shows nodes horizon Free
-- there is one primary at the end
formula_of OnePrimary nodes horizon = one_primary_at horizon
-- a write that is told to be done is there at the end
formula_of Durable nodes horizon = durable_at horizon

-- the nodes 0 to nodes - 1 that are up at t all show the fact in their views after t
abbrev pub AllUpShow : {State Note F : Type 0} → World State Note F → List Parts → ℕ → ℕ → F → Type 0
AllUpShow w faults nodes t fact =
    (n : ℕ) → n < nodes → is_up w faults n t ≡ true → w.rules.shows n (view w faults n t) fact ≡ true

-- n is up at t, and shows the fact in its view after t
abbrev pub UpShows : {State Note F : Type 0} → World State Note F → List Parts → ℕ → ℕ → F → Type 0
UpShows w faults n t fact = (is_up w faults n t ≡ true) × (w.rules.shows n (view w faults n t) fact ≡ true)
