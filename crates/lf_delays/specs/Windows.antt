-- Worlds under assignments: when each note arrives, whatever the others do.
use Rattle.std.specs.Prelude.{◌≡◌, ◌≢◌, ◌↔◌, ℕ, ◌+◌, ◌<◌, ◌≤◌, true, false, List, Some}
use Rattle.lf_faults.specs.declared.fault.Parts.{Parts}
use Rattle.lf_faults.specs.Faults.{set_omits}
use Rattle.lf_sim.specs.Runs.{World, is_up, sent}

-- the world in which notes arrive by the assignment
abbrev pub under : {State Note Fact : Type 0} → World State Note Fact → (ℕ → ℕ → ℕ → ℕ) → World State Note Fact
under w a = record { rules = w.rules; horizon = w.horizon; pause_length = w.pause_length; arrival = a }

-- of each node a last step, none more than one past another's
abbrev pub AreLevel : (ℕ → ℕ) → Type 0
AreLevel reach = (n m : ℕ) → reach m ≤ reach n + 1

-- up to these steps, what nodes that are up have sent arrives at nodes that are up at the same steps by both, but for what the set omits
abbrev pub AgreeUpTo : {State Note Fact : Type 0} → World State Note Fact → List Parts → (ℕ → ℕ → ℕ → ℕ) → (ℕ → ℕ) → Type 0
AgreeUpTo {Note = Note} w faults other reach =
    (n m t u : ℕ) (note : Note) → n < w.rules.nodes → m < w.rules.nodes → n ≢ m → 1 ≤ t → t ≤ w.horizon → t < u → u ≤ reach m
    → is_up w faults m u ≡ true → sent w faults n m t ≡ Some note → set_omits faults n m t ≡ false
    → ((w.arrival n m t ≡ u) ↔ (other n m t ≡ u))
