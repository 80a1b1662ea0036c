-- What it means that entries are of one value for each key.
use Rattle.std.specs.Prelude.{◌≡◌, ℕ, ◌<◌, ◌≤◌, Bool, true, not, ◌||◌, ◌==◌, Option, None, Some, List}
use Rattle.lf_faults.specs.declared.fault.Parts.{Parts}
use Rattle.lf_sim.specs.declared.entry.Entry.{Entry}
use Rattle.lf_sim.specs.Runs.{World, is_up, view}

-- nothing is entered, or something for another key, or this value
abbrev pub fits : ℕ → ℕ → Option Entry → Bool
fits key value None = true
fits key value (Some e) = not (e.key == key) || (e.value == value)

module _ {State Note Fact : Type 0} (w : World State Note Fact) (faults : List Parts) (nodes last topic : ℕ) where
  -- one of so many nodes is up at one of the steps 1 to the last
  pub record IsUpAt (n t : ℕ) : Type 0 where
    pub node : n < nodes
    pub first : 1 ≤ t
    pub within : t ≤ last
    pub up : is_up w faults n t ≡ true

  -- no two points have entries with one key and different values
  abbrev pub NoTwoDiffer : Type 0
  NoTwoDiffer =
      (n m t u : ℕ) (e f : Entry) → IsUpAt n t → IsUpAt m u → w.rules.entry n (view w faults n t) topic ≡ Some e
      → w.rules.entry m (view w faults m u) topic ≡ Some f → e.key ≡ f.key → e.value ≡ f.value

  -- for each key there is a value such that at each point nothing is entered, or something for another key, or this value
  abbrev pub EachKeyHasOne : Type 0
  EachKeyHasOne =
      (key : ℕ) → (value : ℕ) × ((n t : ℕ) → IsUpAt n t → fits key value (w.rules.entry n (view w faults n t) topic) ≡ true)
