-- What comes in at a point, under two sets of faults, and a run on its way from the one set to the other.
use Rattle.std.specs.Prelude.{◌≡◌, ◌≢◌, ◌⊎◌, ◌↔◌, ℕ, ◌+◌, ◌<◌, ◌≤◌, Bool, false, if◌then◌else◌, List, Some}
use Rattle.std.specs.List.{Contains}
use Rattle.lf_faults.specs.declared.fault.Parts.{Parts}
use Rattle.lf_faults.specs.declared.fault.Parts.TheVariants.{Omit, Crash, Pause}
use Rattle.lf_faults.specs.Faults.{set_omits}
use Rattle.lf_sim.specs.Marks.{is_marked}
use Rattle.lf_sim.specs.declared.letter.Letter.{Letter}
use Rattle.lf_sim.specs.declared.out.Stepped.{Stepped}
use Rattle.lf_sim.specs.declared.record.Run.{Run}
use Rattle.lf_sim.specs.Outs.{nothing}
use Rattle.lf_sim.specs.Runs.{World, is_up, before_step, did, view, sent}
use Rattle.lf_sim.specs.Settings.{HasSize, cell_of, sent_of, set_of, state_of}

-- the fault has a say in what comes in at m's step u: whether m is up there, whether it wakes, or which letters reach it
abbrev pub Touches : {State Note Fact : Type 0} → World State Note Fact → ℕ → ℕ → Parts → Type 0
Touches w m u (Omit from to step) = (from < w.rules.nodes) × (from ≢ to) × (to ≡ m) × (step < u) × (w.arrival from to step ≡ u)
Touches w m u (Crash node step) = (node ≡ m) × (step ≤ u)
Touches w m u (Pause node step) = (node ≡ m) × (step ≤ u) × (u ≤ step + w.pause_length)

-- the same of whether m is up there and whether it wakes, in which omissions have no say
abbrev pub Stops : {State Note Fact : Type 0} → World State Note Fact → ℕ → ℕ → Parts → Type 0
Stops w m u (Omit from to step) = ⊥
Stops w m u (Crash node step) = (node ≡ m) × (step ≤ u)
Stops w m u (Pause node step) = (node ≡ m) × (step ≤ u) × (u ≤ step + w.pause_length)

module _ {State Note Fact : Type 0} (w : World State Note Fact) (faults : List Parts) (m u : ℕ) where
  -- what m does at step u, from its last state and its letters
  abbrev pub act : State → List (Letter Note) → Stepped State Note
  act last letters = if is_up w faults m u then w.rules.step m u (before_step w faults m u last) letters else record { state = last; out = nothing }

  -- from that state it does the same with whatever letters
  abbrev pub IsDeaf : State → Type 0
  IsDeaf last = (letters others : List (Letter Note)) → act last letters ≡ act last others

  -- so it does from the state that a run has
  abbrev pub Ignores : {M : Type 0} → Run M State Note Fact → Type 0
  Ignores run = (v : ℕ) (last : State) → u ≡ v + 1 → state_of run m v ≡ Some last → IsDeaf last

module _ {M State Note Fact : Type 0} (w : World State Note Fact) (from to : List Parts) (run : Run M State Note Fact) where
  -- up to the node n at step t the run is as the second set has it, and from there on as the first has it
  pub record IsOnItsWay (t n : ℕ) : Type 0 where
    pub size : HasSize w run
    pub set : set_of run ≡ to
    pub done : (m s : ℕ) → m < w.rules.nodes → s < t → cell_of run m s ≡ Some (did w to m s)
    pub here : (m : ℕ) → m < w.rules.nodes → m < n → cell_of run m t ≡ Some (did w to m t)
    pub next : (m : ℕ) → m < w.rules.nodes → n ≤ m → t ≤ w.horizon → cell_of run m t ≡ Some (did w from m t)
    pub left : (m s : ℕ) → m < w.rules.nodes → t < s → s ≤ w.horizon → cell_of run m s ≡ Some (did w from m s)

  -- what comes in at m's step u is so far as the first set has it: whether it is up and wakes, its last state, and each letter unless m
  -- ignores them
  pub record IsUnchanged (m u : ℕ) : Type 0 where
    pub stops : (f : Parts) → Stops w m u f → (Contains from f ↔ Contains to f)
    pub last : (t : ℕ) → u ≡ t + 1 → state_of run m t ≡ Some (view w from m t)
    pub heard : (n t : ℕ) → n < w.rules.nodes → n ≢ m → 1 ≤ t → t < u → w.arrival n m t ≡ u →
        Ignores w to m u run ⊎ ((set_omits from n m t ≡ set_omits to n m t) × (sent_of run n m t ≡ Some (sent w from n m t)))

module _ {M State Note Fact : Type 0} (w : World State Note Fact) (to : List Parts) (run : Run M State Note Fact) where
  -- of an omission: its receiver ignores its letters at that step
  abbrev pub IsSpared : ℕ → ℕ → Parts → Type 0
  IsSpared m u (Omit node other step) = Ignores w to m u run
  IsSpared m u (Crash node step) = ⊥
  IsSpared m u (Pause node step) = ⊥

  -- each point in which the fault has a say is marked or spared
  abbrev pub IsMarked : Parts → List Bool → Type 0
  IsMarked f points =
      (m u : ℕ) → m < w.rules.nodes → 1 ≤ u → u ≤ w.horizon → Touches w m u f → is_marked points m u ≡ false → IsSpared m u f

  -- a fault of the one set that has a say in a point that isn't marked or spared is in the other set too
  abbrev pub AreMarked : List Parts → List Parts → List Bool → Type 0
  AreMarked faults others points =
      (f : Parts) → Contains faults f → (m u : ℕ) → m < w.rules.nodes → 1 ≤ u → u ≤ w.horizon → Touches w m u f → is_marked points m u ≡ false →
      Contains others f ⊎ IsSpared m u f

-- each point that isn't marked is unchanged so far
abbrev pub Covers : {M State Note Fact : Type 0} → World State Note Fact → List Parts → List Parts → Run M State Note Fact → List Bool → Type 0
Covers w from to run points = (m u : ℕ) → m < w.rules.nodes → 1 ≤ u → u ≤ w.horizon → is_marked points m u ≡ false → IsUnchanged w from to run m u

-- at each point that isn't marked a node is up under both sets or under neither, and has the same view after it
pub record IsSameAt {State Note Fact : Type 0} (w : World State Note Fact) (from to : List Parts) (n t : ℕ) : Type 0 where
  pub up : is_up w from n t ≡ is_up w to n t
  pub view : view w from n t ≡ view w to n t

abbrev pub AreSameBut : {State Note Fact : Type 0} → World State Note Fact → List Parts → List Parts → List Bool → Type 0
AreSameBut w from to points =
    (n t : ℕ) → n < w.rules.nodes → 1 ≤ t → t ≤ w.horizon → is_marked points n t ≡ false → IsSameAt w from to n t
