-- The words of the laws of runs.
use Rattle.std.specs.Prelude.{◌≡◌, ◌≢◌, ◌⊎◌, ◌↔◌, ℕ, ◌+◌, ◌<◌, ◌≤◌, true, List, Some}
use Rattle.std.specs.List.{Contains}
use Rattle.lf_faults.specs.declared.fault.Parts.{Parts}
use Rattle.lf_faults.specs.declared.fault.Parts.TheVariants.{Omit, Crash, Pause}
use Rattle.lf_faults.specs.Faults.{step_of}
use Rattle.lf_sim.specs.declared.letter.Letter.{Letter}
use Rattle.lf_sim.specs.Outs.{note_to}
use Rattle.lf_sim.specs.Runs.{World, is_up, view, sent, inbox}

-- n takes step t: (n,t) is a point, n hasn't crashed by t, and no pause of n covers t
pub record IsRunning {State Note Fact : Type 0} (w : World State Note Fact) (faults : List Parts) (n t : ℕ) : Type 0 where
  pub node : n < w.rules.nodes
  pub first : 1 ≤ t
  pub last : t ≤ w.horizon
  pub crashes : (s : ℕ) → s ≤ t → ¬ Contains faults (Crash n s)
  pub pauses : (s : ℕ) → s ≤ t → t < s + w.pause_length → ¬ Contains faults (Pause n s)

-- t is the first step after a pause of n
abbrev pub EndsPause : {State Note Fact : Type 0} → World State Note Fact → List Parts → ℕ → ℕ → Type 0
EndsPause w faults n t = (s : ℕ) × (s + w.pause_length ≡ t) × Contains faults (Pause n s)

-- at t, n does what its step gives of this state and its inbox
pub record StepsFrom {State Note Fact : Type 0} (w : World State Note Fact) (faults : List Parts) (n t : ℕ) (from : State) : Type 0 where
  pub state : view w faults n t ≡ (w.rules.step n t from (inbox w faults n t)).state
  pub notes : (m : ℕ) → sent w faults n m t ≡ note_to (w.rules.step n t from (inbox w faults n t)).out m

-- what one node sends to another at a step of the run arrives at a later step
abbrev pub ArrivesLater : {State Note Fact : Type 0} → World State Note Fact → Type 0
ArrivesLater w = (n m t : ℕ) → n < w.rules.nodes → m < w.rules.nodes → n ≢ m → 1 ≤ t → t ≤ w.horizon → t < w.arrival n m t

-- the letter reaches m at u: another node that was up sent its note to m, which arrives at u, and no omission loses it
pub record Reaches {State Note Fact : Type 0} (w : World State Note Fact) (faults : List Parts) (m u : ℕ) (letter : Letter Note) : Type 0 where
  pub sender : letter.from < w.rules.nodes
  pub other : letter.from ≢ m
  pub step : 1 ≤ letter.sent
  pub up : is_up w faults letter.from letter.sent ≡ true
  pub arrives : w.arrival letter.from m letter.sent ≡ u
  pub note : sent w faults letter.from m letter.sent ≡ Some letter.note
  pub kept : ¬ Contains faults (Omit letter.from m letter.sent)

-- by sender, and then by sending step
abbrev pub ComesBefore : {Note : Type 0} → Letter Note → Letter Note → Type 0
ComesBefore a b = (a.from < b.from) ⊎ ((a.from ≡ b.from) × (a.sent < b.sent))

-- the two have the same faults up to step b
abbrev pub SameUntil : ℕ → List Parts → List Parts → Type 0
SameUntil b faults others = (f : Parts) → step_of f ≤ b → (Contains faults f ↔ Contains others f)
