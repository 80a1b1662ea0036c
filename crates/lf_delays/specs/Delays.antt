-- Late arrivals, and their text.
use Rattle.std.specs.Prelude.{◌≡◌, ◌≢◌, ◌↔◌, ℕ, ◌<◌, ◌≤◌, ◌&&◌, ◌==◌, if◌then◌else◌, Bool, List, [], ◌∷◌, ◌++◌, codes, map, Option, Some}
use Rattle.std.specs.Fmt.{decimal}
use Rattle.std.specs.List.{AllByRecursion, join_with_byte}
use Rattle.lf_faults.specs.Texts.{slot_at}
use Rattle.lf_latency.specs.declared.arrivals.Arrivals.{Arrivals}
use Rattle.lf_latency.specs.declared.network.Timing.{Timing}
use Rattle.lf_latency.specs.Arrivals.{IsInWindow, IsSlot, earliest}
use Rattle.lf_latency.specs.Table.{arrivals_by}
use Rattle.lf_delays.specs.declared.delay.Delay.{Delay}

-- a slot, one space, and the step at which its note arrives: `0>1 @9 13`
abbrev pub delay_text : Delay → List ℕ
delay_text d = slot_at d.slot.from d.slot.to d.slot.step ++ (codes " " ++ decimal d.at)

-- one comma (44) stands between each two
abbrev pub list_text : List Delay → List ℕ
list_text ds = join_with_byte 44 (map delay_text ds)

-- a line of one, and those of all
abbrev pub arrive_line : Delay → List ℕ
arrive_line d = codes "arrive " ++ (delay_text d ++ codes "\n")

abbrev pub arrive_lines : List Delay → List ℕ
arrive_lines [] = []
arrive_lines (d ∷ ds) = arrive_line d ++ arrive_lines ds

-- the slot is one of the network's, and the note can arrive at the step
pub record IsDelay (timing : Timing) (d : Delay) : Type 0 where
  pub slot : IsSlot timing d.slot.from d.slot.to d.slot.step
  pub window : IsInWindow timing.links d.slot.from d.slot.to d.slot.step d.at

-- none of these is of the delay's slot
abbrev pub IsNew : List Delay → Delay → Type 0
IsNew ds d = AllByRecursion (λ e. e.slot ≢ d.slot) ds

-- no slot stands twice
abbrev pub AreApart : List Delay → Type 0
AreApart [] = Unit {0}
AreApart (d ∷ ds) = IsNew ds d × AreApart ds

-- each is a delay of the network, and no slot stands twice
pub record AreDelays (timing : Timing) (ds : List Delay) : Type 0 where
  pub each : AllByRecursion (IsDelay timing) ds
  pub apart : AreApart ds

-- it is of this slot
abbrev pub is_of : ℕ → ℕ → ℕ → Delay → Bool
is_of n m t d = (n == d.slot.from) && ((m == d.slot.to) && (t == d.slot.step))

-- the step that the first of a slot names, and another's where none is of it
abbrev pub named_or : (ℕ → ℕ → ℕ → ℕ) → List Delay → ℕ → ℕ → ℕ → ℕ
named_or others [] n m t = others n m t
named_or others (d ∷ ds) n m t = if is_of n m t d then d.at else named_or others ds n m t

-- these notes arrive as they say, and all others as early as they can
abbrev pub delayed : Timing → List Delay → Arrivals
delayed timing ds = arrivals_by timing (named_or (earliest timing.links) ds)

-- the text is that of delays of the network, which give these arrivals
pub record Names (timing : Timing) (text : List ℕ) (arrivals : Arrivals) : Type 0 where
  pub delays : List Delay
  pub are : AreDelays timing delays
  pub spelled : text ≡ list_text delays
  pub give : arrivals ≡ delayed timing delays

-- what is read is what the text names, and nothing where it names none
abbrev pub IsRead : Timing → List ℕ → Option Arrivals → Type 0
IsRead timing text read = (arrivals : Arrivals) → ((read ≡ Some arrivals) ↔ Names timing text arrivals)

-- nodes of one digit, and steps from 1 of at most two
pub record IsShort (d : Delay) : Type 0 where
  pub from : d.slot.from < 10
  pub to : d.slot.to < 10
  pub first : 1 ≤ d.slot.step
  pub step : d.slot.step < 100
  pub later : 1 ≤ d.at
  pub at : d.at < 100
