-- How a fault is written: `omit 0>1 @12`, `crash 3 @10`, `pause 2 @9`.
use Rattle.std.specs.Prelude.{◌≡◌, ◌≢◌, ℕ, List, ◌++◌, codes, Option, MatchOption}
use Rattle.std.specs.Fmt.{decimal}
use Rattle.lf_faults.specs.declared.fault.Parts.{Parts}
use Rattle.lf_faults.specs.declared.fault.Parts.TheVariants.{Omit, Crash, Pause}
use Rattle.lf_faults.specs.Faults.{IsFault}

-- a node, one space, `@` and a step, each number in decimal with no sign and no leading zero: `3 @10`
abbrev pub node_at_step : ℕ → ℕ → List ℕ
node_at_step node step = decimal node ++ (codes " @" ++ decimal step)

-- a slot, a sender, a receiver and the step at which it is sent: `0>1 @12`
abbrev pub slot_at : ℕ → ℕ → ℕ → List ℕ
slot_at from to step = decimal from ++ (codes ">" ++ node_at_step to step)

-- the one text of a fault, as bytes: the word and one space come first
abbrev pub spelling : Parts → List ℕ
spelling (Omit from to step) = codes "omit " ++ slot_at from to step
spelling (Crash node step) = codes "crash " ++ node_at_step node step
spelling (Pause node step) = codes "pause " ++ node_at_step node step

-- the fault that the text spells, or none where it spells no fault
abbrev pub Reads : List ℕ → Option Parts → Type 0
Reads text read = MatchOption read ((f : Parts) → IsFault f → text ≢ spelling f) (λ f. IsFault f × (text ≡ spelling f))
