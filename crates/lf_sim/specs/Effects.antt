-- What a set of faults does, as tables.
use Rattle.std.specs.Prelude.{◌≡◌, ℕ, ◌+◌, ◌*◌, ◌<◌, ◌≤◌, Bool, false, ◌==◌, ◌&&◌, nat_le, List, slice_index, slice_index_or}
use Rattle.std.specs.List.{list_any}
use Rattle.lf_faults.specs.declared.fault.Parts.{Parts}
use Rattle.lf_faults.specs.declared.fault.Parts.TheVariants.{Omit, Crash, Pause}
use Rattle.lf_faults.specs.Faults.{set_crashes}
use Rattle.lf_faults.specs.Allowed.{is_pause_of}

-- the place of a link
abbrev pub link_place : ℕ → ℕ → ℕ
link_place n m = n * 8 + m

-- the fault loses a note from n to m, at whichever step
abbrev pub loses : ℕ → ℕ → Parts → Bool
loses n m (Omit from to step) = (n == from) && (m == to)
loses n m (Crash node step) = false
loses n m (Pause node step) = false

-- by link, whether any of its notes is lost
abbrev pub AreLosing : List Parts → List Bool → Type 0
AreLosing faults losing =
    (n m : ℕ) → n < 8 → m < 8 → slice_index_or losing (link_place n m) false ≡ list_any (loses n m) faults

-- by node, the step from which it has crashed
abbrev pub AreCrashes : List Parts → List ℕ → Type 0
AreCrashes faults crashes = (n t : ℕ) → n < 8 → t ≤ 48 → nat_le (slice_index crashes n) t ≡ set_crashes faults n t

-- by node, whether it is ever paused
abbrev pub ArePausing : List Parts → List Bool → Type 0
ArePausing faults pausing = (n : ℕ) → n < 8 → slice_index_or pausing n false ≡ list_any (is_pause_of n) faults
