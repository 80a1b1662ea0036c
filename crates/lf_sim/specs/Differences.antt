-- Where a turn may differ from another.
use Rattle.std.specs.Prelude.{◌≡◌, ℕ, ◌==◌, Bool, false, if◌then◌else◌}
use Rattle.lf_sim.specs.declared.difference.Difference.{Difference}
use Rattle.lf_sim.specs.declared.out.Stepped.{Stepped}
use Rattle.lf_sim.specs.Outs.{note_to}

-- whether the note for m may differ
abbrev pub differs : Difference → ℕ → Bool
differs told m =
    if m == 0 then told.to0 else if m == 1 then told.to1 else if m == 2 then told.to2 else if m == 3 then told.to3
    else if m == 4 then told.to4 else if m == 5 then told.to5 else if m == 6 then told.to6 else if m == 7 then told.to7 else false

-- what isn't told to differ is the same
pub record IsTold {State Note : Type 0} (told : Difference) (one other : Stepped State Note) : Type 0 where
  pub state : told.state ≡ false → one.state ≡ other.state
  pub notes : (m : ℕ) → differs told m ≡ false → note_to one.out m ≡ note_to other.out m
