use Rattle.std.proofs.Common.{◌≡◌, ℕ, List, length}
use Rattle.std.specs.Option.{option_map}
use Rattle.lf_marks.specs.Marks.{mark_at, level_of}
use Rattle.lf_marks.specs.Steps.{freed}
use Rattle.lf_marks.specs.Claims.{standing}
use Rattle.lf_marks.proofs.marks.Marks.reclaim.Given as goal

abbrev pub invariant-claims : goal.invariant-claims
invariant-claims l =
    ((q : List ℕ) → option_map freed (mark_at l.self q) ≡ option_map freed (mark_at l.initial.self q)) × (level_of l.self ≡ level_of l.initial.self)

abbrev pub decreases-claims : goal.decreases-claims
decreases-claims l = length (standing l.self.claims)
