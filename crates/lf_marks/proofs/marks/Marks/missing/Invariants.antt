use Rattle.std.proofs.Common.{◌≤◌, map}
use Rattle.lf_marks.specs.Arena.{look}
use Rattle.lf_marks.specs.Counting.{AreThose}
use Rattle.lf_marks.proofs.MissLemmas.{IsMiss}
use Rattle.lf_marks.proofs.marks.Marks.missing.Given as goal

-- the paths of the sets so far
abbrev pub invariant-places : goal.invariant-places
invariant-places l =
    (l.self.start ≤ l.place) × (l.place ≤ l.end)
    × AreThose (IsMiss (look l.self.sets.items) l.self.start l.place) (map (λ v. v.items) l.paths.items)
