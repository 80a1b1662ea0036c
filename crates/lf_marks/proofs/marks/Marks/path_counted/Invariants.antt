use Rattle.std.proofs.Common.{◌≡◌, ◌+◌, ◌<◌, length, Some, reverse}
use Rattle.lf_marks.specs.Arena.{look}
use Rattle.lf_marks.specs.Walks.{led_from}
use Rattle.lf_marks.proofs.marks.Marks.path_counted.Given as goal

abbrev pub invariant-loop-at : goal.invariant-loop-at
invariant-loop-at g l =
    (l.at < length l.self.sets.items)
    × (led_from (look l.self.sets.items) l.at (reverse l.path.items) ≡ Some l.place)
    × (l.steps + (look l.self.sets.items l.at).depth ≡ l.initial.steps + (look l.self.sets.items l.place).depth)

abbrev pub decreases-loop-at : goal.decreases-loop-at
decreases-loop-at g l = l.at
