use Rattle.std.proofs.Common.{◌≡◌, ◌<◌, length, drop}
use Rattle.lf_marks.specs.Arena.{look}
use Rattle.lf_marks.specs.Walks.{led_from}
use Rattle.lf_marks.proofs.marks.Marks.place_at.Given as goal

abbrev pub invariant-path : goal.invariant-path
invariant-path l =
    (l.place < length l.self.sets.items)
    × (led_from (look l.self.sets.items) l.place (drop l.kid-index l.path) ≡ led_from (look l.self.sets.items) 0 l.path)
