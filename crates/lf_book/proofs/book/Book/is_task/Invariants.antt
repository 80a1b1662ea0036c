use Rattle.std.proofs.Common.{◌≡◌, ◌≤◌, Some, take, length}
use Rattle.lf_marks.specs.Marks.{mark_at}
use Rattle.lf_certificate.specs.Tasks.{task_at}
use Rattle.lf_book.proofs.book.Book.is_task.Given as goal

-- what the path leads to so far: as much of what is excluded was found
abbrev pub invariant-path : goal.invariant-path
invariant-path l =
    (l.at ≤ length l.excluded)
    × (task_at (mark_at l.self.marks) (take l.depth l.path) ≡ Some (record { faults = l.found; excluded = take l.at l.excluded }))
