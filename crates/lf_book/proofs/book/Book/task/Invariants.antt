use Rattle.std.proofs.Common.{◌≡◌, Some, take}
use Rattle.lf_marks.specs.Marks.{mark_at}
use Rattle.lf_certificate.specs.Tasks.{task_at}
use Rattle.lf_book.proofs.book.Book.task.Given as goal

-- what the path leads to so far
abbrev pub invariant-path : goal.invariant-path
invariant-path l = task_at (mark_at l.self.marks) (take l.depth l.path) ≡ Some (record { faults = l.set; excluded = l.excluded.items })
