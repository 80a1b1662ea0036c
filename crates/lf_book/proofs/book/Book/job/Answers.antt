use Rattle.std.proofs.Common.{sym, subst, IsSome}
use Rattle.lf_marks.specs.Marks.{mark_at}
use Rattle.lf_book.proofs.book.Book.job.Goals as goal

pub task-requires : goal.task-requires
task-requires c = subst (λ q. IsSome (mark_at c.args.self.now.marks q)) (sym c.as_slice.ensures.value) c.requires.stands
