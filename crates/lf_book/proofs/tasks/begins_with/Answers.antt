use Rattle.std.proofs.Common.{arith}
use Rattle.lf_book.proofs.SameLemmas.{begins, begun, begun-long}
use Rattle.lf_book.proofs.tasks.begins_with.Goals as goal

pub returns-then-list-start : goal.returns-then-list-start
returns-then-list-start c = (
  λ h. absurd cc,
  λ r. absurd (omega (arith, begun-long c.args.list.now c.args.start.now r.0 r.1, c.if-list-start.true)),
)

pub returns : goal.returns
returns c = (
  λ h. begun c.args.list.now c.args.start.now (c.are_same.ensures.0 h),
  λ r. c.are_same.ensures.1 (begins c.args.list.now c.args.start.now r.0 r.1),
)
