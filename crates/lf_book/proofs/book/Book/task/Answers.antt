use Rattle.std.proofs.Common.{◌≡◌, refl, length, arith, take, ◌+◌}
use Rattle.lf_marks.specs.Marks.{mark_at}
use Rattle.lf_book.proofs.TaskLemmas.{whole, other-excluded}
use Rattle.lf_book.proofs.book.Book.task.Goals as goal

pub path-init : goal.path-init
path-init c = rw (c.empty-set.ensures, c.reserve.ensures.items, c.clear.ensures.items) refl

pub step-larger-requires-clause-leads : goal.step-larger-requires-clause-leads
step-larger-requires-clause-leads c = (c.path.excluded.items, c.path.invariant)

pub path-preserved : goal.path-preserved
path-preserved c =
    other-excluded (mark_at c.args.self.now.marks) (take (c.path.depth + 1) c.args.path.now) c.step-larger.result.1 _ c.extend_from_slice.new.self.items
    c.in_ok-extend_from_slice.ensures.items (c.step-larger.ensures c.path.excluded.items c.path.invariant)

pub returns : goal.returns
returns c =
    let end : c.path.depth ≡ length c.args.path.now = omega (arith, c.path-test.false) in
    whole (mark_at c.args.self.now.marks) c.args.path.now c.path.depth (record { faults = c.path.set; excluded = c.path.excluded.items }) end c.path.invariant
