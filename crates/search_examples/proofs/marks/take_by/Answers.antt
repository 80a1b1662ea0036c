use Rattle.std.proofs.Common.{◌≡◌, ℕ, subst, arith}
use Rattle.lf_marks.specs.Counting.{AreCounts}
use Rattle.lf_marks.specs.Marks.{mark_at}
use Rattle.lf_marks.proofs.Laws.{none-claimed}
use Rattle.search_examples.proofs.marks.take_by.Goals as goal

pub claim-requires-clause-above : goal.claim-requires-clause-above
claim-requires-clause-above g c p t h =
    let at = mark_at c.args.marks.now in
    let n = c.counts.result in
    let none : n.claimed ≡ 0 = omega (arith, c.if-counts-gt0.false) in
    let counts = subst (λ (k : ℕ). AreCounts at n.ready k n.answered n.waiting) none c.counts.ensures.counts in
    absurd (none-claimed at n.ready n.answered n.waiting counts t p h)
