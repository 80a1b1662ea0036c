use Rattle.std.proofs.Common.{◌+◌, refl, length, arith}
use Rattle.lf_marks.proofs.StateLemmas.{counts-at}
use Rattle.lf_marks.specs.Arena.{marks_of}
use Rattle.lf_marks.specs.Claims.{standing}
use Rattle.lf_marks.proofs.marks.Marks.counts.Goals as goal

pub returns-clause-counts : goal.returns-clause-counts
returns-clause-counts c =
    let m = c.args.self.now in
    counts-at (marks_of m.sets.items m.start) (m.untaken + length m.opened.items) (m.untaken + c.len.result) (length (standing m.claims)) c.count.result
    m.answered m.answered m.waiting m.waiting (omega (arith, c.len.ensures, m.opened.ok)) (omega (arith, c.count.ensures)) refl refl
    m.state.counted
