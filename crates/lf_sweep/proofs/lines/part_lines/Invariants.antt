use Rattle.lf_sweep.specs.Rows.{AreToldAt}
use Rattle.lf_sweep.proofs.lines.part_lines.Given as goal

-- the lines so far
abbrev pub invariant-places : goal.invariant-places
invariant-places g l =
    AreToldAt (g.Q.Questions.total l.questions) (g.Q.Questions.is_reply l.questions) (g.Q.Questions.line l.questions) l.part
    l.from l.i l.bytes.items l.counts
