use Rattle.std.proofs.Common.{◌≡◌, false}
use Rattle.lf_sweep.specs.Sweeps.{WereTold}
use Rattle.lf_sweep.proofs.sweeping.sweep.Given as goal

-- the lines that were written
abbrev pub invariant-places : goal.invariant-places
invariant-places g l =
    WereTold g.W.Sink.written g.W.Sink.has_failed (g.Q.Questions.total l.questions) (g.Q.Questions.is_reply l.questions) (g.Q.Questions.line l.questions)
    (g.Q.Questions.refuses l.questions) l.part 0 l.place l.initial.writer l.writer l.counts
    × (g.W.Sink.has_failed l.writer ≡ false)
