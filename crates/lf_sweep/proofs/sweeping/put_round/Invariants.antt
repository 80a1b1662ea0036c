use Rattle.std.proofs.Common.{◌≡◌, ◌*◌, false}
use Rattle.lf_sweep.specs.Sweeps.{WereTold}
use Rattle.lf_sweep.proofs.sweeping.put_round.Given as goal

-- the lines that were written
abbrev pub invariant-lanes : goal.invariant-lanes
invariant-lanes g l =
    WereTold g.W.Sink.written g.W.Sink.has_failed (g.Q.Questions.total l.questions) (g.Q.Questions.is_reply l.questions) (g.Q.Questions.line l.questions)
    (g.Q.Questions.refuses l.questions) l.fn.part l.fn.round.place (l.lane * l.fn.round.size) l.initial.writer l.writer l.counts
    × (g.W.Sink.has_failed l.writer ≡ false)
