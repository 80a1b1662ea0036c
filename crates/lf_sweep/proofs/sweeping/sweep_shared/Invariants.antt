use Rattle.std.proofs.Common.{◌≡◌, ◌-◌, ◌≤◌, false}
use Rattle.lf_sweep.specs.Sweeps.{WereTold}
use Rattle.lf_sweep.proofs.sweeping.sweep_shared.Given as goal

-- the lines that were written
abbrev pub invariant-rounds : goal.invariant-rounds
invariant-rounds g l =
    (WereTold g.W.Sink.written g.W.Sink.has_failed (g.Q.Questions.total l.questions) (g.Q.Questions.is_reply l.questions) (g.Q.Questions.line l.questions)
    (g.Q.Questions.refuses l.questions) l.part 0 l.place l.initial.writer l.writer l.counts
    × (g.W.Sink.has_failed l.writer ≡ false)) × (l.place ≤ l.count)

abbrev pub decreases-rounds : goal.decreases-rounds
decreases-rounds g l = l.count - l.place
