use Rattle.lf_trace.proofs.Points.{differ_first, differ_never}
use Rattle.lf_trace.proofs.promises.differences_are_first.Goals as goal

pub returns-clause-first : goal.returns-clause-first
returns-clause-first g c =
    λ words w other faults past n within node apart lower earlier. differ_first words w other faults past n within node apart lower earlier

pub returns-clause-none : goal.returns-clause-none
returns-clause-none g c = λ words w other faults same. differ_never words w other faults same
