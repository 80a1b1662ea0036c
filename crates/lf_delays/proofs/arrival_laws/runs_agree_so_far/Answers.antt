use Rattle.std.proofs.Common.{ap}
use Rattle.lf_sim.specs.declared.out.Stepped.{Stepped}
use Rattle.lf_sim.specs.Outs.{note_to}
use Rattle.lf_delays.proofs.Agreeing.{did_agree}
use Rattle.lf_delays.proofs.arrival_laws.runs_agree_so_far.Goals as goal

pub returns-clause-views : goal.returns-clause-views
returns-clause-views g c w faults other reach level agree n t low = ap (λ (x : Stepped _ _). x.state) (did_agree w faults other reach level agree n t low)

pub returns-clause-notes : goal.returns-clause-notes
returns-clause-notes g c w faults other reach level agree n m t low =
    ap (λ (x : Stepped _ _). note_to x.out m) (did_agree w faults other reach level agree n t low)
