use Rattle.lf_delays.proofs.Late.{late-told, told-late}
use Rattle.lf_delays.proofs.facts.told_delays_are_late.Goals as goal

pub returns : goal.returns
returns g c w faults links d = (told-late w faults links d, late-told w faults links d)
