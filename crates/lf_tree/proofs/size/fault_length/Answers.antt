use Rattle.lf_tree.proofs.LengthLemmas.{length-omission, length-crash, length-pause}
use Rattle.lf_tree.proofs.size.fault_length.Goals as goal

pub returns-in-Omit : goal.returns-in-Omit
returns-in-Omit c =
    length-omission c.args.fault.now c.in-Omit.from c.in-Omit.to c.in-Omit.step c.digits.result c.in-Omit.ensures.value c.in-Omit.ensures.in_range
    c.digits.ensures.value

pub returns-in-Crash : goal.returns-in-Crash
returns-in-Crash c =
    length-crash c.args.fault.now c.in-Crash.node c.in-Crash.step c.digits-in-Crash.result c.in-Crash.ensures.value c.in-Crash.ensures.in_range
    c.digits-in-Crash.ensures.value

pub returns-in-Pause : goal.returns-in-Pause
returns-in-Pause c =
    length-pause c.args.fault.now c.in-Pause.node c.in-Pause.step c.digits-in-Pause.result c.in-Pause.ensures.value c.in-Pause.ensures.in_range
    c.digits-in-Pause.ensures.value
