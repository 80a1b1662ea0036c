use Rattle.lf_tree.specs.Rests.{left_of}
use Rattle.lf_tree.proofs.RestLemmas.{skip-Omit, skip-Crash, skip-Pause}
use Rattle.lf_tree.proofs.own.after_fault.Goals as goal

pub returns-in-Omit : goal.returns-in-Omit
returns-in-Omit c =
    skip-Omit c.args.fault.now c.in-Omit.from c.in-Omit.to c.in-Omit.step (left_of c.args.left) (left_of c.after-left.result)
    (left_of c.after_number-left.result)
    (left_of c.after-left-in-Omit.result) (left_of c.after_point-left.result) (left_of c.after.result) c.in-Omit.ensures.value c.after-left.ensures
    c.after_number-left.ensures c.after-left-in-Omit.ensures c.after_point-left.ensures c.after.ensures

pub returns-in-Crash : goal.returns-in-Crash
returns-in-Crash c =
    skip-Crash c.args.fault.now c.in-Crash.node c.in-Crash.step (left_of c.args.left) (left_of c.after-left-in-Crash.result)
    (left_of c.after_point-left-in-Crash.result) (left_of c.after-in-Crash.result) c.in-Crash.ensures.value c.after-left-in-Crash.ensures
    c.after_point-left-in-Crash.ensures c.after-in-Crash.ensures

pub returns-in-Pause : goal.returns-in-Pause
returns-in-Pause c =
    skip-Pause c.args.fault.now c.in-Pause.node c.in-Pause.step (left_of c.args.left) (left_of c.after-left-in-Pause.result)
    (left_of c.after_point-left-in-Pause.result) (left_of c.after-in-Pause.result) c.in-Pause.ensures.value c.after-left-in-Pause.ensures
    c.after_point-left-in-Pause.ensures c.after-in-Pause.ensures
