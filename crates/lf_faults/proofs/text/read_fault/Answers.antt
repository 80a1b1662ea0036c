use Rattle.std.proofs.Common.{sym}
use Rattle.lf_faults.proofs.Texts.{reads_same, reads_crash, reads_pause, reads_fault, reads_some}
use Rattle.lf_faults.proofs.text.read_fault.Goals as goal

pub returns-in-Some-clause-fault : goal.returns-in-Some-clause-fault
returns-in-Some-clause-fault c =
    reads_fault c.args.text.now c.read_omission.result
    (reads_same c.args.text.now c.as_bytes-bytes.result.now c.read_omission.result c.as_bytes-bytes.ensures.value
    (reads_same c.as_bytes-bytes.result.now _ c.read_omission.result (sym c.in-Some.ensures) c.read_omission.ensures))

pub returns-in-Some-after-clause-fault : goal.returns-in-Some-after-clause-fault
returns-in-Some-after-clause-fault c =
    reads_fault c.args.text.now c.crash.result
    (reads_crash c.args.text.now c.as_bytes-bytes.result.now c.in-Some-after.rest.now c.in_ok-node.node c.in_ok-node.step c.crash.result
    c.as_bytes-bytes.ensures.value c.in-Some-after.ensures c.in_ok-node.ensures c.crash.ensures.some c.crash.ensures.value)

pub returns-in-Some-after-clause-some : goal.returns-in-Some-after-clause-some
returns-in-Some-after-clause-some c =
    reads_some c.args.text.now c.crash.result
    (reads_crash c.args.text.now c.as_bytes-bytes.result.now c.in-Some-after.rest.now c.in_ok-node.node c.in_ok-node.step c.crash.result
    c.as_bytes-bytes.ensures.value c.in-Some-after.ensures c.in_ok-node.ensures c.crash.ensures.some c.crash.ensures.value)

pub returns-clause-fault : goal.returns-clause-fault
returns-clause-fault c =
    reads_fault c.args.text.now c.pause.result
    (reads_pause c.args.text.now c.as_bytes-bytes.result.now c.in_ok-after.field-0.now c.in_ok-node-2.node c.in_ok-node-2.step c.pause.result
    c.as_bytes-bytes.ensures.value c.in_ok-after.ensures c.in_ok-node-2.ensures c.pause.ensures.some c.pause.ensures.value)

pub returns-clause-some : goal.returns-clause-some
returns-clause-some c =
    reads_some c.args.text.now c.pause.result
    (reads_pause c.args.text.now c.as_bytes-bytes.result.now c.in_ok-after.field-0.now c.in_ok-node-2.node c.in_ok-node-2.step c.pause.result
    c.as_bytes-bytes.ensures.value c.in_ok-after.ensures c.in_ok-node-2.ensures c.pause.ensures.some c.pause.ensures.value)
