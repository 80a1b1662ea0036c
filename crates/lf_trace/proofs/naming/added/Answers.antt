use Rattle.lf_trace.proofs.Pieces.{adds_none, adds_one}
use Rattle.lf_trace.proofs.naming.added.Goals as goal

pub returns-in_err-fault : goal.returns-in_err-fault
returns-in_err-fault c =
    adds_none c.args.piece.now c.args.set.now c.read_fault.result c.read_fault.ensures.fault c.in_err-fault.was
    c.from_residual.result c.from_residual.ensures

pub returns : goal.returns
returns c =
    adds_one c.args.piece.now c.args.set.now c.read_fault.result c.read_fault.ensures.fault c.in_ok-fault.fault c.in_ok-fault.ensures.in_range
    c.in_ok-fault.was c.insert.result c.insert.ensures.some c.insert.ensures.value
