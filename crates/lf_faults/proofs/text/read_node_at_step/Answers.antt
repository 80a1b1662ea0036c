use Rattle.lf_faults.proofs.Texts.{no_at, no_step}
use Rattle.lf_faults.proofs.text.read_node_at_step.Goals as goal

pub returns-in_err-after : goal.returns-in_err-after
returns-in_err-after c =
    rw c.from_residual-in_err-after.ensures
    (no_at c.args.bytes.now c.in_ok-node.rest.now c.in_ok-node.node c.in_ok-node.ensures.0 c.in_ok-node.ensures.1 c.in_err-after.ensures)

pub returns-in_err-step : goal.returns-in_err-step
returns-in_err-step c =
    rw c.from_residual-in_err-step.ensures
    (no_step c.args.bytes.now c.in_ok-node.rest.now c.in_ok-after.field-0.now c.in_ok-node.node c.in_ok-node.ensures.0 c.in_ok-node.ensures.1
    c.in_ok-after.ensures c.in_err-step.ensures)
