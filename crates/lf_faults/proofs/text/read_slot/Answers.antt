use Rattle.std.proofs.Common.{◌++◌, ap, ◌∙◌, ◌∷◌}
use Rattle.std.specs.Fmt.{decimal}
use Rattle.lf_faults.proofs.Texts.{no_sender, no_receiver}
use Rattle.lf_faults.proofs.text.read_slot.Goals as goal

pub returns-in_err-after : goal.returns-in_err-after
returns-in_err-after c =
    rw c.from_residual-in_err-after.ensures
    (no_sender c.args.bytes.now c.in_ok-from.rest.now c.in_ok-from.from c.in_ok-from.ensures.0 c.in_ok-from.ensures.1 c.in_err-after.ensures)

pub returns-in_err-to : goal.returns-in_err-to
returns-in_err-to c =
    rw c.from_residual-in_err-to.ensures
    (no_receiver c.args.bytes.now c.in_ok-from.rest.now c.in_ok-after.field-0.now c.in_ok-from.from c.in_ok-from.ensures.0 c.in_ok-from.ensures.1
    c.in_ok-after.ensures c.in_err-to.ensures)

pub returns : goal.returns
returns c = (
  c.in_ok-from.ensures.0,
  c.in_ok-to.ensures.0,
  c.in_ok-to.ensures.1,
  c.in_ok-to.ensures.2,
  c.in_ok-from.ensures.1 ∙ ap (λ ds. decimal c.in_ok-from.from ++ ds) (c.in_ok-after.ensures ∙ ap (λ ds. 62 ∷ ds) c.in_ok-to.ensures.3),
)
