use Rattle.std.proofs.Common.{◌++◌, codes, ap}
use Rattle.lf_faults.specs.declared.fault.Parts.TheVariants.{Omit}
use Rattle.lf_faults.proofs.Texts.{no_slot, reads_made}
use Rattle.lf_faults.proofs.text.read_omission.Goals as goal

pub returns-in_err-slot : goal.returns-in_err-slot
returns-in_err-slot c = rw c.from_residual.ensures (no_slot c.args.bytes.now c.in_err-slot.ensures)

pub returns : goal.returns
returns c =
    reads_made (codes "omit " ++ c.args.bytes.now) (Omit c.in_ok-slot.slot.from c.in_ok-slot.slot.to c.in_ok-slot.slot.step) c.omit.result
    (c.in_ok-slot.ensures.0, c.in_ok-slot.ensures.1, c.in_ok-slot.ensures.3)
    (ap (λ ds. codes "omit " ++ ds) c.in_ok-slot.ensures.4)
    c.omit.ensures.some c.omit.ensures.value
