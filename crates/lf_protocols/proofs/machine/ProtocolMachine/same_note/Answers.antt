use Rattle.std.proofs.Common.{sym, ◌∙◌}
use Rattle.lf_protocols.proofs.Exactness.{same_notes}
use Rattle.lf_protocols.proofs.machine.ProtocolMachine.same_note.Goals as goal

-- notes that are the same by the derived equality are one
pub returns : goal.returns
returns c is = same_notes c.args.one.now c.args.other.now (sym c.eq.ensures ∙ is)
