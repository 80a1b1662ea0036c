use Rattle.std.proofs.Common.{sym, ◌∙◌}
use Rattle.lf_protocols.proofs.Exactness.{same_states}
use Rattle.lf_protocols.proofs.machine.ProtocolMachine.same_state.Goals as goal

-- states that are the same by the derived equality are one
pub returns : goal.returns
returns c is = same_states c.args.one.now c.args.other.now (sym c.eq.ensures ∙ is)
