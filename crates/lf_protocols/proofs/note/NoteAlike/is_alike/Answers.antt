use Rattle.std.proofs.Common.{sym, ◌∙◌}
use Rattle.lf_protocols.proofs.Exactness.{same_notes}
use Rattle.lf_protocols.proofs.note.NoteAlike.is_alike.Goals as goal

-- notes that are the same by the derived equality are one
pub returns : goal.returns
returns c is = same_notes c.args.self.now c.args.other.now (sym c.eq.ensures ∙ is)
