use Rattle.std.proofs.Common.{[], ◌∷◌, refl, inr, arith}
use Rattle.lf_protocols.specs.declared.note.Note.{Note}
use Rattle.lf_protocols.specs.PrimaryBackupTable.{primary_backup_start}
use Rattle.rule_examples.proofs.Brought.{brings-here}
use Rattle.rule_examples.proofs.laws.primary_backup_at_a_step.Goals as goal

pub returns : goal.returns
returns c =
    (c.claims_are_heard.ensures 3 2 2 9 (primary_backup_start 2) ((record { from = 1; sent = 8; note = Note.Claim }) ∷ []) (omega arith)).1
    (inr (brings-here Note.Claim (record { from = 1; sent = 8; note = Note.Claim }) [] refl))
