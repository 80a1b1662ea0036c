use Rattle.std.proofs.Common.{[], ◌∷◌, refl, inr, arith}
use Rattle.lf_protocols.specs.declared.note.Note.{Note}
use Rattle.lf_protocols.specs.RetryTable.{retry_start}
use Rattle.rule_examples.proofs.Brought.{brings-here}
use Rattle.rule_examples.proofs.laws.retry_at_a_step.Goals as goal

pub returns-clause-sends : goal.returns-clause-sends
returns-clause-sends c = (c.retry_delivers.ensures.sends 3 2 0 2 2 (retry_start 0) [] (omega arith)).1 (refl, omega arith, omega arith, λ e. omega arith)

pub returns-clause-has : goal.returns-clause-has
returns-clause-has c =
    (c.retry_delivers.ensures.has 3 2 1 2 (retry_start 1) ((record { from = 0; sent = 1; note = Note.Payload }) ∷ [])).1
    (inr (brings-here Note.Payload (record { from = 0; sent = 1; note = Note.Payload }) [] refl))
