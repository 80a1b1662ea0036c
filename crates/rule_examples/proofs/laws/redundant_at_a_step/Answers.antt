use Rattle.std.proofs.Common.{[], ◌∷◌, refl, arith}
use Rattle.lf_protocols.specs.declared.note.Note.{Note}
use Rattle.lf_protocols.specs.RedundantTable.{redundant_start}
use Rattle.rule_examples.proofs.Brought.{brings-here, brings-none}
use Rattle.rule_examples.proofs.laws.redundant_at_a_step.Goals as goal

pub returns-clause-waits : goal.returns-clause-waits
returns-clause-waits c = c.redundant_delivers.ensures.waits 3 2 1 [] (brings-none Note.Payload)

pub returns-clause-relays : goal.returns-clause-relays
returns-clause-relays c =
    c.redundant_delivers.ensures.relays 3 2 1 ((record { from = 0; sent = 1; note = Note.Payload }) ∷ []) (omega arith)
    (brings-here Note.Payload (record { from = 0; sent = 1; note = Note.Payload }) [] refl)

pub returns-clause-repeats : goal.returns-clause-repeats
returns-clause-repeats c = c.redundant_delivers.ensures.repeats 3 2 1 1 [] (omega arith)

pub returns-clause-stops : goal.returns-clause-stops
returns-clause-stops c = c.redundant_delivers.ensures.stops 3 2 1 2 [] (omega arith)

pub returns-clause-counted : goal.returns-clause-counted
returns-clause-counted c = c.redundant_delivers.ensures.counted 3 2 0 (redundant_start 0) [] (omega arith)
