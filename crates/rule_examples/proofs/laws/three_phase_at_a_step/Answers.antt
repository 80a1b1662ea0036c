use Rattle.std.proofs.Common.{true, [], ◌∷◌, replicate, refl, arith}
use Rattle.lf_protocols.specs.declared.note.Note.{Note}
use Rattle.lf_protocols.specs.CommitTable.{commit_start}
use Rattle.rule_examples.proofs.laws.three_phase_at_a_step.Goals as goal

pub returns : goal.returns
returns c =
    c.prepared_gives_up.ensures 3 2 1 2 (replicate 8 true) commit_start ((record { from = 0; sent = 1; note = Note.Prepare }) ∷ [])
    (λ e. omega arith) refl
