use Rattle.std.proofs.Common.{true, [], replicate, arith}
use Rattle.lf_protocols.specs.declared.note.Note.{Note}
use Rattle.rule_examples.proofs.Brought.{brings-none}
use Rattle.rule_examples.proofs.laws.two_phase_at_a_step.Goals as goal

pub returns : goal.returns
returns c = c.prepared_waits.ensures 3 2 1 48 2 (replicate 8 true) [] (λ e. omega arith) (brings-none Note.Commit) (brings-none Note.Abort)
