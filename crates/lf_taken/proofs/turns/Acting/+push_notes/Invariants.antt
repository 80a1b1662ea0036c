use Rattle.std.proofs.Common.{length}
use Rattle.lf_taken.proofs.turns.Acting.+push_notes.Given as goal

abbrev pub decreases-push_notes : goal.decreases-push_notes
decreases-push_notes l = length l.notes.now
