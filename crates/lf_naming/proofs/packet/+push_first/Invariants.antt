use Rattle.std.proofs.Common.{length}
use Rattle.lf_naming.proofs.packet.+push_first.Given as goal

abbrev pub decreases-push_first : goal.decreases-push_first
decreases-push_first l = length l.notes.now
