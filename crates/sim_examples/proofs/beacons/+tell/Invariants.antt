use Rattle.std.proofs.Common.{length}
use Rattle.sim_examples.proofs.beacons.+tell.Given as goal

abbrev pub decreases-tell : goal.decreases-tell
decreases-tell l = length l.inbox.now
