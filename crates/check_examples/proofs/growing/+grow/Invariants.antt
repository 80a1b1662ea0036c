use Rattle.std.specs.Prelude.{◌+◌, ◌*◌}
use Rattle.check_examples.proofs.growing.+grow.Given as goal

abbrev pub decreases-node : goal.decreases-node
decreases-node l = 2 * l.room

abbrev pub decreases-kids : goal.decreases-kids
decreases-kids l = 2 * l.room + 1
