use Rattle.std.proofs.Common.{length}
use Rattle.lf_rule_machine.proofs.state.+place_for.Given as goal

abbrev pub decreases-place_for : goal.decreases-place_for
decreases-place_for l = length l.notes.now
