use Rattle.std.proofs.Common.{length}
use Rattle.lf_own_scenario.proofs.telling.+put_values.Given as goal

-- fewer constants are left at each call
abbrev pub decreases-put_values : goal.decreases-put_values
decreases-put_values l = length l.constants.now
