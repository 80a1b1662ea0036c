use Rattle.std.proofs.Common.{rules, tests}
use Rattle.lf_sim.proofs.setting.Setting.new.Goals as goal

pub invariant_of-result : goal.invariant_of-result
invariant_of-result g c = search (tests, rules)
