use Rattle.std.proofs.Common.{◌≡◌, ◌*◌, ◌≤◌, drop}
use Rattle.lf_sweep.specs.Combinations.{combinations}
use Rattle.lf_sweep.specs.Limits.{most_combinations}
use Rattle.lf_sweep.proofs.plan.counted.Given as goal

-- those counted, by those still to come
abbrev pub invariant-each : goal.invariant-each
invariant-each l = (l.count * combinations (drop l.one-index l.varied) ≡ combinations l.varied) × (l.count ≤ most_combinations)
