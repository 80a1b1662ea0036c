use Rattle.std.proofs.Common.{ℕ, ◌≡◌, ◌<◌, length, get_or}
use Rattle.std.specs.Prelude.{min}
use Rattle.lf_cone.proofs.required.ends_of.Given as goal

abbrev pub invariant-loop-node : goal.invariant-loop-node
invariant-loop-node l = record {
  count : length l.ends ≡ 8;
  each : (n : ℕ) → n < l.node → get_or l.ends n 0 ≡ min (get_or l.reach n 0) l.horizon;
}
