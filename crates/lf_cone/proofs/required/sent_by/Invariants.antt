use Rattle.std.proofs.Common.{ℕ, ◌≡◌, ◌<◌, ◌≤◌}
use Rattle.std.specs.Prelude.{◌↔◌, IsSome}
use Rattle.std.specs.Int.{bit_at}
use Rattle.lf_sim.specs.Runs.{sent}
use Rattle.lf_sim.specs.Settings.{world_of, set_of}
use Rattle.lf_cone.proofs.required.sent_by.Given as goal

abbrev pub invariant-loop-to : goal.invariant-loop-to
invariant-loop-to g l = record {
  each : (to : ℕ) → to < l.to → ((bit_at l.sent to ≡ 1) ↔ IsSome (sent (world_of l.setting) (set_of l.run) l.from to l.step));
  rest : (to : ℕ) → l.to ≤ to → bit_at l.sent to ≡ 0;
}
