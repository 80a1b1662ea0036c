use Rattle.std.proofs.Common.{ℕ, ◌≡◌, ◌<◌, true, false, length, get_or}
use Rattle.std.specs.Prelude.{◌↔◌}
use Rattle.lf_faults.specs.declared.fault.Parts.TheVariants.{Crash, Pause}
use Rattle.lf_faults.specs.Allowed.{CanAdd}
use Rattle.lf_cone.proofs.room.room_in.Given as goal

abbrev pub invariant-loop-node : goal.invariant-loop-node
invariant-loop-node l = record {
  crash_count : length l.crashes ≡ 8;
  pause_count : length l.pauses ≡ 8;
  crash : (n : ℕ) → n < l.node → ((get_or l.crashes n false ≡ true) ↔ CanAdd l.spec l.set (Crash n 1));
  pause : (n : ℕ) → n < l.node → ((get_or l.pauses n false ≡ true) ↔ CanAdd l.spec l.set (Pause n 1));
}
