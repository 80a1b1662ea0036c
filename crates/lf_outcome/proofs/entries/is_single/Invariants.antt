use Rattle.std.proofs.Common.{◌≡◌, ◌*◌, ◌≤◌, take}
use Rattle.lf_sim.specs.Settings.{set_of, world_of}
use Rattle.lf_outcome.specs.Truth.{entered, entries_at, points_to}
use Rattle.lf_outcome.proofs.entries.is_single.Given as goal

-- what is entered at the steps so far
abbrev pub invariant-steps : goal.invariant-steps
invariant-steps g l =
    record {
      count : l.entries.count ≤ 8 * l.before;
      items : take l.entries.count l.entries.items ≡ entries_at (entered (world_of l.setting) (set_of l.run) l.topic) (points_to l.few l.before);
    }
