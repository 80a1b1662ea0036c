use Rattle.std.proofs.Common.{◌≡◌, ◌+◌, ◌≤◌, ◌++◌, take}
use Rattle.lf_sim.specs.Settings.{set_of, world_of}
use Rattle.lf_outcome.specs.Truth.{entered, entries_at, points_at}
use Rattle.lf_outcome.proofs.entries.enter.Given as goal

-- what the nodes so far enter stands behind the other entries
abbrev pub invariant-nodes : goal.invariant-nodes
invariant-nodes g l =
    record {
      count : l.entries.count ≤ l.initial.entries.count + l.node;
      items : take l.entries.count l.entries.items
          ≡ take l.initial.entries.count l.initial.entries.items
          ++ entries_at (entered (world_of l.setting) (set_of l.run) l.topic) (points_at l.node l.step);
    }
