use Rattle.std.proofs.Common.{◌≡◌, ◌+◌}
use Rattle.lf_sim.specs.Runs.{each_below, did, letters_from}
use Rattle.lf_sim.specs.Settings.{set_of, world_of}
use Rattle.lf_taken.proofs.letters.Point.inbox.Given as goal

-- the letters of the senders so far
abbrev pub invariant-senders : goal.invariant-senders
invariant-senders l =
    let w = world_of l.self.setting.now in
    let faults = set_of l.self.run.now in
    l.found.items ≡ each_below (λ n. letters_from w faults (did w faults) l.self.node (l.self.past + 1) n (l.self.past + 1)) l.from
