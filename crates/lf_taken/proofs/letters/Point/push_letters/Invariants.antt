use Rattle.std.proofs.Common.{◌≡◌, ◌+◌, ◌++◌}
use Rattle.std.specs.Option.{option_to_list}
use Rattle.lf_sim.specs.Runs.{each_below, did, letter}
use Rattle.lf_sim.specs.Settings.{set_of, world_of}
use Rattle.lf_taken.proofs.letters.Point.push_letters.Given as goal

-- the letters of the steps so far
abbrev pub invariant-steps : goal.invariant-steps
invariant-steps l =
    let w = world_of l.self.setting.now in
    let faults = set_of l.self.run.now in
    l.found.items
    ≡ l.initial.found.items ++ each_below (λ t. option_to_list (letter w faults (did w faults) l.self.node (l.self.past + 1) l.from t)) l.sent
