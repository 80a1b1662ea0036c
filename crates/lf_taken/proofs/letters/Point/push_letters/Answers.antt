use Rattle.std.proofs.Common.{◌+◌}
use Rattle.std.specs.Option.{option_to_list}
use Rattle.lf_sim.specs.Runs.{did, letter}
use Rattle.lf_sim.specs.Settings.{set_of, world_of}
use Rattle.lf_taken.proofs.ListsLemmas.{more_parts}
use Rattle.lf_taken.proofs.letters.Point.push_letters.Goals as goal

pub steps-preserved : goal.steps-preserved
steps-preserved c =
    let w = world_of c.args.self.now.setting.now in
    let faults = set_of c.args.self.now.run.now in
    let p = c.args.self.now in
    more_parts c.args.found.now.items c.steps.found.items c.push_letter.new.found.items
    (λ t. option_to_list (letter w faults (did w faults) p.node (p.past + 1) c.args.from t)) c.steps.sent c.steps.invariant c.in_ok-push_letter.ensures
