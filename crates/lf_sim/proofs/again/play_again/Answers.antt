use Rattle.std.proofs.Common.{◌≡◌, ◌+◌, ◌-◌, ◌*◌, ◌<◌, [], ◌∷◌, length, length-append, ap, ◌∙◌, subst, arith, slice_index_or}
use Rattle.std.specs.Prelude.{Some}
use Rattle.lf_sim.specs.Differences.{IsTold}
use Rattle.lf_sim.specs.Runs.{did}
use Rattle.lf_sim.specs.Settings.{world_of}
use Rattle.lf_sim.specs.Turns.{turns_of}
use Rattle.lf_sim.proofs.AgainLemmas.{came-last, kept-there, place-inside, places-apart, put-there, was-there}
use Rattle.lf_sim.proofs.again.play_again.Goals as goal

pub returns-clause-told : goal.returns-clause-told
returns-clause-told g c stood is =
    let w = world_of c.args.setting.now in
    let F = c.args.effects.now.set in
    let grid = c.args.run.now.grid in
    let size = c.requires.size in
    let k = c.args.step * grid.nodes + c.args.node in
    let more = c.put_turn.new.cells in
    let inside : k < length (turns_of grid.cells) =
    place-inside grid.nodes c.args.node c.args.step grid.horizon (length (turns_of grid.cells)) (omega (arith, size.nodes, c.requires.node))
    (omega (arith, size.horizon, c.requires.last)) grid.whole in
    let now : c.args.step - 1 + 1 ≡ c.args.step = omega (arith, c.requires.first) in
    let turn = did w F c.args.node (c.args.step - 1 + 1) in
    let was : slice_index_or (turns_of more) k stood ≡ stood = was-there (turns_of grid.cells) (turns_of more) turn c.put_turn.ensures.cells k stood inside is stood in
    let came : slice_index_or (turns_of more) (length (turns_of more) - 1) stood ≡ turn =
    came-last (turns_of grid.cells) (turns_of more) turn c.put_turn.ensures.cells stood in
    subst (λ t. IsTold c.put_last.result stood (did w F c.args.node t)) now
    (subst (λ y. IsTold c.put_last.result stood y) came
    (subst (λ x. IsTold c.put_last.result x (slice_index_or (turns_of more) (length (turns_of more) - 1) stood)) was (c.put_last.ensures.told stood)))

pub returns-clause-there : goal.returns-clause-there
returns-clause-there g c =
    let w = world_of c.args.setting.now in
    let F = c.args.effects.now.set in
    let grid = c.args.run.now.grid in
    let size = c.requires.size in
    let k = c.args.step * grid.nodes + c.args.node in
    let more = c.put_turn.new.cells in
    let after = c.put_last.new.cells in
    let inside : k < length (turns_of grid.cells) =
    place-inside grid.nodes c.args.node c.args.step grid.horizon (length (turns_of grid.cells)) (omega (arith, size.nodes, c.requires.node))
    (omega (arith, size.horizon, c.requires.last)) grid.whole in
    let now : c.args.step - 1 + 1 ≡ c.args.step = omega (arith, c.requires.first) in
    let long : length (turns_of after) ≡ length (turns_of grid.cells) =
    omega (arith, c.put_last.ensures.len, ap length c.put_turn.ensures.cells, length-append (turns_of grid.cells) (did w F c.args.node (c.args.step - 1 + 1) ∷ [])) in
    put-there (turns_of grid.cells) (turns_of more) (turns_of after) k (did w F c.args.node (c.args.step - 1 + 1)) c.put_turn.ensures.cells inside long
    (λ d near. c.put_last.ensures.there d)
    ∙ ap (λ t. Some (did w F c.args.node t)) now

pub returns-clause-others : goal.returns-clause-others
returns-clause-others g c n t node last other =
    let w = world_of c.args.setting.now in
    let F = c.args.effects.now.set in
    let grid = c.args.run.now.grid in
    let size = c.requires.size in
    let k = c.args.step * grid.nodes + c.args.node in
    let more = c.put_turn.new.cells in
    let after = c.put_last.new.cells in
    let node' : n < grid.nodes = omega (arith, size.nodes, node) in
    let here : c.args.node < grid.nodes = omega (arith, size.nodes, c.requires.node) in
    let inside : k < length (turns_of grid.cells) =
    place-inside grid.nodes c.args.node c.args.step grid.horizon (length (turns_of grid.cells)) here (omega (arith, size.horizon, c.requires.last)) grid.whole in
    let near : t * grid.nodes + n < length (turns_of grid.cells) =
    place-inside grid.nodes n t grid.horizon (length (turns_of grid.cells)) node' (omega (arith, size.horizon, last)) grid.whole in
    let long : length (turns_of after) ≡ length (turns_of grid.cells) =
    omega (arith, c.put_last.ensures.len, ap length c.put_turn.ensures.cells, length-append (turns_of grid.cells) (did w F c.args.node (c.args.step - 1 + 1) ∷ [])) in
    kept-there (turns_of grid.cells) (turns_of more) (turns_of after) k (did w F c.args.node (c.args.step - 1 + 1)) c.put_turn.ensures.cells inside long
    (λ j d away early. c.put_last.ensures.others j d away early)
    (t * grid.nodes + n) (places-apart grid.nodes n t c.args.node c.args.step node' here other) near
