use Rattle.std.proofs.Common.{◌≡◌, ◌+◌, ◌<◌, ◌++◌, ◌∷◌, [], length, length-append, true, false, refl, ap, ◌∙◌, arith}
use Rattle.lf_sim.specs.Runs.{did, is_up, inbox}
use Rattle.lf_sim.specs.Settings.{world_of}
use Rattle.lf_sim.specs.Outs.{nothing}
use Rattle.lf_sim.specs.Turns.{turns_of, turn_seen}
use Rattle.lf_sim.proofs.RunsLemmas.{is_up_from, step_is, rest_is}
use Rattle.lf_sim.proofs.runs.put_turn.Goals as goal

pub invariant_of-past : goal.invariant_of-past
invariant_of-past g c =
    let w = world_of c.args.setting.now in
    let F = c.args.effects.now.set in
    record { nodes_agree = c.requires.nodes; few = c.requires.few; early = c.requires.step; short = c.requires.short; done = c.requires.before }

pub returns-then-leaves_up-clause-cells : goal.returns-then-leaves_up-clause-cells
returns-then-leaves_up-clause-cells g c =
    let w = world_of c.args.setting.now in
    let F = c.args.effects.now.set in
    let node : c.args.node < w.rules.nodes = omega (arith, c.requires.node, c.requires.nodes) in
    let up : is_up w F c.args.node (c.args.t + 1) ≡ true =
    is_up_from w F c.pause_length-length.result c.args.node (c.args.t + 1) c.leaves_up.result node (omega arith)
    (omega (arith, c.requires.step)) c.pause_length-length.ensures.value c.leaves_up.ensures ∙ c.if-leaves_up.true in
    let step = w.rules.step c.args.node (c.args.t + 1) c.before_step-state.result in
    c.put_step.ensures.items
    ∙ ap (λ turn. turns_of c.args.cells.now ++ turn ∷ [])
    (step_is w F c.args.node c.args.t (turn_seen c.cell.result) c.before_step-state.result (inbox w F c.args.node (c.args.t + 1))
    (step c.deref.result.now) c.cell.ensures c.before_step-state.ensures refl up
    (ap step c.deref.ensures.value ∙ c.put_heeded.ensures.same))

pub returns-else-leaves_up-clause-cells : goal.returns-else-leaves_up-clause-cells
returns-else-leaves_up-clause-cells g c =
    let w = world_of c.args.setting.now in
    let F = c.args.effects.now.set in
    let node : c.args.node < w.rules.nodes = omega (arith, c.requires.node, c.requires.nodes) in
    let down : is_up w F c.args.node (c.args.t + 1) ≡ false =
    is_up_from w F c.pause_length-length.result c.args.node (c.args.t + 1) c.leaves_up.result node (omega arith)
    (omega (arith, c.requires.step)) c.pause_length-length.ensures.value c.leaves_up.ensures ∙ c.if-leaves_up.false in
    c.push_silent.ensures.items
    ∙ ap (λ turn. turns_of c.args.cells.now ++ turn ∷ [])
    (rest_is w F c.args.node c.args.t (turn_seen c.cell.result) nothing c.cell.ensures down refl)

pub returns-then-leaves_up-clause-len : goal.returns-then-leaves_up-clause-len
returns-then-leaves_up-clause-len g c =
    let w = world_of c.args.setting.now in
    omega (
      arith,
      ap length (returns-then-leaves_up-clause-cells g c)
          ∙ length-append (turns_of c.args.cells.now) (did w c.args.effects.now.set c.args.node (c.args.t + 1) ∷ []),
    )

pub returns-else-leaves_up-clause-len : goal.returns-else-leaves_up-clause-len
returns-else-leaves_up-clause-len g c =
    let w = world_of c.args.setting.now in
    omega (
      arith,
      ap length (returns-else-leaves_up-clause-cells g c)
          ∙ length-append (turns_of c.args.cells.now) (did w c.args.effects.now.set c.args.node (c.args.t + 1) ∷ []),
    )
