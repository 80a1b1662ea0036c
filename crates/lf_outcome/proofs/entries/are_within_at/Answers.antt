use Rattle.std.proofs.Common.{false, true}
use Rattle.std.proofs.lemmas.Bool.{or_left, or_right}
use Rattle.lf_sim.specs.Runs.{is_up}
use Rattle.lf_sim.specs.Settings.{set_of, world_of}
use Rattle.lf_outcome.specs.Truth.{counts, is_down}
use Rattle.lf_outcome.proofs.LoopsLemmas.{node-counts, node-fails, off, on, told-so}
use Rattle.lf_outcome.proofs.entries.are_within_at.Goals.{else-up-via-then-up+else-not-is_within, else-up-via-else-up}
use Rattle.lf_outcome.proofs.entries.are_within_at.Goals as goal

pub returns-then-not-is_within : goal.returns-then-not-is_within
returns-then-not-is_within g c =
    let w = world_of c.args.setting.now in
    let faults = set_of c.args.run.now in
    node-fails (is_down w faults) (counts c.args.limit.now) c.args.nodes c.nodes.node c.args.step c.nodes-test.true
    (on c.up.result (is_up w faults c.nodes.node c.args.step) (c.up.ensures.meaning w c.requires) c.if-up.true)
    (told-so c.is_within.result (counts c.args.limit.now c.nodes.node c.args.step) false c.is_within.ensures c.if-not-is_within.true)

pub nodes-preserved : goal.nodes-preserved
nodes-preserved g c =
    let w = world_of c.args.setting.now in
    let faults = set_of c.args.run.now in
    let down = is_down w faults c.nodes.node c.args.step in
    let counted = counts c.args.limit.now c.nodes.node c.args.step in
    node-counts (is_down w faults) (counts c.args.limit.now) c.nodes.node c.args.step c.nodes.invariant (elim c.else-up.branch [
      | else-up-via-then-up+else-not-is_within x ↦
          or_right down counted (told-so x.is_within.result counted true x.is_within.ensures x.if-not-is_within.false)
      | else-up-via-else-up x ↦
          or_left down counted (off c.up.result (is_up w faults c.nodes.node c.args.step) (c.up.ensures.meaning w c.requires) x.if-up.false)
    ])
