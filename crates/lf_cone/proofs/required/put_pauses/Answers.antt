use Rattle.std.proofs.Common.{◌<◌, ◌+◌, refl, arith}
use Rattle.std.proofs.lemmas.Bool.{both_ways}
use Rattle.lf_faults.specs.declared.fault.Parts.TheVariants.{Pause}
use Rattle.lf_sim.specs.Settings.{world_of}
use Rattle.lf_cone.specs.Places.{pause_row, place_at}
use Rattle.lf_cone.proofs.RequiredLemmas.{is-fault, less_than_same, moved, put_one, skip_pause, end_pauses}
use Rattle.lf_cone.proofs.required.put_pauses.Goals as goal
use Rattle.lf_cone.proofs.required.put_pauses.Goals.{then-tries_pause+in_ok-push, else-tries_pause}

pub loop-node-preserved : goal.loop-node-preserved
loop-node-preserved g c =
    let s = c.args.setting.now in
    let v = c.args.view.now in
    let t = c.args.step in
    let n = c.loop-node.node in
    let limits = c.nodes-node-end.ensures.limits in
    let node : n < 8 = omega (arith, c.loop-node-test.true, c.nodes-node-end.ensures.value, limits.nodes.1) in
    elim c.if-tries_pause.branch [
      | then-tries_pause+in_ok-push b ↦
          rw b.found-is (put_one (world_of s) v.effects.set s.spec v.reach v.marks.faults.now limits c.loop-node.found.items _ b.pause.result (Pause n t)
          (place_at (pause_row t) n) (place_at (pause_row t) (n + 1)) b.in_ok-push.ensures.items b.pause.ensures (omega arith) (omega arith)
          c.loop-node.invariant (c.tries_pause.ensures.0 b.if-tries_pause.true))
      | else-tries_pause b ↦
          rw b.found-is (moved (world_of s) v.effects.set s.spec v.reach v.marks.faults.now limits c.loop-node.found.items (place_at (pause_row t) n + 1)
          (place_at (pause_row t) (n + 1)) (omega arith)
          (skip_pause (world_of s) v.effects.set s.spec v.reach v.marks.faults.now limits c.loop-node.found.items n t c.requires.first node
          c.loop-node.invariant (λ p. both_ways c.tries_pause.result b.if-tries_pause.false (c.tries_pause.ensures.1 p))))
    ]

pub returns : goal.returns
returns g c =
    let s = c.args.setting.now in
    let v = c.args.view.now in
    let t = c.args.step in
    let limits = c.nodes-node-end.ensures.limits in
    end_pauses (world_of s) v.effects.set s.spec v.reach v.marks.faults.now limits c.loop-node.found.items c.loop-node.node t c.requires.first (omega
    (arith, c.loop-node-test.false, c.nodes-node-end.ensures.value))
    (omega (arith, c.loop-node.auto.node-end, c.nodes-node-end.ensures.value, limits.nodes.1)) c.loop-node.invariant

pub tries_pause-requires-clause-marks : goal.tries_pause-requires-clause-marks
tries_pause-requires-clause-marks g c = c.requires.marks

pub tries_pause-requires-clause-allowed : goal.tries_pause-requires-clause-allowed
tries_pause-requires-clause-allowed g c = c.requires.allowed

pub tries_pause-requires-clause-room : goal.tries_pause-requires-clause-room
tries_pause-requires-clause-room g c = c.requires.room

pub tries_pause-requires-clause-ends : goal.tries_pause-requires-clause-ends
tries_pause-requires-clause-ends g c = c.requires.ends

pub tries_pause-requires-clause-first : goal.tries_pause-requires-clause-first
tries_pause-requires-clause-first g c = c.requires.first

pub tries_pause-requires-clause-last : goal.tries_pause-requires-clause-last
tries_pause-requires-clause-last g c = c.requires.last

pub tries_pause-requires-clause-node : goal.tries_pause-requires-clause-node
tries_pause-requires-clause-node g c = less_than_same _ _ _ _ c.loop-node-test.true refl c.nodes-node-end.ensures.value

pub pause-requires : goal.pause-requires
pause-requires g c =
    let s = c.args.setting.now in
    let v = c.args.view.now in
    is-fault (world_of s) v.effects.set s.spec v.reach v.marks.faults.now c.nodes-node-end.ensures.limits (Pause c.loop-node.node c.args.step)
    (c.tries_pause.ensures.0 c.if-tries_pause.true)
