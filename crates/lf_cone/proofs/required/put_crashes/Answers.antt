use Rattle.std.proofs.Common.{◌<◌, ◌+◌, refl, arith}
use Rattle.std.proofs.lemmas.Bool.{both_ways}
use Rattle.lf_faults.specs.declared.fault.Parts.TheVariants.{Crash}
use Rattle.lf_sim.specs.Settings.{world_of}
use Rattle.lf_cone.specs.Places.{crash_row, place_at}
use Rattle.lf_cone.proofs.RequiredLemmas.{is-fault, less_than_same, moved, put_one, skip_crash, end_crashes}
use Rattle.lf_cone.proofs.required.put_crashes.Goals as goal
use Rattle.lf_cone.proofs.required.put_crashes.Goals.{then-tries_crash+in_ok-push, else-tries_crash}

pub loop-node-preserved : goal.loop-node-preserved
loop-node-preserved g c =
    let s = c.args.setting.now in
    let v = c.args.view.now in
    let t = c.args.step in
    let n = c.loop-node.node in
    let limits = c.nodes-node-end.ensures.limits in
    let node : n < 8 = omega (arith, c.loop-node-test.true, c.nodes-node-end.ensures.value, limits.nodes.1) in
    elim c.if-tries_crash.branch [
      | then-tries_crash+in_ok-push b ↦
          rw b.found-is (put_one (world_of s) v.effects.set s.spec v.reach v.marks.faults.now limits c.loop-node.found.items _ b.crash.result (Crash n t)
          (place_at (crash_row t) n) (place_at (crash_row t) (n + 1)) b.in_ok-push.ensures.items b.crash.ensures (omega arith) (omega arith)
          c.loop-node.invariant (c.tries_crash.ensures.0 b.if-tries_crash.true))
      | else-tries_crash b ↦
          rw b.found-is (moved (world_of s) v.effects.set s.spec v.reach v.marks.faults.now limits c.loop-node.found.items (place_at (crash_row t) n + 1)
          (place_at (crash_row t) (n + 1)) (omega arith)
          (skip_crash (world_of s) v.effects.set s.spec v.reach v.marks.faults.now limits c.loop-node.found.items n t c.requires.first node
          c.loop-node.invariant (λ p. both_ways c.tries_crash.result b.if-tries_crash.false (c.tries_crash.ensures.1 p))))
    ]

pub returns : goal.returns
returns g c =
    let s = c.args.setting.now in
    let v = c.args.view.now in
    let t = c.args.step in
    let limits = c.nodes-node-end.ensures.limits in
    end_crashes (world_of s) v.effects.set s.spec v.reach v.marks.faults.now limits c.loop-node.found.items c.loop-node.node t c.requires.first (omega
    (arith, c.loop-node-test.false, c.nodes-node-end.ensures.value))
    (omega (arith, c.loop-node.auto.node-end, c.nodes-node-end.ensures.value, limits.nodes.1)) c.loop-node.invariant

pub tries_crash-requires-clause-marks : goal.tries_crash-requires-clause-marks
tries_crash-requires-clause-marks g c = c.requires.marks

pub tries_crash-requires-clause-allowed : goal.tries_crash-requires-clause-allowed
tries_crash-requires-clause-allowed g c = c.requires.allowed

pub tries_crash-requires-clause-room : goal.tries_crash-requires-clause-room
tries_crash-requires-clause-room g c = c.requires.room

pub tries_crash-requires-clause-ends : goal.tries_crash-requires-clause-ends
tries_crash-requires-clause-ends g c = c.requires.ends

pub tries_crash-requires-clause-first : goal.tries_crash-requires-clause-first
tries_crash-requires-clause-first g c = c.requires.first

pub tries_crash-requires-clause-last : goal.tries_crash-requires-clause-last
tries_crash-requires-clause-last g c = c.requires.last

pub tries_crash-requires-clause-node : goal.tries_crash-requires-clause-node
tries_crash-requires-clause-node g c = less_than_same _ _ _ _ c.loop-node-test.true refl c.nodes-node-end.ensures.value

pub crash-requires : goal.crash-requires
crash-requires g c =
    let s = c.args.setting.now in
    let v = c.args.view.now in
    is-fault (world_of s) v.effects.set s.spec v.reach v.marks.faults.now c.nodes-node-end.ensures.limits (Crash c.loop-node.node c.args.step)
    (c.tries_crash.ensures.0 c.if-tries_crash.true)
