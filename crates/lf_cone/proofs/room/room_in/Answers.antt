use Rattle.std.proofs.Common.{length, false, Bool, ◌≡◌, ◌<◌, true, ◌∙◌, subst, arith}
use Rattle.std.specs.Prelude.{◌↔◌}
use Rattle.std.proofs.Math.ListN.{length-set}
use Rattle.lf_faults.specs.declared.fault.Parts.{Parts}
use Rattle.lf_faults.specs.declared.fault.Parts.TheVariants.{Crash, Pause}
use Rattle.lf_faults.specs.Allowed.{CanAdd}
use Rattle.lf_cone.proofs.RequiredLemmas.{table-more}
use Rattle.lf_cone.proofs.room.room_in.Goals as goal

pub loop-node-preserved : goal.loop-node-preserved
loop-node-preserved c =
    let b = c.args.spec.now in
    let F = c.args.set.now in
    let n = c.loop-node.node in
    let node : n < 8 = omega (arith, c.loop-node-test.true, c.nodes-node-end.ensures.value, c.nodes-node-end.ensures.limits.nodes.1) in
    let i = c.loop-node.invariant in
    let inside : n < length c.loop-node.pauses = omega (arith, node, i.pause_count) in
    record {
      crash_count = length-set c.loop-node.crashes n c.fits.result ∙ i.crash_count;
      pause_count = length-set c.loop-node.pauses n c.fits-in-loop-node.result ∙ i.pause_count;
      crash = table-more (λ k (x : Bool). (x ≡ true) ↔ CanAdd b F (Crash k 1)) c.loop-node.crashes false n c.fits.result (omega (arith, node, i.crash_count))
          (subst (λ (f : Parts). (c.fits.result ≡ true) ↔ CanAdd b F f) c.crash.ensures c.fits.ensures) i.crash;
      pause = table-more (λ k (x : Bool). (x ≡ true) ↔ CanAdd b F (Pause k 1)) c.loop-node.pauses false n c.fits-in-loop-node.result inside
          (subst (λ (f : Parts). (c.fits-in-loop-node.result ≡ true) ↔ CanAdd b F f) c.pause.ensures c.fits-in-loop-node.ensures) i.pause;
    }

pub returns : goal.returns
returns c = record {
  crash = λ n h. c.loop-node.invariant.crash n (omega (arith, h, c.loop-node-test.false, c.nodes-node-end.ensures.value));
  pause = λ n h. c.loop-node.invariant.pause n (omega (arith, h, c.loop-node-test.false, c.nodes-node-end.ensures.value));
}
