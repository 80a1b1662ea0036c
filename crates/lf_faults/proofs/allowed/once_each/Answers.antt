use Rattle.std.proofs.Common.{◌≤◌, below_more, arith}
use Rattle.std.proofs.lemmas.Bool.{false≢true}
use Rattle.std.specs.List.{count_by}
use Rattle.lf_faults.specs.Allowed.{is_crash_of, is_pause_of}
use Rattle.lf_faults.proofs.allowed.once_each.Goals as goal
use Rattle.lf_faults.proofs.allowed.once_each.Goals.{then-crashes_of-gt1-via-then-crashes_of-gt1}
use Rattle.lf_faults.proofs.allowed.once_each.Goals.{then-crashes_of-gt1-via-else-crashes_of-gt1+then-pauses_of-gt1}

pub returns-then-crashes_of-gt1 : goal.returns-then-crashes_of-gt1
returns-then-crashes_of-gt1 c = (
  λ h. absurd (false≢true h),
  λ once. absurd (elim c.then-crashes_of-gt1.branch [
    | then-crashes_of-gt1-via-then-crashes_of-gt1 w ↦
        omega (arith, w.if-crashes_of-gt1.true, c.crashes_of.ensures, (once c.loop-node.node c.loop-node-test.true).0)
    | then-crashes_of-gt1-via-else-crashes_of-gt1+then-pauses_of-gt1 w ↦
        omega (arith, w.if-pauses_of-gt1.true, w.pauses_of.ensures, (once c.loop-node.node c.loop-node-test.true).1)
  ]),
)

pub loop-node-preserved : goal.loop-node-preserved
loop-node-preserved c =
    below_more (λ n. (count_by (is_crash_of n) c.args.set.now ≤ 1) × (count_by (is_pause_of n) c.args.set.now ≤ 1)) c.loop-node.node c.loop-node.invariant
    (omega (arith, c.crashes_of.ensures, c.if-crashes_of-gt1.false), omega (arith, c.pauses_of.ensures, c.if-pauses_of-gt1.false))
