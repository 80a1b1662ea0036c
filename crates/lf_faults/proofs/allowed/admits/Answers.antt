use Rattle.std.proofs.Common.{◌<◌, arith}
use Rattle.std.proofs.lemmas.Bool.{false≢true, iff_false}
use Rattle.lf_faults.proofs.allowed.admits.Goals as goal

pub returns : goal.returns
returns c = (
  λ each. record {
    ascending = c.len.ensures.ascending;
    admitted = c.admits_each.ensures.0 each;
    crash_once = λ n h. (c.once_each.ensures.0 c.if-not-once_each.false n (omega (arith, h, c.nodes.ensures.value))).0;
    pause_once = λ n h. (c.once_each.ensures.0 c.if-not-once_each.false n (omega (arith, h, c.nodes.ensures.value))).1;
    crashes = omega (arith, c.crashes_in.ensures, c.if-crashes_in-crashes.false, c.crashes.ensures.value);
    pauses = omega (arith, c.pauses_in.ensures, c.if-pauses_in-pauses.false, c.pauses.ensures.value);
    budget = omega (arith, c.if-len-budget.false, c.len.ensures.value, c.budget.ensures.value);
  },
  λ allowed. c.admits_each.ensures.1 allowed.admitted,
)

pub returns-then-not-once_each : goal.returns-then-not-once_each
returns-then-not-once_each c = (
  λ h. absurd (false≢true h),
  λ allowed. absurd (iff_false c.once_each.ensures c.if-not-once_each.true (λ n h.
      let within : n < c.args.spec.now.nodes = omega (arith, h, c.nodes.ensures.value) in (allowed.crash_once n within, allowed.pause_once n within))),
)
