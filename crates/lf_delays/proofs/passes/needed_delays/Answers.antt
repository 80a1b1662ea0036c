use Rattle.std.proofs.Common.{arith}
use Rattle.lf_delays.proofs.Trying.{left_like, like_back, like_on, none_like}
use Rattle.lf_delays.proofs.passes.needed_delays.Goals as goal

pub pass-requires : goal.pass-requires
pass-requires c = left_like c.args.scenario c.passes.now c.passes.invariant.like c.args.set.now c.passes.left.items c.passes.invariant.left

pub returns-then-len-before-clause-left : goal.returns-then-len-before-clause-left
returns-then-len-before-clause-left c =
    left_like c.passes.now c.args.scenario (like_back c.args.scenario c.passes.now c.passes.invariant.like) c.args.set.now c.in_ok-next.fewer.items
    c.in_ok-next.ensures.left

pub returns-then-len-before-clause-needed : goal.returns-then-len-before-clause-needed
returns-then-len-before-clause-needed c =
    let same = c.if-len-before.true in
    let before = c.len-before.ensures in
    let after = c.len.ensures in
    none_like c.passes.now c.args.scenario (like_back c.args.scenario c.passes.now c.passes.invariant.like) c.args.set.now c.in_ok-next.fewer.items
    (c.in_ok-next.ensures.needed (omega (arith, same, before, after)))

pub passes-preserved : goal.passes-preserved
passes-preserved c =
    let other = c.if-len-before.false in
    let before = c.len-before.ensures in
    let after = c.len.ensures in
    let fewer = c.in_ok-next.ensures.fewer in
    let so_far = c.passes.invariant.fewer in
    record {
      like = like_on c.args.scenario c.passes.now c.in_ok-next.next c.passes.invariant.like c.in_ok-next.ensures.like;
      left = left_like c.passes.now c.args.scenario (like_back c.args.scenario c.passes.now c.passes.invariant.like) c.args.set.now
          c.in_ok-next.fewer.items c.in_ok-next.ensures.left;
      fewer = omega (arith, other, before, after, fewer, so_far);
    }
