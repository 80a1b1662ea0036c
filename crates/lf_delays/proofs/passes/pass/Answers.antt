use Rattle.std.proofs.Common.{◌+◌, sym, subst, arith}
use Rattle.lf_delays.proofs.Passing.{Kept, fewer_are, left_out, put_back}
use Rattle.lf_delays.proofs.Trying.{like_on}
use Rattle.lf_delays.proofs.passes.pass.Goals as goal
use Rattle.lf_delays.proofs.passes.pass.Goals.{then-misses, else-misses}

pub misses_by-requires : goal.misses_by-requires
misses_by-requires c =
    let loop = c.places in
    let kept : Kept c.args.scenario loop.now c.args.set.now loop.left.items c.len-count.result loop.past = record {
      like = loop.invariant.like;
      left = loop.invariant.left;
      most = loop.invariant.most;
      least = loop.invariant.least;
      needed = loop.invariant.needed;
    } in
    fewer_are c.args.scenario loop.now c.args.set.now loop.left.items c.len-count.result loop.past kept c.places-test.true c.as_slice.result.now
    c.in_ok-fewer.fewer.items c.as_slice.ensures.value c.in_ok-fewer.ensures c.as_slice-in-places.result.now c.as_slice-in-places.ensures.value

pub places-preserved : goal.places-preserved
places-preserved c =
    let loop = c.places in
    let s = c.args.scenario in
    let kept : Kept s loop.now c.args.set.now loop.left.items c.len-count.result loop.past = record {
      like = loop.invariant.like;
      left = loop.invariant.left;
      most = loop.invariant.most;
      least = loop.invariant.least;
      needed = loop.invariant.needed;
    } in
    let next = c.in_ok-next.next in
    let like = like_on s loop.now next loop.invariant.like c.in_ok-next.ensures.0 in
    let now : Kept s next c.args.set.now c.if-misses.left.items c.len-count.result (loop.past + 1) = elim c.if-misses.branch [
      | then-misses w ↦
          subst (λ x. Kept s next c.args.set.now x.items c.len-count.result (loop.past + 1)) (sym w.left-is)
          (left_out s loop.now c.args.set.now loop.left.items c.len-count.result loop.past kept c.places-test.true c.as_slice.result.now
          c.in_ok-fewer.fewer.items c.as_slice.ensures.value c.in_ok-fewer.ensures next like c.as_slice-in-places.result.now
          c.as_slice-in-places.ensures.value c.in_ok-next.misses c.in_ok-next.ensures.1 w.if-misses.true)
      | else-misses w ↦
          subst (λ x. Kept s next c.args.set.now x.items c.len-count.result (loop.past + 1)) (sym w.left-is)
          (put_back s loop.now c.args.set.now loop.left.items c.len-count.result loop.past kept c.places-test.true c.as_slice.result.now
          c.in_ok-fewer.fewer.items c.as_slice.ensures.value c.in_ok-fewer.ensures next like c.as_slice-in-places.result.now
          c.as_slice-in-places.ensures.value c.in_ok-next.misses c.in_ok-next.ensures.1 w.if-misses.false)
    ] in record { like = now.like; left = now.left; most = now.most; least = now.least; needed = now.needed }

pub returns-clause-needed : goal.returns-clause-needed
returns-clause-needed c enough k from inside =
    let long = c.len-count.ensures in
    let last = c.places.auto.past-end in
    c.places.invariant.needed (omega (arith, enough, long)) k (omega (arith, last, c.places-test.false)) inside
