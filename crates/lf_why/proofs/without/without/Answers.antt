use Rattle.std.proofs.Common.{◌≡◌, false, true, arith}
use Rattle.lf_why.proofs.Taken.{at_end, at_start, has_room, is_new, one_more}
use Rattle.lf_why.proofs.without.without.Goals as goal

pub later-init : goal.later-init
later-init c = at_start c.args.set.now c.items-items.result.now c.args.place c.items-items.ensures.value c.prefix-rest.result c.prefix-rest.ensures

pub unreachable-requires : goal.unreachable-requires
unreachable-requires c =
    let same = c.items-items.ensures in
    let new = is_new c.args.set.now c.items-items.result.now c.args.place same.value c.later.rest c.later.later c.index-items-later.result c.later.invariant
    c.later-test.true c.index-items-later.is same.ascending in
    let room = has_room c.args.set.now c.items-items.result.now c.args.place same.value c.later.rest c.later.later c.index-items-later.result c.later.invariant
    c.later-test.true c.index-items-later.is same.ascending same.few c.requires in
    let never : false ≡ true = c.in-None.ensures.some.1 (new, room) in
    cc

pub later-preserved : goal.later-preserved
later-preserved c =
    let same = c.items-items.ensures in
    one_more c.args.set.now c.items-items.result.now c.args.place same.value c.later.rest c.later.later c.index-items-later.result c.later.invariant
    c.later-test.true c.index-items-later.is same.ascending c.in-Some.more c.in-Some.ensures.value

pub returns : goal.returns
returns c =
    at_end c.args.set.now c.items-items.result.now c.args.place c.items-items.ensures.value c.later.rest c.later.later c.later.invariant (omega arith)
