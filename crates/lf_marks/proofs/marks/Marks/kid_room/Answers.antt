use Rattle.std.proofs.Common.{◌+◌, ◌<◌, refl, sym, subst, arith, length, drop, List}
use Rattle.std.proofs.lemmas.Option.{slice_get_read}
use Rattle.std.proofs.lemmas.Result.{IfOk-weaker}
use Rattle.std.specs.List.{slice_get}
use Rattle.lf_marks.specs.Arena.{look}
use Rattle.lf_marks.specs.Room.{FitsKidOf}
use Rattle.lf_marks.specs.Walks.{width}
use Rattle.lf_marks.specs.declared.set.Set.{Set}
use Rattle.lf_marks.specs.Claims.{standing}
use Rattle.lf_marks.proofs.RoomLemmas.{fits-next}
use Rattle.lf_marks.proofs.StateLemmas.{next-more, queue-head}
use Rattle.lf_marks.proofs.marks.Marks.kid_room.Goals as goal

pub kid_room-requires : goal.kid_room-requires
kid_room-requires c =
    let m = c.args.self.now in
    let few : m.at < length m.queue.items = omega (arith, c.if-self-len.false, c.len.ensures, m.queue.ok) in
    let head = queue-head m.queue.items m.at c.index.result.now few c.index.ensures in
    subst (λ (sets : List Set). (look sets c.index.result.now).taken < width (look sets c.index.result.now)) (sym c.as_slice.ensures.value)
    (next-more m.level m.start m.sets.items (drop m.at m.queue.items) m.coming.items m.opened.items (standing m.claims)
    m.untaken m.waiting m.answered m.state c.index.result.now (drop (m.at + 1) m.queue.items) head)

pub returns : goal.returns
returns c =
    let m = c.args.self.now in
    let few : m.at < length m.queue.items = omega (arith, c.if-self-len.false, c.len.ensures, m.queue.ok) in
    let here = slice_get_read m.queue.items (length m.queue.items) m.at c.index.result.now refl few c.index.ensures in
    IfOk-weaker c.kid_room.result _ _ (λ larger fits none. fits-next m.sets.items m.queue.items m.at c.index.result.now larger here
    (subst (λ (sets : List Set). FitsKidOf (slice_get sets c.index.result.now) larger) c.as_slice.ensures.value fits)) c.kid_room.ensures
