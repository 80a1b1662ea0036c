use Rattle.std.proofs.Common.{◌+◌, ◌*◌, ◌≤◌, arith}
use Rattle.lf_sweep.proofs.LineLemmas.{fewer_inside, lane_ends, place_fits}
use Rattle.lf_sweep.proofs.sweeping.lane_lines.Goals as goal

pub overflow_mul-lane : goal.overflow_mul-lane
overflow_mul-lane g c =
    let r = c.args.round in
    let N = g.Q.Questions.total c.args.questions.now in
    let ends = lane_ends r.place c.args.lane r.lanes r.size c.requires.lane in
    let small : r.place + c.args.lane * r.size ≤ 1000000000 =
    place_fits N c.args.part (r.place + r.lanes * r.size) (r.place + c.args.lane * r.size) c.requires.few c.requires.inside (omega (arith, ends, r.sized)) in
    omega (arith, small)

pub overflow_add-round : goal.overflow_add-round
overflow_add-round g c =
    let r = c.args.round in
    let N = g.Q.Questions.total c.args.questions.now in
    let ends = lane_ends r.place c.args.lane r.lanes r.size c.requires.lane in
    let small : r.place + c.args.lane * r.size ≤ 1000000000 =
    place_fits N c.args.part (r.place + r.lanes * r.size) (r.place + c.args.lane * r.size) c.requires.few c.requires.inside (omega (arith, ends, r.sized)) in
    omega (arith, small)

pub part_lines-requires-clause-inside : goal.part_lines-requires-clause-inside
part_lines-requires-clause-inside g c =
    let r = c.args.round in
    fewer_inside (g.Q.Questions.total c.args.questions.now) c.args.part (r.place + c.args.lane * r.size + r.size) (r.place + r.lanes * r.size)
    (lane_ends r.place c.args.lane r.lanes r.size c.requires.lane) c.requires.inside
