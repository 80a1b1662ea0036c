use Rattle.std.proofs.Common.{◌≡◌, ◌-◌, ◌∙◌, Some, ap, sym, subst, arith, length}
use Rattle.std.specs.Arc.{arc_value}
use Rattle.std.specs.List.{slice_get}
use Rattle.std.specs.Option.{option_copied}
use Rattle.lf_work.specs.Scratches.{IsScratchFor}
use Rattle.lf_work.specs.declared.job.Job.{Job}
use Rattle.lf_pool.proofs.RoundLemmas.{begun, found-at-work, none-few, on-ok, swapped}
use Rattle.lf_pool.proofs.shared.SharedBook.work_rounds.Goals.{in-None, in-Some-2+then-is_err, in-Some-2+else-is_err+then-is_empty}
use Rattle.lf_pool.proofs.shared.SharedBook.work_rounds.Goals as goal

pub loop-init : goal.loop-init
loop-init g c =
    let hands = c.args.hands.now in
    let jobs = c.take_handful.new.jobs.items in
    let taken = c.take_handful.ensures in
    let value = rw (c.deref.ensures.value) at c.last.ensures.value in
    let got : slice_get jobs (length jobs - 1) ≡ Some c.in-Some.last.now = sym value ∙ ap option_copied c.in-Some.is in (
      tt,
      tt,
      hands.empty.1,
      begun g.L.Searched.scenario jobs hands.next.items hands.findings.items c.suit.new.self c.in-Some.last.now taken.same hands.empty.1 hands.empty.2 got
          (subst (λ (j : Job). IsScratchFor (arc_value j.scenario) c.suit.new.self) c.job.ensures c.suit.ensures),
      (taken.few, none-few hands.findings.items hands.empty.2),
      omega (arith, taken.held, ap length hands.empty.2),
      (omega (arith, hands.room.0, taken.room), hands.room.1, hands.room.2),
      omega arith,
    )

pub loop-preserved : goal.loop-preserved
loop-preserved g c =
    let so = c.loop.invariant in
    let round = c.work_round-worked in
    let well = sym c.if-is_err.ensures.value in
    rw (c.swap.ensures.x_after, c.swap.ensures.y_after) (
      tt,
      tt,
      on-ok round.result well round.ensures.all,
      swapped g.L.Searched.scenario round.new.jobs.items round.new.next.items round.new.findings.items round.new.share.scratch round.ensures.work,
      on-ok round.result well round.ensures.few,
      omega (arith, round.ensures.held, ap length (on-ok round.result well round.ensures.all)),
      (
        omega (arith, so.6.1, round.ensures.rooms.1),
        omega (arith, so.6.0, round.ensures.rooms.0),
        omega (arith, so.6.2, round.ensures.rooms.2),
      ),
      omega (arith, so.7, round.ensures.share),
    )

pub end_all-requires-clause-findings : goal.end_all-requires-clause-findings
end_all-requires-clause-findings g c = elim c.match-next.branch [
  | in-None w ↦
      let l = c.loop in
      rw w.findings-is (found-at-work g.L.Searched.scenario l.jobs.items l.next.items l.findings.items l.share.scratch l.invariant.3)
  | in-Some-2+then-is_err w ↦
      let new = w.work_round-worked.new in
      rw w.findings-is
      (found-at-work g.L.Searched.scenario new.jobs.items new.next.items new.findings.items new.share.scratch w.work_round-worked.ensures.work)
  | in-Some-2+else-is_err+then-is_empty w ↦
      let new = w.work_round-worked.new in
      rw w.findings-is
      (found-at-work g.L.Searched.scenario new.jobs.items new.next.items new.findings.items new.share.scratch w.work_round-worked.ensures.work)
]
