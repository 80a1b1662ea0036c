use Rattle.std.proofs.Common.{◌+◌, ◌++◌, [], ◌∷◌, ap, inr, length, refl, sym, ◌∙◌, arith}
use Rattle.std.proofs.lemmas.Bool.{eqb-true}
use Rattle.std.specs.Arc.{arc_value}
use Rattle.lf_pool.proofs.RoundLemmas.{ahead-on, found-at-work, gone-on, none-left, none-of, one-more, put-again, room-on, still-ahead, suited, worked-one}
use Rattle.lf_pool.proofs.shared.SharedBook.work_round.Goals as goal

pub put_found-requires-clause-suited : goal.put_found-requires-clause-suited
put_found-requires-clause-suited g c κs within =
    suited g.L.Searched.scenario c.jobs.jobs.items c.pop.new.self.items c.jobs.next.items c.jobs.findings.items c.jobs.share.scratch c.in-Some.job
    c.jobs.invariant.work c.in-Some.ensures.items

pub returns-in-Err-clause-work : goal.returns-in-Err-clause-work
returns-in-Err-clause-work g c =
    let back = c.in-Err.ensures.back in
    let again = c.push_reserved.ensures.items ∙ ap (λ j. c.pop.new.self.items ++ j ∷ []) back.0 in
    rw back.1
    (put-again g.L.Searched.scenario c.jobs.jobs.items c.pop.new.self.items c.push_reserved.new.self.items c.jobs.next.items c.jobs.findings.items
    c.jobs.share.scratch c.put_found.new.scratch c.in-Some.job c.jobs.invariant.work c.in-Some.ensures.items again c.put_found.ensures.scratch)

pub try_on-requires-clause-findings : goal.try_on-requires-clause-findings
try_on-requires-clause-findings g c =
    let job = c.in-Some.job in
    let found = c.in_default-put_found.ensures.found in
    let worked = worked-one g.L.Searched.scenario c.jobs.jobs.items c.pop.new.self.items c.jobs.next.items c.jobs.findings.items
    c.put_found.new.findings.items c.jobs.share.scratch c.put_found.new.scratch job found.0 (arc_value job.job.scenario) c.jobs.invariant.work
    c.in-Some.ensures.items found.1 found.2 refl c.put_found.ensures.scratch in
    found-at-work g.L.Searched.scenario c.pop.new.self.items c.jobs.next.items c.put_found.new.findings.items c.put_found.new.scratch worked

pub jobs-preserved-then-len-ge-FOUND : goal.jobs-preserved-then-len-ge-FOUND
jobs-preserved-then-len-ge-FOUND g c =
    let so = c.jobs.invariant in
    let job = c.in-Some.job in
    let popped = c.in-Some.ensures in
    let found = c.in_default-put_found.ensures.found in
    let more = one-more c.jobs.findings.items c.put_found.new.findings.items found.0 found.1 in
    let tried = c.try_on.ensures in
    let worked = worked-one g.L.Searched.scenario c.jobs.jobs.items c.pop.new.self.items c.jobs.next.items c.jobs.findings.items
    c.put_found.new.findings.items c.jobs.share.scratch c.put_found.new.scratch job found.0 (arc_value job.job.scenario) so.work
    popped.items found.1 found.2 refl c.put_found.ensures.scratch in
    record {
      work = gone-on g.L.Searched.scenario c.pop.new.self.items c.jobs.next.items c.try_on.new.jobs.items c.put_found.new.findings.items
          c.try_on.new.findings.items c.put_found.new.scratch c.try_on.new.share.scratch worked tried.same tried.done tried.scratch;
      rooms = (popped.capacity ∙ so.rooms.0, tried.rooms.0 ∙ so.rooms.1, tried.rooms.1 ∙ c.put_found.ensures.room ∙ so.rooms.2);
      few = omega (arith, so.few, popped.len);
      room = room-on c.pop.new.self.items c.try_on.new.jobs.items c.put_found.new.findings.items c.try_on.new.findings.items tried.done
          (omega (arith, so.few, popped.len)) (omega (arith, so.room, popped.len, more));
      ahead = ahead-on c.pop.new.self.items c.try_on.new.jobs.items c.put_found.new.findings.items c.try_on.new.findings.items tried.done
          (omega (arith, so.few, popped.len)) tried.few;
      held = omega (arith, so.held, popped.len, more, tried.held, eqb-true c.jobs.next.len 0 (sym c.if-is_empty.ensures), c.jobs.next.ok);
      filed = omega (arith, so.filed, tried.share);
    }

pub jobs-preserved : goal.jobs-preserved
jobs-preserved g c =
    let so = c.jobs.invariant in
    let job = c.in-Some.job in
    let popped = c.in-Some.ensures in
    let found = c.in_default-put_found.ensures.found in
    let more = one-more c.jobs.findings.items c.put_found.new.findings.items found.0 found.1 in
    record {
      work = worked-one g.L.Searched.scenario c.jobs.jobs.items c.pop.new.self.items c.jobs.next.items c.jobs.findings.items
          c.put_found.new.findings.items c.jobs.share.scratch c.put_found.new.scratch job found.0 (arc_value job.job.scenario) so.work
          popped.items found.1 found.2 refl c.put_found.ensures.scratch;
      rooms = (popped.capacity ∙ so.rooms.0, so.rooms.1, c.put_found.ensures.room ∙ so.rooms.2);
      few = omega (arith, so.few, popped.len);
      room = omega (arith, so.room, popped.len, more);
      ahead = still-ahead c.jobs.next.items (length c.jobs.jobs.items + length c.jobs.findings.items)
          (length c.pop.new.self.items + length c.put_found.new.findings.items) so.ahead (omega (arith, popped.len, more));
      held = omega (arith, so.held, popped.len, more);
      filed = so.filed;
    }

pub go_on-requires-clause-none : goal.go_on-requires-clause-none
go_on-requires-clause-none g c =
    none-of c.jobs.next.items (omega (arith, eqb-true c.jobs.next.len 0 (sym c.if-is_empty-2.ensures), c.jobs.next.ok))

pub returns-then-is_empty-2-clause-work : goal.returns-then-is_empty-2-clause-work
returns-then-is_empty-2-clause-work g c =
    let left = none-left g.L.Searched.scenario c.jobs.jobs.items c.pop.new.self.items c.jobs.next.items c.jobs.findings.items c.jobs.share.scratch
    c.pop.result c.jobs.invariant.work c.pop.ensures.items in
    gone-on g.L.Searched.scenario c.pop.new.self.items c.jobs.next.items c.go_on.new.jobs.items c.jobs.findings.items c.go_on.new.findings.items
    c.jobs.share.scratch c.go_on.new.share.scratch left c.go_on.ensures.same (inr c.go_on.ensures.none) c.go_on.ensures.scratch

pub returns-else-is_empty-2-clause-work : goal.returns-else-is_empty-2-clause-work
returns-else-is_empty-2-clause-work g c =
    none-left g.L.Searched.scenario c.jobs.jobs.items c.pop.new.self.items c.jobs.next.items c.jobs.findings.items c.jobs.share.scratch c.pop.result
    c.jobs.invariant.work c.pop.ensures.items
