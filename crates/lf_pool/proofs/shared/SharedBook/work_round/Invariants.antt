use Rattle.std.specs.Prelude.{◌≡◌, ◌⊎◌, ◌+◌, ◌≤◌, [], length, vec_capacity}
use Rattle.lf_pool.specs.Holds.{IsAtWork}
use Rattle.lf_pool.specs.declared.handful.TheConstants.{HANDFUL}
use Rattle.lf_pool.proofs.shared.SharedBook.work_round.Given as goal

abbrev pub invariant-jobs : goal.invariant-jobs
invariant-jobs g l = record {
  work : IsAtWork g.L.Searched.scenario l.jobs.items l.next.items l.findings.items l.share.scratch;
  rooms : (vec_capacity l.jobs ≡ vec_capacity l.initial.jobs) × (vec_capacity l.next ≡ vec_capacity l.initial.next)
      × (vec_capacity l.findings ≡ vec_capacity l.initial.findings);
  few : length l.jobs.items ≤ HANDFUL;
  room : length l.jobs.items + length l.findings.items ≤ HANDFUL + HANDFUL;
  ahead : (l.next.items ≡ []) ⊎ ((length l.jobs.items + length l.findings.items ≤ HANDFUL) × (length l.next.items ≤ HANDFUL));
  held : l.hand.held ≡ length l.jobs.items + (length l.next.items + length l.findings.items);
  filed : l.initial.share.filed ≤ l.share.filed;
}

abbrev pub decreases-jobs : goal.decreases-jobs
decreases-jobs g l = length l.jobs.items
