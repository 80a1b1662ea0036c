use Rattle.std.specs.Prelude.{◌≡◌, ◌+◌, ◌≤◌, [], length, vec_capacity}
use Rattle.lf_pool.specs.Holds.{IsAtWork}
use Rattle.lf_pool.specs.declared.handful.TheConstants.{HANDFUL}
use Rattle.lf_pool.proofs.shared.SharedBook.work_rounds.Given as goal

abbrev pub invariant-loop : goal.invariant-loop
invariant-loop g l =
    (goal.iterator-loop g).can_next l.iterator' × (goal.iterator-loop g).is_finite l.iterator'
    × (l.next.items ≡ []) × IsAtWork g.L.Searched.scenario l.jobs.items l.next.items l.findings.items l.share.scratch
    × ((length l.jobs.items ≤ HANDFUL) × (length l.findings.items ≤ HANDFUL))
    × (l.hand.held ≡ length l.jobs.items + length l.findings.items)
    × ((HANDFUL ≤ vec_capacity l.jobs) × (HANDFUL ≤ vec_capacity l.next) × (HANDFUL + HANDFUL ≤ vec_capacity l.findings))
    × (l.initial.share.filed ≤ l.share.filed)
