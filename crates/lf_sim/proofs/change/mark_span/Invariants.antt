use Rattle.std.proofs.Common.{◌≡◌, ℕ, ◌<◌, ◌≤◌, true}
use Rattle.lf_sim.specs.Marks.{is_marked}
use Rattle.lf_sim.proofs.change.mark_span.Given as goal

-- the steps so far are marked
abbrev pub invariant-loop-step : goal.invariant-loop-step
invariant-loop-step l =
    record {
      marked : (t : ℕ) → l.first ≤ t → t < l.step → is_marked l.marks.points l.node t ≡ true;
      kept : (n t : ℕ) → is_marked l.initial.marks.points n t ≡ true → is_marked l.marks.points n t ≡ true;
    }
