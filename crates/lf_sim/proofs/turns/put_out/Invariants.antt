use Rattle.std.proofs.Common.{◌≡◌, ℕ, vec_len, vec_capacity}
use Rattle.std.specs.Prelude.{slice_index_or}
use Rattle.lf_sim.specs.Outs.{nothing}
use Rattle.lf_sim.proofs.turns.put_out.Given as goal

-- places so far, with no notes where there were none
abbrev pub invariant-loop-next : goal.invariant-loop-next
invariant-loop-next g l =
    record {
      same : (k : ℕ) → slice_index_or l.outs.items k nothing ≡ slice_index_or l.initial.outs.items k nothing;
      len : vec_len l.outs ≡ l._next;
      kept : vec_capacity l.outs ≡ vec_capacity l.initial.outs;
    }
