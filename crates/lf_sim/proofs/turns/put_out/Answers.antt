use Rattle.std.proofs.Common.{[], ◌∷◌, ◌++◌, ap, ◌∙◌, arith, get_or}
use Rattle.lf_sim.specs.Outs.{nothing}
use Rattle.lf_sim.proofs.TurnsLemmas.{blank-more}
use Rattle.lf_sim.proofs.turns.put_out.Goals as goal

pub loop-next-preserved : goal.loop-next-preserved
loop-next-preserved g c =
    let inv = c.loop-next.invariant in
    record {
      same = λ k. ap (λ xs. get_or xs k nothing) c.push_reserved.ensures.items
          ∙ ap (λ o. get_or (c.loop-next.outs.items ++ o ∷ []) k nothing) c.none.ensures
          ∙ blank-more c.loop-next.outs.items k ∙ inv.same k;
      len = omega (arith, c.push_reserved.ensures.len, inv.len);
      kept = c.push_reserved.ensures.capacity ∙ inv.kept;
    }
