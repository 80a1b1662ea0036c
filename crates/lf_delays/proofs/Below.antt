-- Lists told one after another.
use Rattle.std.proofs.Common.{◌≡◌, ℕ, suc, ◌+◌, add-one, List, ◌++◌, append_assoc, sym, ap, ◌∙◌}
use Rattle.lf_sim.specs.Runs.{each_below}
use Rattle.lf_sim.proofs.Laws.{each_below-add-one}

-- one list more
pub more_told : {A : Type 0} (old so_far new : List A) (f : ℕ → List A) (n : ℕ) → so_far ≡ old ++ each_below f n → new ≡ so_far ++ f n
    → new ≡ old ++ each_below f (n + 1)
more_told old so_far new f n before next =
    next ∙ ap (λ xs. xs ++ f n) before ∙ append_assoc old (each_below f n) (f n) ∙ ap (λ xs. old ++ xs) (sym (each_below-add-one f n))

-- those of steps, which are counted from 1
pub steps_told : {A : Type 0} (so_far new : List A) (f : ℕ → List A) (n : ℕ) → so_far ≡ each_below (λ past. f (suc past)) n → new ≡ so_far ++ f (n + 1)
    → new ≡ each_below (λ past. f (suc past)) (n + 1)
steps_told so_far new f n before next =
    next ∙ ap (λ xs. xs ++ f (n + 1)) before ∙ ap (λ k. each_below (λ past. f (suc past)) n ++ f k) (add-one n)
    ∙ sym (each_below-add-one (λ past. f (suc past)) n)
