-- Lines put together.
use Rattle.std.proofs.Common.{◌≡◌, ℕ, ◌+◌, List, ◌++◌, sym, ap, ◌∙◌, append_assoc}
use Rattle.lf_sim.specs.Runs.{each_below}
use Rattle.lf_sim.proofs.Laws.{each_below-add-one}
use Rattle.lf_trace.specs.Lines.{line}

-- two parts
pub two_told : (old mid new a b : List ℕ) → mid ≡ old ++ a → new ≡ mid ++ b → new ≡ old ++ (a ++ b)
two_told old mid new a b first second = second ∙ ap (λ t. t ++ b) first ∙ append_assoc old a b

-- one part more
pub more_lines : (old text new : List ℕ) (f : ℕ → List ℕ) (n : ℕ) → text ≡ old ++ each_below f n → new ≡ text ++ f n → new ≡ old ++ each_below f (n + 1)
more_lines old text new f n so next =
    next ∙ ap (λ t. t ++ f n) so ∙ append_assoc old (each_below f n) (f n) ∙ ap (λ lines. old ++ lines) (sym (each_below-add-one f n))

-- the last line after all steps
pub trace_told : (text new word said : List ℕ) (f : ℕ → List ℕ) (n m : ℕ) → text ≡ each_below f n → n ≡ m → new ≡ text ++ line word → word ≡ said
    → new ≡ each_below f m ++ line said
trace_told text new word said f n m so all next is =
    next ∙ ap (λ t. t ++ line word) (so ∙ ap (each_below f) all) ∙ ap (λ last. each_below f m ++ line last) is
