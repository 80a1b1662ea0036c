-- Lines put together.
use Rattle.std.proofs.Common.{◌≡◌, ℕ, ◌+◌, List, ◌++◌, sym, ap, ◌∙◌, codes, append_assoc}
use Rattle.std.specs.Fmt.{decimal}
use Rattle.lf_sim.specs.Runs.{each_below}
use Rattle.lf_sim.proofs.Laws.{each_below-add-one}
use Rattle.lf_trace.specs.Lines.{line}

-- one line more
pub more_lines : (old text new : List ℕ) (f : ℕ → List ℕ) (n : ℕ) → text ≡ old ++ each_below f n → new ≡ text ++ f n → new ≡ old ++ each_below f (n + 1)
more_lines old text new f n so next =
    next ∙ ap (λ t. t ++ f n) so ∙ append_assoc old (each_below f n) (f n) ∙ ap (λ lines. old ++ lines) (sym (each_below-add-one f n))

-- the last line after all steps
pub trace_told : (text new word said : List ℕ) (f : ℕ → List ℕ) (n m : ℕ) → text ≡ each_below f n → n ≡ m → new ≡ text ++ line word → word ≡ said
    → new ≡ each_below f m ++ line said
trace_told text new word said f n m so all next is =
    next ∙ ap (λ t. t ++ line word) (so ∙ ap (each_below f) all) ∙ ap (λ last. each_below f m ++ line last) is

-- the three parts of a step
pub step_told : (old first second new head nodes notes : List ℕ) → first ≡ old ++ head → second ≡ first ++ nodes → new ≡ second ++ notes
    → new ≡ old ++ (head ++ nodes ++ notes)
step_told old first second new head nodes notes a b c =
    c ∙ ap (λ t. t ++ notes) (b ∙ ap (λ t. t ++ nodes) a ∙ append_assoc old head nodes) ∙ append_assoc old (head ++ nodes) notes

-- a note's line, in four pieces
pub note_told : (n m : ℕ) (old first second third new word tail : List ℕ)
    → first ≡ old ++ (decimal n ++ (codes ">" ++ (decimal m ++ codes " "))) → second ≡ first ++ word → third ≡ second ++ codes " " → new ≡ third ++ tail
    → new ≡ old ++ (decimal n ++ (codes ">" ++ (decimal m ++ (codes " " ++ (word ++ (codes " " ++ tail))))))
note_told n m old first second third new word tail a b c d =
    let rest : List ℕ = word ++ (codes " " ++ tail) in
    d ∙ ap (λ bs. bs ++ tail) c ∙ append_assoc second (codes " ") tail
    ∙ ap (λ bs. bs ++ (codes " " ++ tail)) b ∙ append_assoc first word (codes " " ++ tail)
    ∙ ap (λ bs. bs ++ rest) a
    ∙ append_assoc old (decimal n ++ (codes ">" ++ (decimal m ++ codes " "))) rest
    ∙ ap (λ bs. old ++ bs) (append_assoc (decimal n) (codes ">" ++ (decimal m ++ codes " ")) rest
    ∙ ap (λ bs. decimal n ++ (codes ">" ++ bs)) (append_assoc (decimal m) (codes " ") rest))
