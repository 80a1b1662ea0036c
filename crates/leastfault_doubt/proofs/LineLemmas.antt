-- The line of a question.
use Rattle.std.proofs.Common.{◌≡◌, ℕ, List, [], ◌∷◌, sym, ap, ◌∙◌}
use Rattle.std.specs.Prelude.{Some, slice_get}
use Rattle.lf_doubt.specs.declared.question.Question.{Question}
use Rattle.lf_doubt.specs.Names.{question_name}
use Rattle.lf_sweep.specs.Counts.{Told}
use Rattle.lf_sweep.specs.Lines.{line_of}
use Rattle.leastfault_doubt.specs.Replies.{name_at, told_line}

-- it is made of the question's name and the reply
pub line-told : (questions : List Question) (number : ℕ) (question : Question) (name bytes : List ℕ) (told : Told)
    → slice_get questions number ≡ Some question → name ≡ question_name question → bytes ≡ line_of (name ∷ []) told.0
    → bytes ≡ told_line questions number told
line-told questions number question name bytes told there named made =
    made ∙ ap (λ n. line_of (n ∷ []) told.0) named ∙ ap (λ x. line_of (name_at x) told.0) (sym there)
