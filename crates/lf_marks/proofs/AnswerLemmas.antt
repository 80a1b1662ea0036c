-- The marks of answers.
use Rattle.lf_marks.specs.Steps.{IsAnswer}
use Rattle.lf_marks.specs.Answers.{mark_for}
use Rattle.lf_marks.specs.declared.grown.Answer.{Answer}
use Rattle.lf_marks.specs.declared.grown.Answer.TheVariants.{Misses, Reaches, Branch}

pub is-answer : (a : Answer) → IsAnswer (mark_for a)
is-answer Misses = tt
is-answer Reaches = tt
is-answer (Branch g) = tt
