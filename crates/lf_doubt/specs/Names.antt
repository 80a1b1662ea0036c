-- What questions are called, and the replies that tell what was counted.
use Rattle.std.specs.Prelude.{ℕ, List, ◌++◌, codes}
use Rattle.std.specs.Fmt.{decimal}
use Rattle.lf_mutations.specs.declared.mutation.Mutation.{Mutation}
use Rattle.lf_mutations.specs.declared.mutation.Mutation.TheVariants as those
use Rattle.lf_parts.specs.Words.{part_words}
use Rattle.lf_doubt.specs.declared.change.Change.{Change}
use Rattle.lf_doubt.specs.declared.change.Change.TheVariants as changes
use Rattle.lf_doubt.specs.declared.question.Question.{Question}
use Rattle.lf_doubt.specs.declared.question.Question.TheVariants as asks

abbrev pub mutation_name : Mutation → List ℕ
mutation_name (those.Never rule) = codes "rule " ++ (decimal rule ++ codes " never")
mutation_name (those.Always rule) = codes "rule " ++ (decimal rule ++ codes " always")
mutation_name (those.Unset rule place) = codes "rule " ++ (decimal rule ++ (codes " without set " ++ decimal place))
mutation_name (those.Unsent rule place) = codes "rule " ++ (decimal rule ++ (codes " without send " ++ decimal place))

abbrev pub change_name : Change → List ℕ
change_name (changes.Horizon n) = codes "horizon " ++ decimal n
change_name (changes.Budget n) = codes "budget " ++ decimal n
change_name (changes.Crashes n) = codes "crashes " ++ decimal n
change_name (changes.PauseLength n) = codes "pause_length " ++ decimal n
change_name (changes.Spread n) = codes "spread " ++ decimal n
change_name changes.NoneClamped = codes "clamped"
change_name changes.NoneReplaced = codes "replaced"

abbrev pub question_name : Question → List ℕ
question_name asks.Given = codes "given"
question_name (asks.Taken rule times runs) = codes "rule " ++ decimal rule
question_name (asks.Rule mutation) = mutation_name mutation
question_name (asks.Part stake) = codes "part " ++ (decimal stake.place ++ (codes " " ++ part_words stake.part))
question_name (asks.With change) = change_name change
question_name asks.EveryDelay = codes "every delay"
question_name asks.Spread = codes "every delay, spread 1"

-- how often something is so, of how many, behind a word
abbrev pub counted_reply : List ℕ → ℕ → ℕ → List ℕ
counted_reply word times runs = word ++ (decimal times ++ (codes " of " ++ (decimal runs ++ codes "\n")))
