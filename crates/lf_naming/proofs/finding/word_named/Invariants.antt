use Rattle.std.proofs.Common.{◌≡◌}
use Rattle.std.specs.Prelude.{find, slice_get}
use Rattle.lf_naming.specs.Facts.{has_name, own_words, word_facts}
use Rattle.lf_naming.proofs.FirstsLemmas.{first_from}
use Rattle.lf_naming.proofs.finding.word_named.Given as goal

-- it is no word of the variables so far
abbrev pub invariant-variables : goal.invariant-variables
invariant-variables l =
    first_from (has_name l.definition l.word) (λ variable. own_words variable (slice_get l.definition.variables variable)) l.variable l.variable-end
    ≡ find (has_name l.definition l.word) (word_facts l.definition)
