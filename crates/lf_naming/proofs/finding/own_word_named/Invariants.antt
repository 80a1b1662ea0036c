use Rattle.std.proofs.Common.{◌≡◌}
use Rattle.std.specs.Prelude.{find, slice_get}
use Rattle.lf_rule_machine.specs.declared.fact.Told.TheVariants as tolds
use Rattle.lf_naming.specs.Facts.{both, has_name, own_words}
use Rattle.lf_naming.proofs.FirstsLemmas.{first_from}
use Rattle.lf_naming.proofs.finding.own_word_named.Given as goal

-- it is none of the words so far
abbrev pub invariant-words : goal.invariant-words
invariant-words l =
    first_from (has_name l.definition l.word) (λ word. both (tolds.Word l.variable word)) l.own l.own-end
    ≡ find (has_name l.definition l.word) (own_words l.variable (slice_get l.definition.variables l.variable))
