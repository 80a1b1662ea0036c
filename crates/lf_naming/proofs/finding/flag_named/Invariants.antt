use Rattle.std.proofs.Common.{◌≡◌}
use Rattle.std.specs.Prelude.{find, slice_get}
use Rattle.lf_naming.specs.Facts.{flag_facts, has_name, own_flag}
use Rattle.lf_naming.proofs.FirstsLemmas.{first_from}
use Rattle.lf_naming.proofs.finding.flag_named.Given as goal

-- it is none of the flags so far
abbrev pub invariant-variables : goal.invariant-variables
invariant-variables l =
    first_from (has_name l.definition l.word) (λ variable. own_flag variable (slice_get l.definition.variables variable)) l.variable l.variable-end
    ≡ find (has_name l.definition l.word) (flag_facts l.definition)
