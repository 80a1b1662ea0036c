use Rattle.std.proofs.Common.{inl, inr, sym, ◌∙◌}
use Rattle.std.proofs.lemmas.Bool.{and_from, and_parts}
use Rattle.lf_mutations.proofs.Laws.{mutated-formed, mutated-mutant}
use Rattle.lf_rules.specs.Forms.{is_well_formed}
use Rattle.lf_protocol_file.specs.Written.{are_named}
use Rattle.lf_changes.proofs.NamedLemmas.{named-same}
use Rattle.lf_changes.proofs.changed.mutant.Goals as goal

pub returns-in-Err-clause-cause : goal.returns-in-Err-clause-cause
returns-in-Err-clause-cause c =
    elim c.fault_of.ensures [
      | inl w ↦ inl w.1
      | inr w ↦ inr (w.1, (c.in-Err.error, w.0, c.in-Err.ensures.reading w.0))
    ]

pub whole_file-requires : goal.whole_file-requires
whole_file-requires c =
    let d = c.in-Ok.declared.definition in
    let e = c.in-Some.definition in
    let made = sym c.mutated.ensures ∙ c.in-Some.is in
    let mutant = mutated-mutant d e c.args.mutation made in
    let whole = and_parts (is_well_formed d) (are_named d c.in-Ok.declared.outcomes) c.in-Ok.ensures.whole in
    and_from (is_well_formed e) (are_named e c.in-Ok.declared.outcomes) (mutated-formed d e c.args.mutation whole.0 made)
    (named-same d e mutant.facts mutant.variables c.in-Ok.declared.outcomes ∙ whole.1)
