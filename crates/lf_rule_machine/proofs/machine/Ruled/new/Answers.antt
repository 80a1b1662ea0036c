use Rattle.std.proofs.Common.{ap, ◌∙◌, arith}
use Rattle.lf_rule_machine.specs.Indexes.{rows_of}
use Rattle.lf_rule_machine.proofs.machine.Ruled.new.Goals as goal

pub invariant_of-indexed : goal.invariant_of-indexed
invariant_of-indexed c = record {
  indexed =
      c.in_ok-rows.ensures
      ∙ ap (λ d. rows_of d c.args.nodes c.given_table-given.result) (c.definition-2.ensures.value ∙ c.deref-2.ensures);
  many = omega arith;
  few = omega arith;
}
