use Rattle.std.proofs.Common.{◌&&◌, slice_index, arith}
use Rattle.lf_rule_machine.specs.Sets.{is_true}
use Rattle.lf_rule_machine.specs.Bodies.{is_member}
use Rattle.lf_rule_machine.proofs.BodiesLemmas.{those-eight}
use Rattle.lf_rule_machine.proofs.bodies.those.Goals as goal

pub returns : goal.returns
returns c =
    let sum = those-eight (λ n. is_member c.args.nodes c.args.set n && is_true (slice_index c.args.values.now n)) in
    omega (
      arith,
      sum,
      c.bit-b0.ensures.value,
      c.bit-b1.ensures.value,
      c.bit-b2.ensures.value,
      c.bit-b3.ensures.value,
      c.bit-b4.ensures.value,
      c.bit-b5.ensures.value,
      c.bit-b6.ensures.value,
      c.bit-b7.ensures.value,
    )
