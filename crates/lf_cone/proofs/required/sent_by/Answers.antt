use Rattle.std.proofs.Common.{◌<◌, inl, inr, sym, ◌∙◌, subst, arith}
use Rattle.std.specs.Prelude.{IsSome}
use Rattle.std.specs.Int.{w8}
use Rattle.std.proofs.lemmas.Bool.{cases_eq, both_ways}
use Rattle.std.proofs.lemmas.Nat.Bits.{bit_at-zero, bit_at_set_same, bit_at_set_other}
use Rattle.lf_sim.specs.Runs.{sent}
use Rattle.lf_sim.specs.Settings.{world_of, set_of}
use Rattle.lf_cone.proofs.required.sent_by.Goals as goal
use Rattle.lf_cone.proofs.required.sent_by.Goals.{then-was_sent, else-was_sent}

pub loop-to-init : goal.loop-to-init
loop-to-init g c = record { each = λ k h. absurd (omega (arith, h)); rest = λ k h. bit_at-zero k }

pub loop-to-preserved : goal.loop-to-preserved
loop-to-preserved g c =
    let w = world_of c.args.setting.now in
    let F = set_of c.args.run.now in
    let n = c.loop-to.to in
    let bits = c.loop-to.sent in
    let i = c.loop-to.invariant in
    let node : n < 8 = c.loop-to-test.true in
    elim c.if-was_sent.branch [
      | then-was_sent b ↦ rw b.sent-is (record {
        each = λ k h. elim (cases_eq k n) [
          | inl same ↦ (
            λ _. subst (λ m. IsSome (sent w F c.args.from m c.args.step)) (sym same) (c.was_sent.ensures.0 b.if-was_sent.true),
            λ _. rw same (bit_at_set_same w8 bits n node),
          )
          | inr other ↦
              let e = bit_at_set_other w8 bits n node k other in
              let was = i.each k (omega (arith, h, other)) in
              (λ x. was.0 (sym e ∙ x), λ x. e ∙ was.1 x)
        ];
        rest = λ k h. bit_at_set_other w8 bits n node k (λ e. omega (arith, h, e)) ∙ i.rest k (omega (arith, h));
      })
      | else-was_sent b ↦ rw b.sent-is (record {
        each = λ k h. elim (cases_eq k n) [
          | inl same ↦ (
            λ x. absurd (omega (arith, x, i.rest k (omega (arith, same)))),
            λ some. absurd (both_ways c.was_sent.result b.if-was_sent.false
                (c.was_sent.ensures.1 (subst (λ m. IsSome (sent w F c.args.from m c.args.step)) same some))),
          )
          | inr other ↦ i.each k (omega (arith, h, other))
        ];
        rest = λ k h. i.rest k (omega (arith, h));
      })
    ]

pub returns : goal.returns
returns g c = λ to h. c.loop-to.invariant.each to (omega (arith, h, c.loop-to-test.false))
