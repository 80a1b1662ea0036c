use Rattle.std.proofs.Common.{arith, map, ap, ◌∙◌}
use Rattle.std.specs.Fmt.{decimal}
use Rattle.lf_tree.specs.Rests.{left_of, skip}
use Rattle.lf_tree.specs.Texts.{in_brackets}
use Rattle.lf_tree.proofs.RestLemmas.{skip-first, skip-more}
use Rattle.lf_tree.proofs.own.after_reach.Goals as goal

pub steps-init : goal.steps-init
steps-init c =
    skip-first decimal c.items-step-items.result.now (left_of c.args.left) (left_of c.after-left.result) c.after-left.ensures
    ∙ ap (λ steps. skip (in_brackets (map decimal steps)) (left_of c.args.left)) c.items-step-items.ensures.value

pub steps-preserved : goal.steps-preserved
steps-preserved c =
    skip-more decimal c.items-step-items.result.now c.steps.i c.from.result 0 (left_of c.steps.left) (left_of c.after_comma-next.result)
    (left_of c.after_number-left.result) (skip (in_brackets (map decimal c.args.reach.now)) (left_of c.args.left))
    (omega arith) c.from.ensures c.steps.invariant
    c.after_comma-next.ensures c.after_number-left.ensures
