use Rattle.std.proofs.Common.{rules, arith, sym, ◌∙◌, ◌≤◌, length-set}
use Rattle.std.proofs.lemmas.List.Elements.{All-set}
use Rattle.lf_tree.proofs.Items.{placed}
use Rattle.lf_tree.proofs.lists.reach_of.Goals as goal

pub items-preserved : goal.items-preserved
items-preserved c = (
  placed c.args.items.now c.items.steps c.items.i c.in_ok-step.step c.index-items-i.result (search rules)
      (omega (arith, c.items.invariant.2, c.requires.1)) c.index-items-i.is
      (sym c.in_ok-step.ensures.value) _ c.items.invariant.0,
  All-set (λ t. t ≤ 48) c.items.steps c.items.i c.in_ok-step.step c.in_ok-step.ensures.within c.items.invariant.1,
  length-set c.items.steps c.items.i c.in_ok-step.step ∙ c.items.invariant.2,
)
