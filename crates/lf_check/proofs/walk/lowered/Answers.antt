use Rattle.std.proofs.Common.{sym, ◌∙◌}
use Rattle.lf_check.proofs.FirstsLemmas.{one-first, one-before, one-behind}
use Rattle.lf_check.proofs.walk.lowered.Goals as goal

pub returns-then-is_before : goal.returns-then-is_before
returns-then-is_before c = one-before c.args.set c.args.first c.in-Some.least c.in-Some.is (sym c.is_before.ensures ∙ c.if-is_before.true)

pub returns-else-is_before : goal.returns-else-is_before
returns-else-is_before c = one-behind c.args.set c.args.first c.in-Some.least c.in-Some.is (sym c.is_before.ensures ∙ c.if-is_before.false)

pub returns-in-None : goal.returns-in-None
returns-in-None c = one-first c.args.set c.args.first c.in-None.is
