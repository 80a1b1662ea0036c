use Rattle.std.proofs.Common.{arith, sym, ap, ◌∙◌}
use Rattle.std.proofs.lemmas.Fmt.{decimal_digit}
use Rattle.lf_tree.specs.Rests.{left_of, skip}
use Rattle.lf_tree.proofs.own.after_digit.Goals as goal

pub returns : goal.returns
returns c = c.after.ensures ∙ ap (λ ds. skip ds (left_of c.args.left)) (sym (decimal_digit c.args.digit (omega arith)))
