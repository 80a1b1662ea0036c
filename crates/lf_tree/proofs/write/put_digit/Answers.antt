use Rattle.std.proofs.Common.{arith, sym, ap, ◌∙◌, ◌++◌}
use Rattle.std.proofs.lemmas.Fmt.{decimal_digit}
use Rattle.lf_tree.proofs.write.put_digit.Goals as goal

pub returns : goal.returns
returns c = c.in_ok-push.ensures.items ∙ ap (λ ds. c.args.text.now.items ++ ds) (sym (decimal_digit c.args.digit (omega arith)))
