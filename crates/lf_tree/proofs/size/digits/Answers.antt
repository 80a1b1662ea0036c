use Rattle.std.proofs.Common.{arith, sym}
use Rattle.lf_tree.proofs.LengthLemmas.{one_digit, two_digits}
use Rattle.lf_tree.proofs.size.digits.Goals as goal

pub returns-then-number-lt10-clause-value : goal.returns-then-number-lt10-clause-value
returns-then-number-lt10-clause-value c = sym (one_digit c.args.number (omega arith))

pub returns-else-number-lt10-clause-value : goal.returns-else-number-lt10-clause-value
returns-else-number-lt10-clause-value c = sym (two_digits c.args.number (omega arith) (omega arith))
