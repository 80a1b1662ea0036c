use Rattle.std.proofs.Common.{arith, ◌/◌, ◌%◌}
use Rattle.std.specs.Fmt.{decimal}
use Rattle.lf_tree.specs.Rests.{left_of}
use Rattle.lf_tree.proofs.LengthLemmas.{tens_and_units}
use Rattle.lf_tree.proofs.RestLemmas.{skip-two}
use Rattle.lf_tree.proofs.own.after_number.Goals as goal

pub returns : goal.returns
returns c =
    skip-two (decimal (c.args.number / 10)) (decimal (c.args.number % 10)) (decimal c.args.number) (left_of c.args.left) (left_of c.after_digit-left.result)
    (left_of c.after_digit-2.result) (tens_and_units c.args.number (omega arith) (omega arith)) c.after_digit-left.ensures c.after_digit-2.ensures
