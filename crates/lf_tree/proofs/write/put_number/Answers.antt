use Rattle.std.proofs.Common.{arith, ◌/◌, ◌%◌}
use Rattle.std.specs.Fmt.{decimal}
use Rattle.lf_tree.proofs.LengthLemmas.{tens_and_units}
use Rattle.lf_tree.proofs.PutLemmas.{put-two}
use Rattle.lf_tree.proofs.write.put_number.Goals as goal

pub returns : goal.returns
returns c =
    put-two c.put_digit-3.result c.args.text.now.items c.put_digit-2.new.text.items c.put_digit-3.new.text.items
    (decimal (c.args.number / 10)) (decimal (c.args.number % 10)) (decimal c.args.number)
    (tens_and_units c.args.number (omega arith) (omega arith)) c.in_ok-put_digit.ensures c.put_digit-3.ensures
