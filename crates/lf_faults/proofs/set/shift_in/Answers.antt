use Rattle.std.proofs.lemmas.List.{take_rest}
use Rattle.lf_faults.proofs.PlacesLemmas.{shifted}
use Rattle.lf_faults.proofs.set.shift_in.Goals as goal

pub returns : goal.returns
returns c =
    shifted c.args.faults.now _ c.rotate_right.new.self c.args.at c.args.fault c.requires (take_rest c.args.faults.now c.args.at) c.rotate_right.ensures.after
