use Rattle.lf_tree.proofs.Named.{named-is}
use Rattle.lf_tree.proofs.lists.fault_named.Goals as goal

pub returns : goal.returns
returns c = named-is c.args.text.now c.read_fault.result c.read_fault.ensures.fault c.read_fault.ensures.in_range
