use Rattle.std.proofs.Common.{◌≡◌, take}
use Rattle.sim_examples.proofs.lists.+same.Given as goal

abbrev pub invariant-all_same-kids : goal.invariant-all_same-kids
invariant-all_same-kids l = take l.i l.ones ≡ take l.i l.others
