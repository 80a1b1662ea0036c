use Rattle.std.proofs.Common.{◌≡◌, take}
use Rattle.lf_book.proofs.tasks.are_same.Given as goal

-- so far they are the same
abbrev pub invariant-faults : goal.invariant-faults
invariant-faults l = take l.i l.one ≡ take l.i l.other
