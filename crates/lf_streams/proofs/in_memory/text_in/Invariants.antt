use Rattle.std.proofs.Common.{◌≡◌, length}
use Rattle.lf_streams.specs.InMemory.{file_in}
use Rattle.lf_streams.proofs.in_memory.text_in.Given as goal

abbrev pub invariant-loop-file : goal.invariant-loop-file
invariant-loop-file l = file_in l.rest l.fn.name ≡ file_in l.fn.files l.fn.name

abbrev pub decreases-loop-file : goal.decreases-loop-file
decreases-loop-file l = length l.rest
