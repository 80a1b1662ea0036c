-- What was read so far was taken from the source, and it is no more than the limit and one.
use Rattle.std.proofs.Common.{◌≡◌, ◌+◌, ◌-◌, ◌≤◌, false, length}
use Rattle.std.specs.Io.KnownBytes.{Consumes}
use Rattle.lf_streams.proofs.reading.read_up_to.Given as goal

abbrev pub invariant-chunks : goal.invariant-chunks
invariant-chunks g l = record {
  taken : Consumes (g.S.Source.left l.initial.source) (g.S.Source.left l.source) l.bytes.items;
  few : length l.bytes.items ≤ l.limit + 1;
  well : g.S.Source.has_failed l.source ≡ false;
}

abbrev pub decreases-chunks : goal.decreases-chunks
decreases-chunks g l = l.limit + 1 - length l.bytes.items
