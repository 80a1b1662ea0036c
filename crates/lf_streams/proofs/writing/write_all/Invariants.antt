-- The sink has taken all bytes but the rest.
use Rattle.std.proofs.Common.{◌≡◌, ℕ, false, List, ◌++◌, length}
use Rattle.std.specs.Io.KnownBytes.{Appends}
use Rattle.lf_streams.proofs.writing.write_all.Given as goal

abbrev pub invariant-rest : goal.invariant-rest
invariant-rest g l = record {
  done : List ℕ;
  split : l.bytes ≡ done ++ l.rest;
  taken : Appends (g.K.Sink.written l.initial.sink) (g.K.Sink.written l.sink) done;
  well : g.K.Sink.has_failed l.sink ≡ false;
}

abbrev pub decreases-rest : goal.decreases-rest
decreases-rest g l = length l.rest
