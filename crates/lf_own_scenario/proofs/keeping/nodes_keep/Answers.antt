use Rattle.std.specs.Prelude.{None}
use Rattle.lf_own_scenario.proofs.KeepingLemmas.{each-keeps, no-keeps, some-keeps, most-keeps, down-keeps, at-keeps, one-keeps}
use Rattle.lf_own_scenario.proofs.keeping.nodes_keep.Goals as goal

pub returns : goal.returns
returns g c = record {
  each = λ w faults s fact of first t. each-keeps w faults s of t fact first;
  no = λ w faults s fact of first t. no-keeps w faults s of t fact first;
  some = λ w faults s fact of first t. some-keeps w faults s of t fact first;
  at_most_one = λ w faults s fact of first t. most-keeps w faults s of t fact first;
  down = λ w faults s n first t. down-keeps w faults s n first t;
  shows = λ w faults s n fact first t. at-keeps w faults s None n fact first t;
  one = λ w faults s topic first t. one-keeps w faults s topic first t;
}
