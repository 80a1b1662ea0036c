use Rattle.std.proofs.Common.{◌≡◌, ℕ, List}
use Rattle.std.specs.Iterator.{AlwaysYields}
use Rattle.std.specs.Str.Iter.{split_steps}
use Rattle.std.specs.Str.Pattern.{FindsChar}
use Rattle.lf_delays.proofs.Pieces.{IsReading}
use Rattle.lf_delays.proofs.reading.read_list.Given as goal

-- the pieces still to come, and the delays that those before them named
abbrev pub invariant-pieces : goal.invariant-pieces
invariant-pieces l =
    (pieces : List (List ℕ)) × AlwaysYields (split_steps FindsChar (λ a b. b ≡ a)) (λ x. x.now) l.piece-iterator pieces
    × IsReading l.network l.text l.delays.items pieces
