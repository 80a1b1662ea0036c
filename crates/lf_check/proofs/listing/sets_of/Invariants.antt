use Rattle.std.proofs.Common.{◌≡◌, length}
use Rattle.lf_check.specs.Rows.{AreSets}
use Rattle.lf_check.proofs.listing.sets_of.Given as goal

-- the sets of the nodes so far
abbrev pub invariant-loop-row : goal.invariant-loop-row
invariant-loop-row l = (length l.sets.items ≡ l._row-index) × AreSets l.tree l.sets.items
