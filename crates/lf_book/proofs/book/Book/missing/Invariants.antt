use Rattle.std.proofs.Common.{◌≡◌, List, map, take, Some}
use Rattle.lf_faults.specs.declared.fault.Parts.{Parts}
use Rattle.lf_marks.specs.Marks.{mark_at}
use Rattle.lf_book.proofs.MissingLemmas.{set_at}
use Rattle.lf_book.proofs.book.Book.missing.Given as goal

-- the sets of the paths so far
abbrev pub invariant-paths : goal.invariant-paths
invariant-paths l =
    map (set_at (mark_at l.self.marks)) (take l.path-index (map (λ v. v.items) l.path-items)) ≡ map (λ (x : List Parts). Some x) l.sets.items
