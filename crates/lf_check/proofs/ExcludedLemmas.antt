-- What is excluded at one kid of a branch after another.
use Rattle.std.proofs.Common.{◌≡◌, ℕ, ◌-◌, ◌≤◌, List, [], ◌++◌, length, map, take, drop, sym, ap, ◌∙◌, append_assoc, subst, arith}
use Rattle.std.specs.Prelude.{slice_get, Option, Some, IfSome}
use Rattle.std.proofs.lemmas.List.{append-nil, length-drop, take-append-drop, take-take, take_all}
use Rattle.lf_faults.specs.declared.fault.Parts.{Parts}
use Rattle.lf_tree.specs.declared.preorder.Row.{Row}
use Rattle.lf_tree.specs.declared.tree.Tree.{Tree}
use Rattle.lf_tree.specs.Rows.{rows_of, seen}
use Rattle.lf_certificate.specs.Places.{Place}
use Rattle.lf_check.specs.declared.excluded.Excluded.{Excluded}
use Rattle.lf_check.specs.declared.excluded.Kid.{Kid}
use Rattle.lf_check.specs.Rows.{StandsAt, ExcludesAt, IsExcluded, edges_of}
use Rattle.lf_check.proofs.RowLemmas.{node_at, read_row}

-- the first items, and those from there up to a place
up_to : (few more : ℕ) (xs : List Parts) → few ≤ more → take few xs ++ drop few (take more xs) ≡ take more xs
up_to few more xs less = ap (λ ys. ys ++ drop few (take more xs)) (sym (take-take few more xs less)) ∙ take-append-drop few (take more xs)

-- the items from a place on, of which there are so many
pub from_on : (n : ℕ) (xs : List Parts) → take (length xs - n) (drop n xs) ≡ drop n xs
from_on n xs = take_all (length xs - n) (drop n xs) (omega (arith, length-drop n xs))

-- a branch before any of its edges
pub excludes_first : (tree : Tree) (branch : ℕ) (none faults : List Parts) → none ≡ []
    → ((way : List ℕ) (p : Place) → StandsAt tree branch way p → faults ≡ none ++ p.excluded) → ExcludesAt tree branch 0 faults
excludes_first tree branch none faults empty all way p stands =
    all way p stands ∙ ap (λ xs. xs ++ p.excluded) empty ∙ sym (append-nil p.excluded)

-- a kid that was gone to
pub excludes_last : (tree : Tree) (excluded : Excluded) (last : Kid) (branch : ℕ) → IsExcluded tree excluded → excluded.last ≡ Some last
    → last.branch ≡ branch → ExcludesAt tree branch last.kid excluded.faults.items
excludes_last tree excluded last branch before is same =
    let here : ExcludesAt tree last.branch last.kid excluded.faults.items =
    subst (λ (o : Option Kid). IfSome o (λ k. ExcludesAt tree k.branch k.kid excluded.faults.items)) is before in
    subst (λ k. ExcludesAt tree k last.kid excluded.faults.items) same here

-- a later kid
pub excludes_more : (tree : Tree) (rows : List Row) (branch : ℕ) (row : Row) → map seen rows ≡ rows_of tree → slice_get rows branch ≡ Some row
    → (few more : ℕ) → few ≤ more → (before between after : List Parts) → ExcludesAt tree branch few before
    → between ≡ drop few (take more (edges_of row.node.now)) → after ≡ before ++ between → ExcludesAt tree branch more after
excludes_more tree rows branch row whole here few more less before between after all edges is way p stands =
    let same = node_at tree branch (seen row) way p (read_row tree rows branch row whole here) stands in
    let xs = edges_of p.node in
    is
    ∙ ap (λ ys. ys ++ between) (all way p stands)
    ∙ ap (λ ys. (p.excluded ++ take few xs) ++ ys) (edges ∙ ap (λ n. drop few (take more (edges_of n))) same)
    ∙ append_assoc p.excluded (take few xs) (drop few (take more xs))
    ∙ ap (λ ys. p.excluded ++ ys) (up_to few more xs less)

-- a kid that is gone to is the last one
pub excluded_now : (tree : Tree) (excluded : Excluded) (last : Kid) → excluded.last ≡ Some last
    → ExcludesAt tree last.branch last.kid excluded.faults.items → IsExcluded tree excluded
excluded_now tree excluded last is here =
    subst (λ (o : Option Kid). IfSome o (λ k. ExcludesAt tree k.branch k.kid excluded.faults.items)) (sym is) here
