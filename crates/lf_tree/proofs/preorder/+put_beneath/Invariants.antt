use Rattle.std.proofs.Common.{◌≡◌, ◌<◌, ◌++◌, drop, length, map}
use Rattle.lf_tree.specs.Rows.{beneath, seen}
use Rattle.lf_tree.proofs.RowLemmas.{kids_rows}
use Rattle.lf_tree.proofs.preorder.+put_beneath.Given as goal

-- with the rows of the kids still to come it is all that is beneath the node
abbrev pub invariant-kids : goal.invariant-kids
invariant-kids l = record {
  whole : map seen l.rows.items ++ kids_rows l.place l.depth (length l.rows.items) l.i (drop l.i l.kid-items)
      ≡ map seen l.fn.rows.items ++ beneath l.node l.place l.depth (length l.fn.rows.items);
  deep : l.depth < length l.rows.items;
}
