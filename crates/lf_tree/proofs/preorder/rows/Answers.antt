use Rattle.std.proofs.Common.{◌≡◌, sym, ap, ◌∙◌, subst, map, rules}
use Rattle.lf_tree.specs.Preorder.{AreHung, AreRows}
use Rattle.lf_tree.specs.Rows.{Seen, rows_of, seen}
use Rattle.lf_tree.proofs.HangLemmas.{hung, nodes-rows_of}
use Rattle.lf_tree.proofs.PlaceLemmas.{are-rows}
use Rattle.lf_tree.proofs.RowLemmas.{nodes-seen}
use Rattle.lf_tree.proofs.preorder.rows.Goals as goal

pub returns-clause-preorder : goal.returns-clause-preorder
returns-clause-preorder c =
    let whole : map seen c.put_beneath.new.rows.items ≡ rows_of c.args.tree.now = search rules in
    nodes-seen c.put_beneath.new.rows.items ∙ ap (map (λ (r : Seen). r.node)) whole ∙ nodes-rows_of c.args.tree.now

pub returns-clause-hung : goal.returns-clause-hung
returns-clause-hung c =
    let whole : map seen c.put_beneath.new.rows.items ≡ rows_of c.args.tree.now = search rules in
    subst AreHung (sym whole) (hung c.args.tree.now)

pub returns-clause-each : goal.returns-clause-each
returns-clause-each c =
    let whole : map seen c.put_beneath.new.rows.items ≡ rows_of c.args.tree.now = search rules in
    subst (AreRows c.args.tree.now) (sym whole) (are-rows c.args.tree.now)
