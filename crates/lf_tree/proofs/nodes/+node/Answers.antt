use Rattle.std.proofs.Common.{◌≡◌, ◌≢◌, [], ◌∷◌, ◌++◌, Ok, Err, sym, ap, ◌∙◌, rules}
use Rattle.serde_json.specs.View.{view, items_view}
use Rattle.lf_tree.specs.declared.fault.TreeFault.TheVariants.{Memory}
use Rattle.lf_tree.specs.Reading.{all_in, branch_in, node_in}
use Rattle.lf_tree.specs.Views.{branch_view}
use Rattle.lf_tree.proofs.Items.{read-last, read-more, read-wrong}
use Rattle.lf_tree.proofs.NodeSteps.{branch_in-all, branch_in-wrong}
use Rattle.lf_tree.proofs.NodeSteps.{node_in-leaf, node_in-form, node_in-deep, node_in-branch, ok_of, err_of, ok_same, err_same}
use Rattle.lf_tree.proofs.nodes.+node.Goals as goal

pub node_in-returns-in-Some-clause-ok : goal.node_in-returns-in-Some-clause-ok
node_in-returns-in-Some-clause-ok t c =
    ok_same c.leaf_in.result _ (node_in-leaf c.args.room (view c.args.value.now) (view c.in-Some.misses.now) c.in-Some.ensures ∙ sym c.leaf_in.ensures)

pub node_in-returns-in-Some-clause-err : goal.node_in-returns-in-Some-clause-err
node_in-returns-in-Some-clause-err t c =
    err_same c.leaf_in.result _ (node_in-leaf c.args.room (view c.args.value.now) (view c.in-Some.misses.now) c.in-Some.ensures ∙ sym c.leaf_in.ensures)

pub node_in-returns-in_default-branch_parts-clause-err : goal.node_in-returns-in_default-branch_parts-clause-err
node_in-returns-in_default-branch_parts-clause-err t c =
    λ other. node_in-form c.args.room (view c.args.value.now) c.in_default.ensures c.in_default-branch_parts.ensures

pub node_in-returns-then-room-eq0-clause-err : goal.node_in-returns-then-room-eq0-clause-err
node_in-returns-then-room-eq0-clause-err t c =
    λ other. node_in-deep c.args.room (view c.args.value.now) (branch_view c.in-Some-branch_parts.parts) c.in_default.ensures c.in-Some-branch_parts.ensures
    c.if-room-eq0.true

pub node_in-returns-clause-ok : goal.node_in-returns-clause-ok
node_in-returns-clause-ok t c =
    ok_of c.branch_in.result _ _
    (node_in-branch c.args.room (view c.args.value.now) (branch_view c.in-Some-branch_parts.parts) c.in_default.ensures c.in-Some-branch_parts.ensures
    c.if-room-eq0.false)
    c.branch_in.ensures.ok

pub node_in-returns-clause-err : goal.node_in-returns-clause-err
node_in-returns-clause-err t c =
    err_of c.branch_in.result _ _
    (node_in-branch c.args.room (view c.args.value.now) (branch_view c.in-Some-branch_parts.parts) c.in_default.ensures c.in-Some-branch_parts.ensures
    c.if-room-eq0.false)
    c.branch_in.ensures.err

pub nodes_in-returns-in_err-kid-clause-err : goal.nodes_in-returns-in_err-kid-clause-err
nodes_in-returns-in_err-kid-clause-err t c =
    let e = c.in_err-kid.field-0.0 in
    let wrong : e ≢ Memory → all_in (node_in c.args.room) (items_view c.args.items.now) ≡ Err e =
    λ other. read-wrong (node_in c.args.room) c.args.items.now c.items.kids.items c.items.item-index _ c.items.invariant c.item-item.result e
    c.items-test.true c.item-item.is (sym (c.in_err-kid.ensures.err other)) in
    search rules

pub nodes_in-items-preserved : goal.nodes_in-items-preserved
nodes_in-items-preserved t c =
    let pushed : c.push.new.self.items ≡ c.items.kids.items ++ c.in_ok-kid.kid ∷ [] = search rules in
    read-more (node_in c.args.room) c.args.items.now c.items.kids.items c.items.item-index _ c.items.invariant c.push.new.self.items c.item-item.result
    c.in_ok-kid.kid c.items-test.true c.item-item.is (sym c.in_ok-kid.ensures.ok) pushed

pub nodes_in-returns-clause-ok : goal.nodes_in-returns-clause-ok
nodes_in-returns-clause-ok t c =
    read-last (node_in c.args.room) c.args.items.now c.items.kids.items c.items.item-index _ c.items.invariant c.items-test.false
    ∙ ap Ok (sym c.from_vec.ensures)

pub branch_in-returns-clause-ok : goal.branch_in-returns-clause-ok
branch_in-returns-clause-ok t c =
    branch_in-all (node_in c.args.room) (branch_view c.args.parts) c.in_ok-edges.edges c.in_ok-reach.reach c.in_ok-kids.kids
    c.in_ok-edges.ensures.ok (sym c.in_ok-reach.ensures) c.in_ok-kids.ensures.ok

pub branch_in-returns-in_err-kids-clause-err : goal.branch_in-returns-in_err-kids-clause-err
branch_in-returns-in_err-kids-clause-err t c =
    let e = c.in_err-kids.field-0.0 in
    let wrong : e ≢ Memory → branch_in (node_in c.args.room) (branch_view c.args.parts) ≡ Err e =
    λ other. branch_in-wrong (node_in c.args.room) (branch_view c.args.parts) c.in_ok-edges.edges c.in_ok-reach.reach e
    c.in_ok-edges.ensures.ok (sym c.in_ok-reach.ensures) (c.in_err-kids.ensures.err other) in
    search rules
