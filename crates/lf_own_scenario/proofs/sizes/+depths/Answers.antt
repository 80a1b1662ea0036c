use Rattle.std.proofs.Common.{ℕ, List, ap, map, max, min, sym, ◌∙◌, arith}
use Rattle.std.specs.List.{fold}
use Rattle.lf_outcome.specs.Measures.{depth_of}
use Rattle.lf_promises.specs.declared.promise.Promise.{Promise}
use Rattle.lf_own_scenario.specs.Sizes.{depth_of_many}
use Rattle.lf_own_scenario.specs.Unfolding.{formula_at}
use Rattle.lf_own_scenario.proofs.SizeLemmas.{depth-at, depth-never, depth-always, depth-nodes, depth-few, depth-single}
use Rattle.lf_own_scenario.proofs.sizes.+depths.Goals as goal

pub depth-returns-in-Nodes : goal.depth-returns-in-Nodes
depth-returns-in-Nodes t c =
    let s = c.args.scene.now in
    let size = c.depth_of_many.ensures ∙ ap (depth_of_many c.in-Nodes.many) c.count_members.ensures in
    let whole = ap (λ (p : Promise). depth_of (formula_at s 0 p 0)) c.in-Nodes.is ∙ depth-nodes s c.in-Nodes.many c.in-Nodes.fact c.in-Nodes.of in
    let small = depth-few c.in-Nodes.many c.count_members.result in
    omega (arith, size, whole, small, c.depth_of_many.ensures)

pub depth-returns-in-Down : goal.depth-returns-in-Down
depth-returns-in-Down t c = depth-single c.args.scene.now c.args.promise.now c.in-Down.is

pub depth-returns-in-Down-2 : goal.depth-returns-in-Down-2
depth-returns-in-Down-2 t c = depth-single c.args.scene.now c.args.promise.now c.in-Down.is

pub depth-returns-in-Down-3 : goal.depth-returns-in-Down-3
depth-returns-in-Down-3 t c = depth-single c.args.scene.now c.args.promise.now c.in-Down.is

pub depth-returns-then-scene-eq0 : goal.depth-returns-then-scene-eq0
depth-returns-then-scene-eq0 t c =
    ap (λ (k : ℕ). min k 4294967295) (sym (depth-never c.args.scene.now c.args.promise.now c.in-Always.parts c.in-Always.is c.if-scene-eq0.true))

pub depth-returns-else-scene-eq0 : goal.depth-returns-else-scene-eq0
depth-returns-else-scene-eq0 t c =
    let s = c.args.scene.now in
    let deepest = c.deepest.ensures
    ∙ ap (λ (ps : List Promise). min (fold max 0 (map (λ part. depth_of (formula_at s 0 part 0)) ps)) 4294967295) c.as_slice.ensures in
    let whole = depth-always s c.args.promise.now c.in-Always.parts c.in-Always.is c.if-scene-eq0.false in
    omega (arith, c.saturating_add.ensures, deepest, whole)

pub depth-returns-in-All : goal.depth-returns-in-All
depth-returns-in-All t c =
    let s = c.args.scene.now in
    let deepest = c.deepest-in-All.ensures
    ∙ ap (λ (ps : List Promise). min (fold max 0 (map (λ part. depth_of (formula_at s 0 part 0)) ps)) 4294967295) c.as_slice-in-All.ensures in
    let whole = depth-at s c.args.promise.now c.in-All.parts c.in-All.is in
    omega (arith, c.saturating_add-in-All.ensures, deepest, whole)
