use Rattle.std.proofs.Common.{◌∙◌, ap, length, arith}
use Rattle.std.specs.Option.{option_map}
use Rattle.lf_tree.specs.declared.tree.Node.{Node}
use Rattle.lf_marks.specs.Nodes.{node_along, said}
use Rattle.lf_marks.proofs.BuildLemmas.{built-none, built-bare, built-beneath, built-hung, built-root}
use Rattle.lf_marks.proofs.marks.Marks.into_nodes.Goals as goal

pub loop-sets-init : goal.loop-sets-init
loop-sets-init c =
    let m = c.args.self in
    built-none m.level m.start m.sets.items m.state.sound m.bare

pub hang_last-requires-clause-beneath : goal.hang_last-requires-clause-beneath
hang_last-requires-clause-beneath c =
    let m = c.args.self in
    built-beneath m.level m.start m.sets.items m.state.sound c.loop-sets.sets.items c.loop-sets.invariant
    (omega (arith, c.loop-sets-test.true, c.len.ensures, c.loop-sets.sets.ok))

pub hang_last-requires-clause-bare : goal.hang_last-requires-clause-bare
hang_last-requires-clause-bare c =
    let m = c.args.self in
    built-bare m.level m.start m.sets.items m.state.sound c.loop-sets.sets.items c.loop-sets.invariant
    (omega (arith, c.loop-sets-test.true, c.len.ensures, c.loop-sets.sets.ok))

pub loop-sets-preserved : goal.loop-sets-preserved
loop-sets-preserved c =
    let m = c.args.self in
    built-hung m.level m.start m.sets.items m.state.sound c.requires.done c.requires.free c.loop-sets.sets.items c.hang_last.new.sets.items
    (omega (arith, c.loop-sets-test.true, c.len.ensures, c.loop-sets.sets.ok)) c.loop-sets.invariant c.hang_last.ensures

pub returns : goal.returns
returns c p =
    let m = c.args.self in
    let root = c.take_last-root.new.sets.items in
    ap (λ (n : Node). option_map said (node_along n p)) c.take_last-root.ensures.node
    ∙ built-root m.level m.start m.sets.items m.state.sound c.requires.done c.requires.free c.loop-sets.sets.items (length root)
    (omega (arith, c.take_last-root.ensures.count, c.loop-sets-test.false, c.len.ensures, c.loop-sets.sets.ok)) c.take_last-root.ensures.count
    c.loop-sets.invariant p
