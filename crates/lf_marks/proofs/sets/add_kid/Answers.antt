use Rattle.std.proofs.Common.{◌∙◌, ap, sym, ◌++◌, ◌∷◌, []}
use Rattle.std.specs.Box.{with_value}
use Rattle.lf_tree.specs.declared.tree.Node.TheVariants as node
use Rattle.lf_marks.specs.Building.{kids_in}
use Rattle.lf_marks.specs.declared.set.Branch.{Branch}
use Rattle.lf_marks.specs.declared.set.State.TheVariants as state
use Rattle.lf_marks.proofs.BareLemmas.{bare-widened}
use Rattle.lf_marks.proofs.SetLemmas.{wide-within}
use Rattle.lf_marks.proofs.sets.add_kid.Goals as goal

pub returns-clause-bare : goal.returns-clause-bare
returns-clause-bare c bare =
    bare-widened c.args.sets.now.items c.args.parent c.index_mut-set.result.now (state.Branch (with_value c.in-Branch.branch c.add_kid.new.self))
    (wide-within c.args.sets.now.items c.args.parent c.requires.more) c.index_mut-set.ensures.value
    (c.add_kid.ensures.nodes ∙ ap (λ (b : Branch). b.kids.items ++ node.Reaches ∷ []) c.deref_mut.ensures.value
    ∙ ap (λ st. kids_in st ++ node.Reaches ∷ []) (sym c.in-Branch.is)) bare
