use Rattle.std.proofs.Common.{sym, ◌∙◌}
use Rattle.std.proofs.lemmas.Bool.{true≢false}
use Rattle.lf_tree.proofs.FirstFaults.{text-refused, said-in_range}
use Rattle.lf_tree.proofs.read.read_tree.Goals as goal

pub returns-then-is_own-clause-tree : goal.returns-then-is_own-clause-tree
returns-then-is_own-clause-tree c =
    let own = c.is_own.ensures.0 c.if-is_own.true in
    (own, said-in_range c.args.bytes.now c.in_ok-tree.ensures.tree.0 c.in_ok-tree.tree c.if-bytes-gt-LONGEST_TREE.false c.in_ok-tree.ensures.tree.2 own)

pub returns-else-is_own-clause-refused : goal.returns-else-is_own-clause-refused
returns-else-is_own-clause-refused c =
    λ other. text-refused c.args.bytes.now c.in_ok-tree.ensures.tree.0 c.in_ok-tree.tree c.if-bytes-gt-LONGEST_TREE.false c.in_ok-tree.ensures.tree.1
    c.in_ok-tree.ensures.tree.2
    (λ same. true≢false (sym (c.is_own.ensures.1 same) ∙ c.if-is_own.false))
