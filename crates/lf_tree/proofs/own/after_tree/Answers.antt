use Rattle.std.proofs.Common.{refl, ap, ◌∙◌}
use Rattle.std.specs.Prelude.{codes}
use Rattle.std.specs.Fmt.{decimal}
use Rattle.lf_tree.specs.Rests.{left_of, skip}
use Rattle.lf_tree.specs.Texts.{answer_text, format_of, node_text, tree_text}
use Rattle.lf_tree.proofs.RestLemmas.{skip-seven}
use Rattle.lf_tree.proofs.own.after_tree.Goals as goal

pub returns : goal.returns
returns c =
    skip-seven (codes "{\"answer\":") (answer_text c.args.tree.now.answer) (codes ",\"format\":") (decimal (format_of c.args.tree.now)) (codes ",\"root\":")
    (node_text c.args.tree.now.root) (codes "}") (tree_text c.args.tree.now) (left_of c.args.left) (left_of c.after-left.result)
    (left_of c.after_answer-left.result) (left_of c.after-left-2.result) (left_of c.after_number-left.result) (left_of c.after-left-3.result)
    (left_of c.after_node-left.result) (left_of c.after.result) refl c.after-left.ensures c.after_answer-left.ensures c.after-left-2.ensures
    (c.after_number-left.ensures ∙ ap (λ n. skip (decimal n) (left_of c.after-left-2.result)) c.format_number.ensures) c.after-left-3.ensures
    c.after_node-left.ensures c.after.ensures
