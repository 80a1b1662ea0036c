use Rattle.std.proofs.Common.{sym, ap, ◌∙◌}
use Rattle.std.proofs.lemmas.Bool.Decides.{Decides-eqb}
use Rattle.std.proofs.lemmas.Slice.Eq.{strip_prefix_is}
use Rattle.lf_tree.specs.Rests.{left_of, skip}
use Rattle.lf_tree.proofs.RestLemmas.{skip-none, stripped}
use Rattle.lf_tree.proofs.own.after.Goals as goal

pub returns-in-Some : goal.returns-in-Some
returns-in-Some c =
    stripped c.args.text.now c.in-Some.bytes.now c.strip_prefix.result
    (strip_prefix_is Decides-eqb c.in-Some.bytes.now c.args.text.now c.strip_prefix.result c.strip_prefix.ensures.cases)
    ∙ sym (ap (λ l. skip c.args.text.now (left_of l)) c.in-Some.is)

pub returns-in-None : goal.returns-in-None
returns-in-None c = sym (ap (λ l. skip c.args.text.now (left_of l)) c.in-None.is ∙ skip-none c.args.text.now)
