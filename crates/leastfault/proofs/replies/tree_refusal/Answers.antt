use Rattle.std.proofs.Common.{◌≡◌, ◌++◌, subst, string_bytes}
use Rattle.std.specs.Prelude.{IfOk, codes}
use Rattle.std.specs.Fmt.{decimal}
use Rattle.lf_trace.specs.Lines.{line}
use Rattle.leastfault.proofs.replies.tree_refusal.Goals as goal

pub returns : goal.returns
returns c =
    subst (λ n. IfOk c.tree_line.result (λ text. string_bytes text ≡ line (codes "refused tree " ++ decimal n))) c.number.ensures c.tree_line.ensures
