use Rattle.std.proofs.Common.{sym, ◌∙◌}
use Rattle.std.proofs.lemmas.Bool.{true≢false}
use Rattle.serde_json.specs.Read.{read}
use Rattle.serde_json.specs.View.{view}
use Rattle.lf_tree.proofs.FirstFaults.{own-value, own-not_refused, some_not_none, value-wrong}
use Rattle.lf_tree.proofs.read.said.Goals as goal

pub returns-in-Ok-clause-own_text : goal.returns-in-Ok-clause-own_text
returns-in-Ok-clause-own_text c =
    own-value c.args.bytes.now (view c.in-Ok.value) c.tree_in.result c.in-Ok.ensures.ok c.tree_in.ensures.ok c.tree_in.ensures.err

pub returns-in-Ok-clause-refused : goal.returns-in-Ok-clause-refused
returns-in-Ok-clause-refused c =
    value-wrong c.args.bytes.now (view c.in-Ok.value) c.tree_in.result c.requires c.in-Ok.ensures.ok c.tree_in.ensures.err

pub returns-in-Err-2-clause-own_text : goal.returns-in-Err-2-clause-own_text
returns-in-Err-2-clause-own_text c =
    λ t is range same. absurd (own-not_refused c.args.bytes.now t is range same (λ d json.
    some_not_none (read c.args.bytes.now) d json.1
    (c.in-Err.ensures.err (λ memory. true≢false (sym (c.is_memory.ensures.1 memory) ∙ c.if-is_memory.false)) json.0)))
