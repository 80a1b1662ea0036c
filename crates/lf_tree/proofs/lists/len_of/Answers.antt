use Rattle.std.proofs.Common.{sym}
use Rattle.serde_json.proofs.Views.{items_len-items_view}
use Rattle.lf_tree.proofs.lists.len_of.Goals as goal

pub returns-clause-value : goal.returns-clause-value
returns-clause-value c = sym (items_len-items_view c.args.items.now)
