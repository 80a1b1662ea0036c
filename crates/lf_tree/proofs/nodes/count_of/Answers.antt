use Rattle.std.proofs.Common.{◌≡◌, rules, sym, ◌∙◌, length}
use Rattle.serde_json.proofs.Views.{members_len-members_view}
use Rattle.lf_tree.proofs.nodes.count_of.Goals as goal

pub returns : goal.returns
returns c =
    let counted : c.len.result ≡ length c.args.map.now.entries = search rules in
    counted ∙ sym (members_len-members_view c.args.map.now.entries)
