use Rattle.std.proofs.Common.{ap, ◌∙◌, option_map, string_bytes}
use Rattle.toml.proofs.Views.{view-lookup}
use Rattle.toml.specs.Data.{get_member}
use Rattle.toml.specs.View.{members_view, table_view, view}
use Rattle.lf_sweep.specs.Members.{with_member}
use Rattle.lf_sweep.proofs.MemberLemmas.{inserted_view}
use Rattle.lf_sweep.proofs.members.put_member.Goals as goal

pub returns-in-Ok-clause-after : goal.returns-in-Ok-clause-after
returns-in-Ok-clause-after c =
    let key = c.in_ok-from_str.field-0 in
    ap members_view c.in-Ok.ensures.entries ∙ inserted_view key c.args.value c.args.members.now.entries
    ∙ ap (λ k. with_member k (view c.args.value) (table_view c.args.members.now)) c.in_ok-from_str.ensures.ok

pub returns-in-Ok-clause-before : goal.returns-in-Ok-clause-before
returns-in-Ok-clause-before c =
    let key = c.in_ok-from_str.field-0 in
    ap (option_map view) c.in-Ok.ensures.old ∙ view-lookup (string_bytes key) c.args.members.now.entries
    ∙ ap (λ k. get_member k (table_view c.args.members.now)) c.in_ok-from_str.ensures.ok
