use Rattle.std.proofs.Common.{ap, ◌∙◌}
use Rattle.std.specs.Prelude.{codes}
use Rattle.toml.proofs.Views.{view-Table}
use Rattle.toml.specs.Data.{table}
use Rattle.toml.specs.View.{table_view, view}
use Rattle.lf_sweep.specs.Members.{constants_of, with_member}
use Rattle.lf_sweep.proofs.MemberLemmas.{with_member-twice}
use Rattle.lf_sweep.proofs.members.put_constant.Goals as goal

pub returns : goal.returns
returns c =
    let given = codes "given" in
    let before = table_view c.args.scenario.now in
    let constants = c.constants_in-constants.ensures ∙ ap constants_of c.in_ok-before.ensures.before in
    let inner = c.in_ok-_other.ensures.after ∙ ap (with_member c.args.name.now (view c.args.value)) constants in
    let value = view-Table c.put_member-2.new.members ∙ ap table inner in
    c.in_ok-_empty.ensures.after ∙ ap (λ x. with_member given x (table_view c.put_member.new.members)) value
    ∙ ap (with_member given _) c.in_ok-before.ensures.after ∙ with_member-twice given _ _ before
