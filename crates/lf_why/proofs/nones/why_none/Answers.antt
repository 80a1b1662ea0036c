use Rattle.std.proofs.Common.{◌++◌, ap, ◌∙◌, string_bytes}
use Rattle.lf_why.specs.Idle.{idle_line}
use Rattle.lf_why.specs.Levels.{level_lines}
use Rattle.lf_why.specs.Rests.{rest_lines}
use Rattle.lf_why.proofs.Told.{three_told}
use Rattle.lf_why.proofs.nones.why_none.Goals as goal

pub returns : goal.returns
returns g c =
    let root = c.args.tree.now.root in
    let reach = c.in_ok-reach.reach in
    let told = three_told (string_bytes c.new-text.result) (string_bytes c.push_levels.new.text) (string_bytes c.push_rests.new.text)
    (string_bytes c.push_idle.new.text) (level_lines root c.budget.result) (rest_lines c.nodes.result reach) (idle_line c.idle_keeps.result)
    c.in_ok-push_levels.ensures c.in_ok-push_rests.ensures c.in_ok-push_idle.ensures in (
      reach,
      c.in_ok-reach.ensures,
      told
          ∙ ap (λ old. old ++ (level_lines root c.budget.result ++ (rest_lines c.nodes.result reach ++ idle_line c.idle_keeps.result)))
          c.new-text.ensures.bytes
          ∙ ap (λ last. level_lines root last ++ (rest_lines c.nodes.result reach ++ idle_line c.idle_keeps.result)) c.budget.ensures.value
          ∙ ap (λ nodes. level_lines root c.args.setting.now.spec.budget ++ (rest_lines nodes reach ++ idle_line c.idle_keeps.result)) c.nodes.ensures.value
          ∙ ap (λ kept. level_lines root c.args.setting.now.spec.budget ++ (rest_lines c.args.setting.now.spec.nodes reach ++ idle_line kept))
          c.idle_keeps.ensures,
    )
