use Rattle.std.proofs.Common.{◌≡◌, ◌++◌, subst, string_bytes}
use Rattle.std.specs.Prelude.{IfOk}
use Rattle.lf_why.specs.Levels.{count_line}
use Rattle.lf_why.proofs.levels.push_level.Goals as goal

pub returns : goal.returns
returns c =
    subst (λ n. IfOk c.push_count.result (λ _. string_bytes c.push_count.new.text ≡ string_bytes c.args.text.now ++ count_line c.args.level n))
    c.sets_at.ensures c.push_count.ensures
