use Rattle.std.proofs.Common.{string_bytes}
use Rattle.lf_why.specs.Levels.{level_line}
use Rattle.lf_why.proofs.Told.{more_behind}
use Rattle.lf_why.proofs.levels.push_levels.Goals as goal

pub levels-preserved : goal.levels-preserved
levels-preserved c =
    more_behind (string_bytes c.args.text.now) (string_bytes c.levels.text) (string_bytes c.push_level.new.text) (level_line c.args.root.now)
    c.levels.level c.levels.invariant c.in_ok-push_level.ensures
