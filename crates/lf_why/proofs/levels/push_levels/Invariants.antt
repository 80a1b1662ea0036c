use Rattle.std.proofs.Common.{◌≡◌, ◌++◌, string_bytes}
use Rattle.lf_sim.specs.Runs.{each_below}
use Rattle.lf_why.specs.Levels.{level_line}
use Rattle.lf_why.proofs.levels.push_levels.Given as goal

-- the levels so far
abbrev pub invariant-levels : goal.invariant-levels
invariant-levels l = string_bytes l.text ≡ string_bytes l.initial.text ++ each_below (level_line l.root) l.level
