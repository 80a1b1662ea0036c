use Rattle.std.proofs.Common.{◌≤◌, ◌+◌, length}
use Rattle.lf_delays.specs.Trials.{AreLeft, IsLike}
use Rattle.lf_delays.proofs.passes.needed_delays.Given as goal

-- what is left misses, and each pass left one out at least
abbrev pub invariant-passes : goal.invariant-passes
invariant-passes l = record {
  like : IsLike l.fn.scenario l.now;
  left : AreLeft l.fn.scenario l.set l.left.items;
  fewer : length l.left.items + l._pass ≤ length l.fn.delays.items;
}
