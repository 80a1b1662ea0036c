use Rattle.std.proofs.Common.{◌≤◌, ◌+◌, ◌-◌, length}
use Rattle.lf_delays.specs.Trials.{AreLeft, IsLike, NoneSpared}
use Rattle.lf_delays.proofs.passes.pass.Given as goal

-- what is left misses, and where nothing was left out none of those that were tried can be spared
abbrev pub invariant-places : goal.invariant-places
invariant-places l = record {
  like : IsLike l.fn.scenario l.now;
  left : AreLeft l.fn.scenario l.set l.left.items;
  most : length l.left.items ≤ l.count;
  least : l.count ≤ length l.left.items + l.past;
  needed : l.count ≤ length l.left.items → NoneSpared l.fn.scenario l.set l.left.items (l.count - l.past);
}
