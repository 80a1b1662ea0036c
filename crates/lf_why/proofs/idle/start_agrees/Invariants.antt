use Rattle.std.proofs.Common.{◌≡◌, ℕ, ◌<◌, true}
use Rattle.lf_sim.specs.Settings.{world_of}
use Rattle.lf_why.specs.Idle.{begun_agree}
use Rattle.lf_why.proofs.idle.start_agrees.Given as goal

-- it agrees with those so far
abbrev pub invariant-others : goal.invariant-others
invariant-others g l = (k : ℕ) → k < l.other → begun_agree (world_of l.setting) l.topic l.node k ≡ true
