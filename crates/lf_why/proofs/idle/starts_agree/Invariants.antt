use Rattle.std.proofs.Common.{◌≡◌, ℕ, ◌<◌, true}
use Rattle.std.specs.List.{list_all, range_with_len}
use Rattle.lf_sim.specs.Settings.{world_of}
use Rattle.lf_why.specs.Idle.{begun_agree}
use Rattle.lf_why.proofs.idle.starts_agree.Given as goal

-- what the nodes so far enter agrees with all
abbrev pub invariant-nodes : goal.invariant-nodes
invariant-nodes g l =
    (k : ℕ) → k < l.node → list_all (begun_agree (world_of l.setting) l.topic k) (range_with_len 0 l.nodes) ≡ true
