use Rattle.std.proofs.Common.{◌≡◌, ◌++◌, string_bytes}
use Rattle.lf_outcome.specs.Reaches.{reach_at}
use Rattle.lf_sim.specs.Runs.{each_below}
use Rattle.lf_why.specs.Rests.{rest_line}
use Rattle.lf_why.proofs.nones.push_rests.Given as goal

-- the nodes so far
abbrev pub invariant-nodes : goal.invariant-nodes
invariant-nodes l = string_bytes l.text ≡ string_bytes l.initial.text ++ each_below (λ n. rest_line n (reach_at l.reach n)) l.node
