use Rattle.std.proofs.Common.{◌≡◌, ℕ, List, suc, string_bytes}
use Rattle.lf_sim.specs.Settings.{set_of, world_of}
use Rattle.lf_trace.specs.Elsewhere.{behind_first, last_told, nodes_elsewhere, step_elsewhere}
use Rattle.lf_trace.specs.First.{first_told}
use Rattle.lf_trace.proofs.beyond.elsewhere.Given as goal

-- what is told of the steps so far
abbrev pub invariant-steps : goal.invariant-steps
invariant-steps g l =
    let words = g.M.Worded.words l.setting.machine in
    let w = world_of l.setting in
    let other = set_of l.other in
    let faults = set_of l.run in
    let steps : ℕ → List ℕ = λ past. step_elsewhere words w other faults (suc past) in
    let nodes : ℕ → List ℕ = λ past. nodes_elsewhere words w other faults (suc past) in
    (string_bytes l.first ≡ first_told steps l.past) × (string_bytes l.last ≡ last_told (behind_first steps nodes) l.past)
