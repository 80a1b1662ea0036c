use Rattle.lf_sim.specs.Settings.{IsRun, world_of}
use Rattle.bench_searches.proofs.running.run_all.Given as goal

-- what was run is a run of the scenario
abbrev pub invariant-loop-set : goal.invariant-loop-set
invariant-loop-set l = IsRun (world_of l.setting) l.played
