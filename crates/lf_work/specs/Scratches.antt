-- What a scratch holds.
use Rattle.std.specs.Prelude.{◌≡◌, IfSome}
use Rattle.std.specs.Arc.{arc_value}
use Rattle.lf_outcome.specs.declared.scenario.Scenario.{Scenario}
use Rattle.lf_sim.specs.Settings.{world_of}
use Rattle.lf_work.specs.Jobs.{IsSpentOf}
use Rattle.lf_work.specs.declared.scratch.Played.{Played}
use Rattle.lf_work.specs.declared.scratch.Scratch.{Scratch}

-- a run of the scenario's world, its protocol on its network within its bounds, in which its formula is judged
pub record IsPlayedFor (s : Scenario) (played : Played) : Type 0 where
  pub world : world_of (arc_value played.scenario).setting ≡ world_of s.setting
  pub formula : (arc_value played.scenario).formula ≡ s.formula

-- no run, or such a one; and nothing that a job left, or what one of the scenario did
pub record IsScratchFor (s : Scenario) (scratch : Scratch) : Type 0 where
  pub played : IfSome scratch.played (IsPlayedFor s)
  pub spent : IfSome scratch.spent (IsSpentOf s)
