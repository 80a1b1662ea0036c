use Rattle.std.proofs.Common.{◌≡◌, Ok}
use Rattle.lf_sim.specs.Settings.{world_of}
use Rattle.lf_own_scenario.specs.Outcomes.{named, said}
use Rattle.lf_staked.proofs.StakesLemmas.{first_stakes}
use Rattle.lf_staked.proofs.reading.said_stakes.Given as goal

-- those of the parts so far are there
abbrev pub invariant-places : goal.invariant-places
invariant-places l =
    first_stakes (world_of l.runs.setting.now) l.runs.scene l.runs.sets.now
    (said l.told.file.now l.told.given.now l.words (named l.words l.told.file.now.outcomes)) l.place
    ≡ Ok l.stakes.items
