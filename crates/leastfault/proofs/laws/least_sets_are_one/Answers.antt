use Rattle.lf_sim.specs.Settings.{world_of}
use Rattle.leastfault.proofs.LeastSets.{first_of_least, least_one, least_size}
use Rattle.leastfault.proofs.laws.least_sets_are_one.Goals as goal

pub returns-clause-one : goal.returns-clause-one
returns-clause-one c s xs ys a b = least_one (world_of s.setting) s.setting.spec s.formula c.orders_are_total.ensures.sets xs ys a b

pub returns-clause-first : goal.returns-clause-first
returns-clause-first c s answer sets is all = first_of_least (world_of s.setting) s.setting.spec s.formula answer sets is all

pub returns-clause-size : goal.returns-clause-size
returns-clause-size c s sets one other all has has_too = least_size (world_of s.setting) s.setting.spec s.formula sets one other all has has_too
