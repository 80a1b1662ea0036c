-- What crates above may cite of this one beside its contracts.
use Rattle.std.proofs.Common.{◌≡◌, ℕ, refl}
use Rattle.lf_outcome.specs.declared.scenario.Scenario.{Scenario}
use Rattle.lf_pool.specs.Solved.{AreWorkers, IsRefused, number_of}
use Rattle.lf_pool.specs.declared.error.PoolError.{PoolError}
use Rattle.lf_pool.specs.declared.error.PoolError.TheVariants as error
use Rattle.lf_pool.proofs.Sent as sent

-- An error of number 1 tells that the number of workers is out of range,
pub refused_by_one : (s : Scenario) (workers : ℕ) (e : PoolError) → IsRefused s workers e → number_of e ≡ 1 → AreWorkers workers → ⊥
refused_by_one s workers error.Workers refused one = refused
refused_by_one s workers error.Memory refused one = let never : 2 ≡ 1 = one in absurd cc
refused_by_one s workers (error.OtherScenario book) refused one = absurd refused
refused_by_one s workers (error.Spent book) refused one = let never : 4 ≡ 1 = one in absurd cc

-- and one of another number that it is in range
pub refused_by_other : (s : Scenario) (workers : ℕ) (e : PoolError) → IsRefused s workers e → (number_of e ≡ 1 → ⊥) → AreWorkers workers
refused_by_other s workers error.Workers refused other = absurd (other refl)
refused_by_other s workers error.Memory refused other = refused
refused_by_other s workers (error.OtherScenario book) refused other = absurd refused
refused_by_other s workers (error.Spent book) refused other = refused.0

-- a book that workers share may be lent to other threads, and a share may go to one: a set for `search`
pub ruleset workers_cross = (sent.shared_sync, sent.share_send)
