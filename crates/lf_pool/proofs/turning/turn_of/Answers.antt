use Rattle.std.proofs.Common.{subst}
use Rattle.lf_pool.specs.Holds.{WasBegun}
use Rattle.lf_pool.specs.declared.locked.Begun.TheVariants as begun
use Rattle.lf_pool.proofs.turning.turn_of.Goals as goal

pub returns-in-Full-clause-turn : goal.returns-in-Full-clause-turn
returns-in-Full-clause-turn c = λ s was. subst (λ d. WasBegun s (begun.Deepened d)) c.in-Full.is was
