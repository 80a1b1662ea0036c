use Rattle.std.proofs.Common.{refl}
use Rattle.lf_own_scenario.specs.Members.{is_in_set}
use Rattle.lf_own_scenario.proofs.members.is_in_set.Goals as goal

pub returns : goal.returns
unfolding is_in_set
returns c = rw (c.has.ensures, c.fixed_value-found.ensures, c.constants_at-given.ensures, c.from.ensures) refl
