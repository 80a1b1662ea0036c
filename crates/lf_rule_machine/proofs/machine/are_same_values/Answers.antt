use Rattle.std.proofs.Common.{refl}
use Rattle.std.specs.Cmp.{unsigned_Decides}
use Rattle.std.proofs.lemmas.Slice.Eq.{slice_eq-Decides}
use Rattle.lf_rule_machine.proofs.machine.are_same_values.Goals as goal

pub returns : goal.returns
returns c = slice_eq-Decides (λ a b. slice_eq-Decides unsigned_Decides a b _ refl) _ _ _ c.eq.ensures
