use Rattle.lf_own_scenario.proofs.KeepingLemmas.{all-kept, any-kept, always-kept, ever-kept}
use Rattle.lf_own_scenario.proofs.keeping.parts_are_kept.Goals as goal

pub returns : goal.returns
returns g c = record { all = all-kept; any = any-kept; always = always-kept; ever = ever-kept }
