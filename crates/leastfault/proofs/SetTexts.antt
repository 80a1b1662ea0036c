-- The text of a set, from its first fault on.
use Rattle.std.proofs.Common.{◌≡◌, List, [], ◌∷◌, ◌++◌, append-nil, ap}
use Rattle.lf_faults.specs.declared.fault.Parts.{Parts}
use Rattle.lf_faults.specs.Texts.{spelling}
use Rattle.leastfault.specs.Reports.{more_text, set_text}

pub set_text_more : (f : Parts) (fs : List Parts) → spelling f ++ more_text fs ≡ set_text (f ∷ fs)
set_text_more f [] = append-nil (spelling f)
set_text_more f (g ∷ gs) = ap (λ rest. spelling f ++ 44 ∷ rest) (set_text_more g gs)
