-- How a set of faults is kept: in six places, of which those past the last fault hold a filler.
use Rattle.std.specs.Prelude.{◌≡◌, ℕ, ◌≤◌, ◌-◌, ◌++◌, List, length, take, drop, replicate}
use Rattle.std.proofs.Common.{sym, ap, ◌∙◌, arith}
use Rattle.std.proofs.lemmas.List.{length-take-le, take-append-drop}
use Rattle.lf_faults.specs.declared.fault.Parts.{Parts}
use Rattle.lf_faults.specs.Kinds.{filler}
use Rattle.lf_faults.specs.declared.set.FaultSet.TheInside.{Inside}

-- the first `count` places are the set's, and the others hold the filler
pub record FillsSix (count : ℕ) (faults : List Parts) : Type 0 where
  pub few : count ≤ 6
  pub six : length faults ≡ 6
  pub rest : drop count faults ≡ replicate (6 - count) filler

-- the set's faults give its places back
pub six_again : (s : Inside) → FillsSix s.count s.faults
    → record { count = length (take s.count s.faults); faults = take s.count s.faults ++ replicate (6 - length (take s.count s.faults)) filler } ≡ s
six_again s h =
    let few : s.count ≤ length s.faults = omega (arith, h.few, h.six) in
    let counted : ℕ → Inside = λ n. record { count = n; faults = take s.count s.faults ++ replicate (6 - n) filler } in
    let filled : List Parts → Inside = λ fs. record { count = s.count; faults = fs } in
    ap counted (length-take-le s.count s.faults few)
    ∙ ap filled (ap (λ rest. take s.count s.faults ++ rest) (sym h.rest) ∙ take-append-drop s.count s.faults)
