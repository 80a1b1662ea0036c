-- Up to which step each node counts.
use Rattle.std.specs.Prelude.{◌≡◌, ℕ, ◌≤◌, ◌-◌, ◌++◌, List, All, length, take, drop, replicate, slice_index}
use Rattle.std.proofs.Common.{sym, ap, ◌∙◌, arith}
use Rattle.std.proofs.lemmas.List.{length-take-le, take-append-drop}
use Rattle.lf_outcome.specs.declared.reach.Reach.TheInside.{Inside}

-- 2 to 8 numbers of 0 to 48
pub record IsReach (reach : List ℕ) : Type 0 where
  pub two : 2 ≤ length reach
  pub few : length reach ≤ 8
  pub short : All (λ t. t ≤ 48) reach

-- a last step for each of so many nodes, 0 where none counts, and none past the horizon
pub record IsReachOf (nodes horizon : ℕ) (reach : List ℕ) : Type 0 where
  pub count : length reach ≡ nodes
  pub within : (n : ℕ) → slice_index reach n ≤ horizon

-- the last step of n that counts: 0 where none does, or there is no n
abbrev pub reach_at : List ℕ → ℕ → ℕ
reach_at reach n = slice_index reach n

-- the first `count` of eight places are a reach, and the others hold 0
pub record FillsEight (count : ℕ) (steps : List ℕ) : Type 0 where
  pub within : IsReach (take count steps)
  pub few : count ≤ 8
  pub eight : length steps ≡ 8
  pub rest : drop count steps ≡ replicate (8 - count) 0

-- the reach gives its places back
pub eight_again : (r : Inside) → FillsEight r.count r.steps
    → record { count = length (take r.count r.steps); steps = take r.count r.steps ++ replicate (8 - length (take r.count r.steps)) 0 } ≡ r
eight_again r h =
    let few : r.count ≤ length r.steps = omega (arith, h.few, h.eight) in
    let counted : ℕ → Inside = λ n. record { count = n; steps = take r.count r.steps ++ replicate (8 - n) 0 } in
    let filled : List ℕ → Inside = λ ts. record { count = r.count; steps = ts } in
    ap counted (length-take-le r.count r.steps few)
    ∙ ap filled (ap (λ rest. take r.count r.steps ++ rest) (sym h.rest) ∙ take-append-drop r.count r.steps)
