-- The form of a reach.
use Rattle.std.proofs.Common.{◌≡◌, ℕ, ◌≤◌, List, length, get_or, inl, inr, arith}
use Rattle.std.specs.Prelude.{◌↔◌}
use Rattle.std.specs.List.{All}
use Rattle.std.proofs.lemmas.Bool.{cases_lt}
use Rattle.std.proofs.lemmas.List.{get_or_default}
use Rattle.std.proofs.Math.ListN.{get_or-eq_default}
use Rattle.lf_outcome.specs.Reaches.{IsReachOf}

-- no step is past the last
pub ends-by : (nodes last : ℕ) (r : List ℕ) → length r ≡ nodes → All (λ t. t ≤ last) r ↔ IsReachOf nodes last r
ends-by nodes last r e = (
  λ h. record {
    count = e;
    within = λ n. elim (cases_lt n (length r)) [
      | inl there ↦ h n 0 there
      | inr past ↦ let none : get_or r n 0 ≡ 0 = get_or-eq_default r 0 {n = n} past in omega (arith, none)
    ];
  },
  λ h k d l. let at : get_or r k d ≡ get_or r k 0 = get_or_default r k d 0 l in omega (arith, at, h.within k),
)
