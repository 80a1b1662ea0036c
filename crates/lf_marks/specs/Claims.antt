-- Lists of claims.
use Rattle.std.specs.Prelude.{◌≡◌, ℕ, ◌<◌, List, length, drop, slice_index_or}
use Rattle.std.specs.List.{AllPairs}
use Rattle.lf_marks.specs.declared.claim.Claim.{Claim}
use Rattle.lf_marks.specs.declared.claim.Claims.{Claims}

-- the claims that stand
abbrev pub standing : Claims → List Claim
standing claims = drop claims.gone claims.list.items

-- the tickets rise, so that no ticket claims two sets
abbrev pub AreAscending : List Claim → Type 0
AreAscending = AllPairs (λ (c d : Claim). c.ticket < d.ticket)

-- the claim at a place of the list is of the ticket
pub record IsOfTicket (claims : List Claim) (t i : ℕ) : Type 0 where
  pub within : i < length claims
  pub ticket : (d : Claim) → (slice_index_or claims i d).ticket ≡ t
