use Rattle.std.proofs.Common.{rules}
use Rattle.std.proofs.lemmas.List.Sorted.{answers_always}
use Rattle.lf_marks.specs.declared.claim.Claim.{Claim}
use Rattle.lf_marks.proofs.ClaimLemmas.{claim-searched}
use Rattle.lf_marks.proofs.claims.claim_of.Goals as goal

-- the closure gives a claim's ticket
pub returns : goal.returns
returns c =
    let facts = c.binary_search_by_key.ensures in
    let is = facts.position (λ (d : Claim). d.ticket) (answers_always _ _ _ (λ f a r g called. search rules)) in
    rw c.ok.ensures.value (claim-searched c.args.claims.now c.requires c.args.ticket c.binary_search_by_key.result facts.bound is)
