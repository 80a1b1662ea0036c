use Rattle.std.proofs.Common.{◌≡◌, ◌∙◌, ◌-◌, ◌<◌, arith, length, drop, get_or}
use Rattle.lf_marks.specs.Marks.{mark_at}
use Rattle.lf_marks.specs.Claims.{standing}
use Rattle.lf_marks.proofs.ClaimLemmas.{unclaimed, claim-here, free-stays, freed-same}
use Rattle.lf_marks.proofs.StateLemmas.{claim-some, claim-marked}
use Rattle.lf_marks.proofs.marks.Marks.reclaim.Goals as goal

pub claims-preserved : goal.claims-preserved
claims-preserved c =
    let m = c.claims.self in
    let few : c.count-last.result - 1 < length (standing m.claims) = omega (arith, c.claims-test.true, c.count.ensures, c.count-last.ensures) in
    let t = (get_or (standing m.claims) (c.count-last.result - 1) unclaimed).ticket in
    let here = claim-here (standing m.claims) (c.count-last.result - 1) few in
    let h = claim-marked m.level m.start m.sets.items (drop m.at m.queue.items) m.coming.items m.opened.items (standing m.claims) m.untaken m.waiting
    m.answered m.state t (c.count-last.result - 1) here in (
      λ q. freed-same h.0 t (mark_at m) (mark_at c.free.new.self) (c.free.ensures.gave_back h.0 t here h.1) q ∙ c.claims.invariant.0 q,
      c.free.ensures.level ∙ c.claims.invariant.1,
    )

pub returns-clause-reclaimed : goal.returns-clause-reclaimed
returns-clause-reclaimed c =
    let m = c.claims.self in
    let empty : length (standing m.claims) ≡ 0 = omega (arith, c.claims-test.false, c.count.ensures) in
    λ q. free-stays (mark_at m q) (λ t h.
    let found = claim-some m.level m.start m.sets.items (drop m.at m.queue.items) m.coming.items m.opened.items (standing m.claims) m.untaken
    m.waiting m.answered m.state t (q, h) in
    let never : ⊥ = omega (arith, empty, found.1.within) in never)
    ∙ c.claims.invariant.0 q
