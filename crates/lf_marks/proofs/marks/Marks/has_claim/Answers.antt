use Rattle.std.proofs.Common.{◌∙◌, sym, subst, drop}
use Rattle.lf_marks.specs.Claims.{standing, AreAscending}
use Rattle.lf_marks.proofs.ClaimLemmas.{claim-told}
use Rattle.lf_marks.proofs.StateLemmas.{claim-some, claim-marked}
use Rattle.lf_marks.proofs.marks.Marks.has_claim.Goals as goal

pub claim_of-requires : goal.claim_of-requires
claim_of-requires c = subst AreAscending (sym c.standing.ensures) c.args.self.now.state.listed.ascending

pub returns : goal.returns
returns c =
    let m = c.args.self.now in
    let told = claim-told (standing m.claims) c.args.ticket c.claim_of.result (rw c.standing.ensures at c.claim_of.ensures) in (
      λ h.
          let found = told.0 (sym c.is_some.ensures ∙ h) in
          claim-marked m.level m.start m.sets.items (drop m.at m.queue.items) m.coming.items m.opened.items (standing m.claims) m.untaken m.waiting
          m.answered m.state c.args.ticket found.0 found.1,
      λ h.
          let found = claim-some m.level m.start m.sets.items (drop m.at m.queue.items) m.coming.items m.opened.items (standing m.claims) m.untaken
          m.waiting m.answered m.state c.args.ticket h in
          c.is_some.ensures ∙ told.1 found.0 found.1,
    )
