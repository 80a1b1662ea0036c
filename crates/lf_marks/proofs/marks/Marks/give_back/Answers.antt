use Rattle.std.proofs.Common.{drop, subst, sym}
use Rattle.lf_marks.specs.Claims.{standing, AreAscending}
use Rattle.lf_marks.proofs.ClaimLemmas.{unclaimed}
use Rattle.lf_marks.proofs.StateLemmas.{claim-some}
use Rattle.lf_marks.proofs.marks.Marks.give_back.Goals as goal

pub claim_of-requires : goal.claim_of-requires
claim_of-requires c = subst AreAscending (sym c.standing.ensures) c.args.self.now.state.listed.ascending

pub unreachable-requires : goal.unreachable-requires
unreachable-requires c =
    let m = c.args.self.now in
    let found = claim-some m.level m.start m.sets.items (drop m.at m.queue.items) m.coming.items m.opened.items (standing m.claims) m.untaken m.waiting
    m.answered m.state c.args.ticket c.requires in
    let none = rw c.standing.ensures at c.in_default.ensures in
    none found.0 unclaimed found.1.within (found.1.ticket unclaimed)

pub free-requires : goal.free-requires
free-requires c = let found = rw c.standing.ensures at c.in-Some.ensures in found.within

pub returns-clause-gave_back : goal.returns-clause-gave_back
returns-clause-gave_back c p h = let found = rw c.standing.ensures at c.in-Some.ensures in c.free.ensures.gave_back p c.args.ticket found h
