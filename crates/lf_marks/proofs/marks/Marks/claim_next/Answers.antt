use Rattle.std.proofs.Common.{◌≡◌, ◌∙◌, ℕ, ◌+◌, ◌-◌, refl, ap, sym, subst, arith, length, drop, nat_lt, List, ◌∷◌, ◌++◌, [], Some}
use Rattle.std.proofs.lemmas.Bool.{cond-true, cond-false}
use Rattle.std.proofs.lemmas.Option.{same_Some, slice_get_read}
use Rattle.lf_marks.specs.Arena.{look, marks_of, IsState}
use Rattle.lf_marks.specs.Building.{AreBare}
use Rattle.lf_marks.specs.Steps.{kid_of, Took}
use Rattle.lf_marks.specs.Walks.{IsWidened, IsGrownBy, led_from}
use Rattle.lf_marks.specs.declared.claim.Claim.{Claim}
use Rattle.lf_marks.specs.declared.set.Set.{Set}
use Rattle.lf_marks.specs.declared.set.State.TheVariants as state
use Rattle.lf_marks.specs.Claims.{standing}
use Rattle.lf_marks.proofs.BareLemmas.{bare-pushed}
use Rattle.lf_marks.proofs.WalkLemmas.{lt-is, lt-not}
use Rattle.lf_marks.proofs.SetLemmas.{grown-by}
use Rattle.lf_marks.proofs.StateLemmas.{next-within, next-level, next-some, next-last, next-took, queue-head, state-next}
use Rattle.lf_marks.proofs.marks.Marks.claim_next.Goals as goal

pub taken-kid-requires : goal.taken-kid-requires
taken-kid-requires c =
    let m = c.args.self.now in
    let head = queue-head m.queue.items m.at c.index-parent.result.now c.requires.some c.index-parent.ensures in
    next-within m.level m.start m.sets.items (drop m.at m.queue.items) m.coming.items m.opened.items (standing m.claims) m.untaken m.waiting
    m.answered m.state c.index-parent.result.now (drop (m.at + 1) m.queue.items) head

pub add_kid-requires-clause-room : goal.add_kid-requires-clause-room
add_kid-requires-clause-room c =
    let m = c.args.self.now in
    c.requires.kids c.index-parent.result.now
    (slice_get_read m.queue.items (length m.queue.items) m.at c.index-parent.result.now refl c.requires.some c.index-parent.ensures)

pub overflow_sub-self : goal.overflow_sub-self
overflow_sub-self c =
    let m = c.args.self.now in
    let head = queue-head m.queue.items m.at c.index-parent.result.now c.requires.some c.index-parent.ensures in
    omega (
      arith,
      next-some m.level m.start m.sets.items (drop m.at m.queue.items) m.coming.items m.opened.items (standing m.claims) m.untaken m.waiting
          m.answered m.state c.index-parent.result.now (drop (m.at + 1) m.queue.items) head,
      c.requires.none,
    )

pub invariant_of-self-2 : goal.invariant_of-self-2
invariant_of-self-2 c =
    let m = c.args.self.now in
    let head = queue-head m.queue.items m.at c.index-parent.result.now c.requires.some c.index-parent.ensures in
    let n : length m.sets.items ≡ c.len-place.result = omega (arith, c.len-place.ensures, m.sets.ok) in
    let widened = subst (λ (k : ℕ). IsWidened (look m.sets.items) (look c.add_kid.new.sets.items) c.index-parent.result.now k)
    (sym n) c.add_kid.ensures.widened in
    let level = next-level m.level m.start m.sets.items (drop m.at m.queue.items) m.coming.items m.opened.items (standing m.claims) m.untaken m.waiting
    m.answered m.state c.index-parent.result.now (drop (m.at + 1) m.queue.items) head in
    let by = grown-by m.sets.items c.add_kid.new.sets.items c.index-parent.result.now c.args.ticket c.taken-kid.result m.level widened c.add_kid.ensures.length
    (next-within m.level m.start m.sets.items (drop m.at m.queue.items) m.coming.items m.opened.items (standing m.claims) m.untaken m.waiting
    m.answered m.state c.index-parent.result.now (drop (m.at + 1) m.queue.items) head) c.taken-kid.ensures (sym level)
    (next-last m.level m.start m.sets.items (drop m.at m.queue.items) m.coming.items m.opened.items (standing m.claims) m.untaken m.waiting
    m.answered m.state c.index-parent.result.now (drop (m.at + 1) m.queue.items) head) in
    let gr = subst (λ (z : List Set). IsGrownBy (look m.sets.items) (look z) (length m.sets.items) c.index-parent.result.now c.args.ticket)
    (sym c.push_reserved.ensures.items) by in
    let long : length c.push_reserved.new.self.items ≡ length m.sets.items + 1 =
    omega (arith, c.push_reserved.ensures.len, c.push_reserved.new.self.ok, c.add_kid.new.sets.ok, c.add_kid.ensures.length) in
    let taken = c.taken-kid.ensures in
    let kids = c.kids-kids.ensures in
    let some = next-some m.level m.start m.sets.items (drop m.at m.queue.items) m.coming.items m.opened.items (standing m.claims) m.untaken m.waiting
    m.answered m.state c.index-parent.result.now (drop (m.at + 1) m.queue.items) head in
    let s = state-next m.level m.start m.sets.items (drop m.at m.queue.items) m.coming.items m.opened.items (standing m.claims) m.untaken m.waiting
    m.answered m.state c.push_reserved.new.self.items c.index-parent.result.now c.args.ticket (drop (m.at + 1) m.queue.items)
    (drop c.following-self.result m.queue.items) head long gr (m.untaken - 1) (omega (arith, some, c.requires.none)) c.requires.above
    (λ more. ap (λ k. drop k m.queue.items) (c.following-self.ensures ∙ cond-true (nat_lt (c.taken-kid.result + 1) c.kids-kids.result) m.at (m.at + 1)
    (lt-is _ _ (omega (arith, more, taken, kids)))) ∙ head)
    (λ last. ap (λ k. drop k m.queue.items) (c.following-self.ensures ∙ cond-false (nat_lt (c.taken-kid.result + 1) c.kids-kids.result) m.at (m.at + 1)
    (lt-not _ _ (omega (arith, last, taken, kids))))) in
    let claims : (standing m.claims) ++ (record { ticket = c.args.ticket; place = length m.sets.items }) ∷ [] ≡ standing c.add.new.self =
    ap (λ (k : ℕ). claims_with (standing m.claims) c.args.ticket k) n ∙ sym c.add.ensures.items in record {
      state = subst (λ (cs : List Claim). IsState m.level m.start c.push_reserved.new.self.items (drop c.following-self.result m.queue.items)
          m.coming.items m.opened.items cs (m.untaken - 1) m.waiting m.answered) claims s;
      bare = subst AreBare (sym c.push_reserved.ensures.items)
          (bare-pushed c.add_kid.new.sets.items (record {
            parent = c.index-parent.result.now;
            kid = c.taken-kid.result;
            depth = m.level;
            state = state.Claimed c.args.ticket;
          }) refl (c.add_kid.ensures.bare m.bare));
      coming_room = omega (arith, c.requires.room.coming, c.add.ensures.count);
      opened_room = omega (arith, c.requires.room.opened, c.add.ensures.count);
    }
  where
    claims_with : List Claim → ℕ → ℕ → List Claim
    claims_with cs t k = cs ++ (record { ticket = t; place = k }) ∷ []

pub returns-clause-took : goal.returns-clause-took
returns-clause-took c p it =
    let m = c.args.self.now in
    let head = queue-head m.queue.items m.at c.index-parent.result.now c.requires.some c.index-parent.ensures in
    let n : length m.sets.items ≡ c.len-place.result = omega (arith, c.len-place.ensures, m.sets.ok) in
    let widened = subst (λ (k : ℕ). IsWidened (look m.sets.items) (look c.add_kid.new.sets.items) c.index-parent.result.now k)
    (sym n) c.add_kid.ensures.widened in
    let level = next-level m.level m.start m.sets.items (drop m.at m.queue.items) m.coming.items m.opened.items (standing m.claims) m.untaken m.waiting
    m.answered m.state c.index-parent.result.now (drop (m.at + 1) m.queue.items) head in
    let by = grown-by m.sets.items c.add_kid.new.sets.items c.index-parent.result.now c.args.ticket c.taken-kid.result m.level widened c.add_kid.ensures.length
    (next-within m.level m.start m.sets.items (drop m.at m.queue.items) m.coming.items m.opened.items (standing m.claims) m.untaken m.waiting
    m.answered m.state c.index-parent.result.now (drop (m.at + 1) m.queue.items) head) c.taken-kid.ensures (sym level)
    (next-last m.level m.start m.sets.items (drop m.at m.queue.items) m.coming.items m.opened.items (standing m.claims) m.untaken m.waiting
    m.answered m.state c.index-parent.result.now (drop (m.at + 1) m.queue.items) head) in
    let gr = subst (λ (z : List Set). IsGrownBy (look m.sets.items) (look z) (length m.sets.items) c.index-parent.result.now c.args.ticket)
    (sym c.push_reserved.ensures.items) by in
    let long : length c.push_reserved.new.self.items ≡ length m.sets.items + 1 =
    omega (arith, c.push_reserved.ensures.len, c.push_reserved.new.self.ok, c.add_kid.new.sets.ok, c.add_kid.ensures.length) in
    let same : it.parent ≡ c.index-parent.result.now =
    same_Some it.parent c.index-parent.result.now (sym it.first ∙ slice_get_read m.queue.items
    (length m.queue.items) m.at c.index-parent.result.now refl c.requires.some c.index-parent.ensures) in
    let led : led_from (look m.sets.items) 0 it.front ≡ Some c.index-parent.result.now = it.led ∙ ap (λ (x : ℕ). Some x) same in
    let path : p ≡ kid_of it.front (look m.sets.items c.index-parent.result.now).taken =
    it.whole ∙ ap (λ (x : ℕ). kid_of it.front (look m.sets.items x).taken) same in
    subst (λ (q : List ℕ). Took q c.args.ticket (marks_of m.sets.items m.start) (marks_of c.push_reserved.new.self.items m.start)) (sym path)
    (next-took m.level m.start m.sets.items (drop m.at m.queue.items) m.coming.items m.opened.items (standing m.claims) m.untaken m.waiting
    m.answered m.state c.push_reserved.new.self.items c.index-parent.result.now c.args.ticket (drop (m.at + 1) m.queue.items)
    (drop c.following-self.result m.queue.items) head long gr it.front led)
