use Rattle.std.proofs.Common.{◌≡◌, ℕ, ◌+◌, ◌<◌, ap, sym, subst, arith, length, drop, List}
use Rattle.std.proofs.lemmas.Bool.{eqb-true, eqb-false}
use Rattle.std.specs.List.{All}
use Rattle.lf_marks.specs.Arena.{marks_of}
use Rattle.lf_marks.specs.Building.{AreBare}
use Rattle.std.proofs.lemmas.Option.{slice_get_within}
use Rattle.lf_marks.specs.Marks.{IsNextKid, LeadsToLast, mark_at}
use Rattle.lf_marks.specs.Room.{FitsNext}
use Rattle.lf_marks.specs.Steps.{Took}
use Rattle.lf_marks.specs.declared.claim.Claim.{Claim}
use Rattle.lf_marks.specs.declared.set.Set.{Set}
use Rattle.lf_marks.specs.Claims.{standing}
use Rattle.lf_marks.proofs.RoomLemmas.{fits-none}
use Rattle.lf_marks.proofs.StateLemmas.{claims-below}
use Rattle.lf_marks.proofs.marks.Marks.claim.Goals as goal

pub enlarge-requires : goal.enlarge-requires
enlarge-requires g c = fits-none c.args.self.now.sets 1 c.args.room.sets c.requires.room.sets

pub enlarge-requires-3 : goal.enlarge-requires-3
enlarge-requires-3 g c =
    let m = c.args.self.now in
    fits-none m.coming (length (standing m.claims) + 1) c.args.room.coming c.requires.room.coming

pub enlarge-requires-4 : goal.enlarge-requires-4
enlarge-requires-4 g c =
    let m = c.args.self.now in
    fits-none m.opened (length (standing m.claims) + 1) c.args.room.opened c.requires.room.opened

pub invariant_of-self : goal.invariant_of-self
invariant_of-self g c =
    let m = c.args.self.now in
    let claims : length (standing c.enlarge-2.new.self) ≡ length (standing m.claims) = ap (λ (xs : List Claim). length xs) c.enlarge-2.ensures.same in
    let coming = c.enlarge-3.ensures.places (length (standing m.claims) + 1) c.requires.room.coming in
    let opened = c.enlarge-4.ensures.places (length (standing m.claims) + 1) c.requires.room.opened in record {
      state = rw (c.enlarge.ensures.items, c.enlarge-2.ensures.same, c.enlarge-3.ensures.items, c.enlarge-4.ensures.items) m.state;
      bare = subst AreBare (sym c.enlarge.ensures.items) m.bare;
      coming_room = omega (arith, coming, claims);
      opened_room = omega (arith, opened, claims);
    }

pub claim_next-requires-clause-some : goal.claim_next-requires-clause-some
claim_next-requires-clause-some g c =
    let m = c.args.self.now in
    let same : length c.enlarge-4.new.list.items ≡ length m.opened.items = ap (λ (xs : List ℕ). length xs) c.enlarge-4.ensures.items in
    let none : length m.opened.items ≡ 0 =
    omega (arith, eqb-true c.enlarge-4.new.list.len 0 (sym c.if-is_empty.ensures), c.enlarge-4.new.list.ok, same) in
    let it = c.requires.next.1.kid none in
    slice_get_within m.queue.items m.at it.parent it.first

pub claim_next-requires-clause-none : goal.claim_next-requires-clause-none
claim_next-requires-clause-none g c =
    omega (arith, eqb-true c.enlarge-4.new.list.len 0 (sym c.if-is_empty.ensures), c.enlarge-4.new.list.ok)

pub claim_next-requires-clause-room : goal.claim_next-requires-clause-room
claim_next-requires-clause-room g c =
    let m = c.args.self.now in
    let claims : length (standing c.enlarge-2.new.self) ≡ length (standing m.claims) = ap (λ (xs : List Claim). length xs) c.enlarge-2.ensures.same in
    let coming = c.enlarge-3.ensures.places (length (standing m.claims) + 1) c.requires.room.coming in
    let opened = c.enlarge-4.ensures.places (length (standing m.claims) + 1) c.requires.room.opened in record {
      sets = omega (arith, c.enlarge.ensures.places 1 c.requires.room.sets);
      claims = c.enlarge-2.ensures.places;
      coming = omega (arith, coming, claims);
      opened = omega (arith, opened, claims);
    }

pub claim_next-requires-clause-kids : goal.claim_next-requires-clause-kids
claim_next-requires-clause-kids g c =
    let m = c.args.self.now in
    let same : length c.enlarge-4.new.list.items ≡ length m.opened.items = ap (λ (xs : List ℕ). length xs) c.enlarge-4.ensures.items in
    let none : length m.opened.items ≡ 0 =
    omega (arith, eqb-true c.enlarge-4.new.list.len 0 (sym c.if-is_empty.ensures), c.enlarge-4.new.list.ok, same) in
    subst (λ (sets : List Set). FitsNext sets m.queue.items m.at c.args.room.kids) (sym {A = List Set} c.enlarge.ensures.items)
    (c.requires.room.kids none)

pub claim_again-requires-clause-some : goal.claim_again-requires-clause-some
claim_again-requires-clause-some g c =
    omega (arith, eqb-false c.enlarge-4.new.list.len 0 (sym c.if-is_empty.ensures), c.enlarge-4.new.list.ok)

pub claim_again-requires-clause-room : goal.claim_again-requires-clause-room
claim_again-requires-clause-room g c =
    let m = c.args.self.now in
    let claims : length (standing c.enlarge-2.new.self) ≡ length (standing m.claims) = ap (λ (xs : List Claim). length xs) c.enlarge-2.ensures.same in
    let coming = c.enlarge-3.ensures.places (length (standing m.claims) + 1) c.requires.room.coming in
    let opened = c.enlarge-4.ensures.places (length (standing m.claims) + 1) c.requires.room.opened in record {
      sets = omega (arith, c.enlarge.ensures.places 1 c.requires.room.sets);
      claims = c.enlarge-2.ensures.places;
      coming = omega (arith, coming, claims);
      opened = omega (arith, opened, claims);
    }

pub returns-then-is_empty-clause-level : goal.returns-then-is_empty-clause-level
returns-then-is_empty-clause-level g c = c.claim_next.ensures.level

pub returns-then-is_empty-clause-steps : goal.returns-then-is_empty-clause-steps
returns-then-is_empty-clause-steps g c = c.tick.ensures

pub claim_next-requires-clause-above : goal.claim_next-requires-clause-above
claim_next-requires-clause-above g c =
    let m = c.args.self.now in
    subst (λ (cs : List Claim). All (λ (d : Claim). d.ticket < c.args.ticket) cs) (sym {A = List Claim} c.enlarge-2.ensures.same)
    (claims-below m.level m.start m.sets.items (drop m.at m.queue.items) m.coming.items m.opened.items (standing m.claims) m.untaken m.waiting
    m.answered m.state c.args.ticket c.requires.above)

pub claim_again-requires-clause-above : goal.claim_again-requires-clause-above
claim_again-requires-clause-above g c =
    let m = c.args.self.now in
    subst (λ (cs : List Claim). All (λ (d : Claim). d.ticket < c.args.ticket) cs) (sym {A = List Claim} c.enlarge-2.ensures.same)
    (claims-below m.level m.start m.sets.items (drop m.at m.queue.items) m.coming.items m.opened.items (standing m.claims) m.untaken m.waiting
    m.answered m.state c.args.ticket c.requires.above)

pub returns-then-is_empty-clause-took : goal.returns-then-is_empty-clause-took
returns-then-is_empty-clause-took g c p next =
    let m = c.args.self.now in
    let same : length c.enlarge-4.new.list.items ≡ length m.opened.items = ap (λ (xs : List ℕ). length xs) c.enlarge-4.ensures.items in
    let none : length m.opened.items ≡ 0 =
    omega (arith, eqb-true c.enlarge-4.new.list.len 0 (sym c.if-is_empty.ensures), c.enlarge-4.new.list.ok, same) in
    let it = subst (λ (sets : List Set). IsNextKid sets m.queue.items m.at p) (sym {A = List Set} c.enlarge.ensures.items) (next.kid none) in
    subst (λ (sets : List Set). Took p c.args.ticket (marks_of sets m.start) (mark_at c.claim_next.new.self)) c.enlarge.ensures.items
    (c.claim_next.ensures.took p it)

pub returns-else-is_empty-clause-took : goal.returns-else-is_empty-clause-took
returns-else-is_empty-clause-took g c p next =
    let m = c.args.self.now in
    let same : length c.enlarge-4.new.list.items ≡ length m.opened.items = ap (λ (xs : List ℕ). length xs) c.enlarge-4.ensures.items in
    let some : 0 < length m.opened.items =
    omega (arith, eqb-false c.enlarge-4.new.list.len 0 (sym c.if-is_empty.ensures), c.enlarge-4.new.list.ok, same) in
    let at = subst (λ (sets : List Set). LeadsToLast sets m.opened.items p) (sym {A = List Set} c.enlarge.ensures.items) (next.back some) in
    let led = subst (λ (back : List ℕ). LeadsToLast c.enlarge.new.list.items back p) (sym {A = List ℕ} c.enlarge-4.ensures.items) at in
    subst (λ (sets : List Set). Took p c.args.ticket (marks_of sets m.start) (mark_at c.claim_again.new.self)) c.enlarge.ensures.items
    (c.claim_again.ensures.took p led)

pub returns-else-is_empty-clause-level : goal.returns-else-is_empty-clause-level
returns-else-is_empty-clause-level g c = c.claim_again.ensures.level

pub returns-else-is_empty-clause-steps : goal.returns-else-is_empty-clause-steps
returns-else-is_empty-clause-steps g c = c.tick.ensures
