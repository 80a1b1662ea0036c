use Rattle.std.proofs.Common.{◌≡◌, ℕ, ◌+◌, ap, subst, length, drop, arith, []}
use Rattle.lf_marks.specs.Arena.{marks_of}
use Rattle.lf_marks.specs.Steps.{WentDown}
use Rattle.lf_marks.specs.Claims.{standing}
use Rattle.lf_marks.proofs.StateLemmas.{state-down, went-down, none-claimed, state-moved}
use Rattle.lf_marks.proofs.marks.Marks.go_down.Goals as goal

pub invariant_of-self : goal.invariant_of-self
invariant_of-self c =
    let m = c.args.self.now in
    let s = state-down m.level m.start m.sets.items (drop m.at m.queue.items) m.coming.items m.opened.items (standing m.claims) m.untaken m.waiting
    m.answered m.state c.requires.done c.requires.free c.requires.few c.requires.high in
    let none = none-claimed m.level m.start m.sets.items (drop m.at m.queue.items) m.coming.items m.opened.items (standing m.claims) m.untaken m.waiting
    m.answered m.state c.requires.done c.requires.free in
    record {
      state = state-moved (m.level + 1) (length m.sets.items) c.len-self.result m.sets.items m.coming.items c.swap.new.x.items [] c.clear.new.self.items
          m.opened.items (standing m.claims) m.waiting 0 m.answered (omega (arith, c.len-self.ensures, m.sets.ok))
          (ap (λ v. v.items) c.swap.ensures.x_after) c.clear.ensures.items s;
      bare = m.bare;
      coming_room = omega (arith, none, c.clear.ensures.len, c.clear.new.self.ok);
      opened_room = m.opened_room;
    }

pub returns-clause-went_down : goal.returns-clause-went_down
returns-clause-went_down c =
    let m = c.args.self.now in
    let e : length m.sets.items ≡ c.len-self.result = omega (arith, c.len-self.ensures, m.sets.ok) in
    subst (λ (n : ℕ). WentDown (marks_of m.sets.items m.start) (marks_of m.sets.items n)) e
    (went-down m.level m.start m.sets.items (drop m.at m.queue.items) m.coming.items m.opened.items (standing m.claims) m.untaken m.waiting
    m.answered m.state c.requires.done c.requires.free)
