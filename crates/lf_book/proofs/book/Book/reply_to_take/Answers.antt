use Rattle.std.proofs.Common.{refl, sym, ap, ◌∙◌, subst, List, [], ◌∷◌, ◌++◌, map, inl, inr}
use Rattle.std.specs.List.{All}
use Rattle.std.proofs.lemmas.List.{map-append}
use Rattle.lf_book.specs.Books.{scenario_of, state_of, IsTaken}
use Rattle.lf_book.specs.Holding.{IsHeldOf, held_of}
use Rattle.lf_book.specs.declared.driving.Reply.TheVariants as reply
use Rattle.lf_work.specs.declared.job.Job.{Job}
use Rattle.lf_book.proofs.HeldLemmas.{held-same, held-taken}
use Rattle.lf_book.proofs.book.Book.reply_to_take.Goals as goal

pub returns-in-Job-clause-held : goal.returns-in-Job-clause-held
returns-in-Job-clause-held c =
    let old = c.args.self.now in
    let new = c.take.new.self in
    let e = subst (IsTaken old new) c.in-Job.is c.in_ok-job.ensures.taken in
    held-taken (scenario_of old) (scenario_of new) c.take.ensures.scenario (state_of old) (state_of new) old.closed c.reserve.new.self.items
    c.push_reserved.new.self.items c.in-Job.job e.0 e.1 c.push_reserved.ensures.items
    (subst (All (IsHeldOf (scenario_of old) (state_of old))) (sym c.reserve.ensures.items) c.requires)

pub returns-in-Busy-clause-held : goal.returns-in-Busy-clause-held
returns-in-Busy-clause-held c =
    let old = c.args.self.now in
    let new = c.take.new.self in
    let e = subst (IsTaken old new) c.in-Busy.is c.in_ok-job.ensures.taken in
    held-same (scenario_of old) (scenario_of new) c.take.ensures.scenario (state_of old) (state_of new) old.closed e.same.next e.same.marks
    c.reserve.new.self.items (subst (All (IsHeldOf (scenario_of old) (state_of old))) (sym c.reserve.ensures.items) c.requires)

pub returns-in-Finished-clause-held : goal.returns-in-Finished-clause-held
returns-in-Finished-clause-held c =
    let old = c.args.self.now in
    let new = c.take.new.self in
    let e = subst (IsTaken old new) c.in-Finished.is c.in_ok-job.ensures.taken in
    held-same (scenario_of old) (scenario_of new) c.take.ensures.scenario (state_of old) (state_of new) old.closed e.same.next e.same.marks
    c.reserve.new.self.items (subst (All (IsHeldOf (scenario_of old) (state_of old))) (sym c.reserve.ensures.items) c.requires)

pub returns-in-Spent-clause-held : goal.returns-in-Spent-clause-held
returns-in-Spent-clause-held c =
    let old = c.args.self.now in
    let new = c.take.new.self in
    let e = subst (IsTaken old new) c.in-Spent.is c.in_ok-job.ensures.taken in
    held-same (scenario_of old) (scenario_of new) c.take.ensures.scenario (state_of old) (state_of new) old.closed e.same.next e.same.marks
    c.reserve.new.self.items (subst (All (IsHeldOf (scenario_of old) (state_of old))) (sym c.reserve.ensures.items) c.requires)

pub returns-in-LevelDone-clause-held : goal.returns-in-LevelDone-clause-held
returns-in-LevelDone-clause-held c =
    let old = c.args.self.now in
    let new = c.take.new.self in
    let e = subst (IsTaken old new) c.in-LevelDone.is c.in_ok-job.ensures.taken in
    held-same (scenario_of old) (scenario_of new) c.take.ensures.scenario (state_of old) (state_of new) old.closed e.same.next e.same.marks
    c.reserve.new.self.items (subst (All (IsHeldOf (scenario_of old) (state_of old))) (sym c.reserve.ensures.items) c.requires)

pub returns-in-Job-clause-takes : goal.returns-in-Job-clause-takes
returns-in-Job-clause-takes c =
    let job = c.in-Job.job in
    let e = subst (IsTaken c.args.self.now c.take.new.self) c.in-Job.is c.in_ok-job.ensures.taken in
    inl (
      held_of job,
      ap reply.Took c.ticket-ticket.ensures,
      e.1,
      ap (map held_of) (c.push_reserved.ensures.items ∙ ap (λ (l : List Job). l ++ job ∷ []) c.reserve.ensures.items)
          ∙ map-append held_of c.args.jobs.now.items (job ∷ []),
    )

pub returns-in-Busy-clause-takes : goal.returns-in-Busy-clause-takes
returns-in-Busy-clause-takes c =
    let e = subst (IsTaken c.args.self.now c.take.new.self) c.in-Busy.is c.in_ok-job.ensures.taken in
    inr (ap (map held_of) c.reserve.ensures.items, inl (refl, e))

pub returns-in-LevelDone-clause-takes : goal.returns-in-LevelDone-clause-takes
returns-in-LevelDone-clause-takes c =
    let e = subst (IsTaken c.args.self.now c.take.new.self) c.in-LevelDone.is c.in_ok-job.ensures.taken in
    inr (ap (map held_of) c.reserve.ensures.items, inr (inl (refl, e)))

pub returns-in-Finished-clause-takes : goal.returns-in-Finished-clause-takes
returns-in-Finished-clause-takes c =
    let e = subst (IsTaken c.args.self.now c.take.new.self) c.in-Finished.is c.in_ok-job.ensures.taken in
    inr (ap (map held_of) c.reserve.ensures.items, inr (inr (inl (refl, e))))

pub returns-in-Spent-clause-takes : goal.returns-in-Spent-clause-takes
returns-in-Spent-clause-takes c =
    let e = subst (IsTaken c.args.self.now c.take.new.self) c.in-Spent.is c.in_ok-job.ensures.taken in
    inr (ap (map held_of) c.reserve.ensures.items, inr (inr (inr (refl, e))))
