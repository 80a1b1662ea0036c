use Rattle.std.proofs.Common.{rules, Some, sym, ap, ◌∙◌}
use Rattle.lf_book.specs.Books.{state_of}
use Rattle.lf_certificate.specs.Events.{FindsLevelDone}
use Rattle.lf_pool.proofs.HoldLemmas.{take-counted, deepened-counted, still-busy}
use Rattle.lf_pool.proofs.locked.Locked.take_or_deepen.Goals as goal

pub invariant_of-self : goal.invariant_of-self
invariant_of-self g c =
    let m = c.args.self.now in
    record {
      counted = take-counted m.book c.take.new.self c.take.result m.total.total c.take.ensures.taken c.take.ensures.err m.counted;
      searches = m.searches ∙ ap Some (sym c.take.ensures.scenario);
    }

pub invariant_of-self-in-Job-1 : goal.invariant_of-self-in-Job-1
invariant_of-self-in-Job-1 g c =
    let m = c.args.self.now in
    record {
      counted = take-counted m.book c.take.new.self c.take.result m.total.total c.take.ensures.taken c.take.ensures.err m.counted;
      searches = m.searches ∙ ap Some (sym c.take.ensures.scenario);
    }

pub invariant_of-self-in-Busy : goal.invariant_of-self-in-Busy
invariant_of-self-in-Busy g c =
    let m = c.args.self.now in
    record {
      counted = take-counted m.book c.take.new.self c.take.result m.total.total c.take.ensures.taken c.take.ensures.err m.counted;
      searches = m.searches ∙ ap Some (sym c.take.ensures.scenario);
    }

pub invariant_of-self-in-Finished : goal.invariant_of-self-in-Finished
invariant_of-self-in-Finished g c =
    let m = c.args.self.now in
    record {
      counted = take-counted m.book c.take.new.self c.take.result m.total.total c.take.ensures.taken c.take.ensures.err m.counted;
      searches = m.searches ∙ ap Some (sym c.take.ensures.scenario);
    }

pub invariant_of-self-in-Spent : goal.invariant_of-self-in-Spent
invariant_of-self-in-Spent g c =
    let m = c.args.self.now in
    record {
      counted = take-counted m.book c.take.new.self c.take.result m.total.total c.take.ensures.taken c.take.ensures.err m.counted;
      searches = m.searches ∙ ap Some (sym c.take.ensures.scenario);
    }

pub invariant_of-self-in-LevelDone : goal.invariant_of-self-in-LevelDone
invariant_of-self-in-LevelDone g c =
    let m = c.args.self.now in
    let taken = take-counted m.book c.take.new.self c.take.result m.total.total c.take.ensures.taken c.take.ensures.err m.counted in
    record {
      counted = deepened-counted c.take.new.self c.deepen.new.self c.deepen.result m.total.total c.deepen.ensures.deepened taken;
      searches = m.searches ∙ ap Some (sym c.take.ensures.scenario ∙ sym c.deepen.ensures.scenario);
    }

pub returns-in-LevelDone-clause-begun : goal.returns-in-LevelDone-clause-begun
returns-in-LevelDone-clause-begun g c =
    let done : FindsLevelDone (state_of c.args.self.now.book) (state_of c.take.new.self) = search rules in
    (c.take.new.self, done, c.deepen.ensures.deepened)

pub returns-in-Busy-clause-busy : goal.returns-in-Busy-clause-busy
returns-in-Busy-clause-busy g c = λ same.
    still-busy c.args.self.now.book c.take.new.self c.in_ok-job.field-0 c.in-Busy.is c.in_ok-job.ensures.taken c.in_ok-job.ensures.unchanged
