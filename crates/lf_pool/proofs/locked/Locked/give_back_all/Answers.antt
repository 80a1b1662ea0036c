use Rattle.std.proofs.Common.{◌∷◌, ◌∙◌, arith}
use Rattle.lf_pool.proofs.HoldLemmas.{given-more, one-off}
use Rattle.lf_pool.proofs.locked.Locked.give_back_all.Goals as goal

pub jobs-preserved : goal.jobs-preserved
jobs-preserved g c =
    let so = c.jobs.invariant in
    let job = c.in-Some.job in
    record {
      done = job ∷ so.done;
      rest = one-off c.args.jobs.now.items c.jobs.jobs.items c.pop.new.self.items so.done job so.rest c.in-Some.ensures.items;
      room = c.pop.ensures.capacity ∙ so.room;
      given = given-more c.give_back-given.result job so.done c.args.self.now.book c.jobs.self.book c.give_back-given.new.self.book so.given
          c.give_back-given.ensures.given;
      held = omega (arith, so.held, c.in-Some.ensures.len, c.give_back-given.ensures.hand);
      scenario = c.give_back-given.ensures.scenario ∙ so.scenario;
      total = c.give_back-given.ensures.total ∙ so.total;
    }
