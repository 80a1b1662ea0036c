use Rattle.std.proofs.Common.{Some, sym, ap, ◌∙◌}
use Rattle.lf_pool.proofs.HoldLemmas.{back-job-counted}
use Rattle.lf_pool.proofs.locked.Locked.give_back.Goals as goal

pub invariant_of-self : goal.invariant_of-self
invariant_of-self g c =
    let m = c.args.self.now in
    record {
      counted = back-job-counted m.book c.give_back.new.self c.args.claim.job c.give_back.result m.total.total c.give_back.ensures.given
          c.give_back.ensures.unchanged m.counted;
      searches = m.searches ∙ ap Some (sym c.give_back.ensures.scenario);
    }
