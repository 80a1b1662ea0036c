use Rattle.std.proofs.Common.{◌∷◌, ◌∙◌, arith}
use Rattle.lf_pool.specs.Holds.{IsFoundFor}
use Rattle.lf_pool.proofs.HoldLemmas.{filed-more, one-off}
use Rattle.lf_pool.proofs.ScenarioLemmas.{within}
use Rattle.lf_pool.proofs.locked.Locked.file_all.Goals as goal

pub findings-preserved : goal.findings-preserved
findings-preserved g c =
    let so = c.findings.invariant in
    let f = c.in-Some.finding in
    let next = filed-more c.file-filed.result f so.done so.count c.args.share.now.filed c.findings.share.filed c.file-filed.new.share.filed
    c.args.self.now.book c.findings.self.book c.file-filed.new.self.book so.filed c.file-filed.ensures.filed so.share in
    record {
      done = f ∷ so.done;
      count = next.0;
      rest = one-off c.args.findings.now.items c.findings.findings.items c.pop.new.self.items so.done f so.rest c.in-Some.ensures.items;
      room = c.pop.ensures.capacity ∙ so.room;
      filed = next.1;
      held = omega (arith, so.held, c.in-Some.ensures.len, c.file-filed.ensures.hand);
      share = next.2;
      scratch = c.file-filed.ensures.scratch ∙ so.scratch;
      scenario = c.file-filed.ensures.scenario ∙ so.scenario;
    }

pub file-filed-requires-clause-given : goal.file-filed-requires-clause-given
file-filed-requires-clause-given g c = λ given.
    let all = c.requires.findings in (
      all.0,
      all.1,
      within (IsFoundFor all.0) c.args.findings.now.items c.findings.findings.items c.pop.new.self.items c.findings.invariant.done c.in-Some.finding
          c.findings.invariant.rest c.in-Some.ensures.items all.2,
    )
