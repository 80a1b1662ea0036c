use Rattle.std.proofs.Common.{◌≡◌, false}
use Rattle.lf_sim.specs.declared.difference.Difference.{Difference}
use Rattle.lf_sim.specs.Differences.{differs}
use Rattle.lf_sim.specs.Turns.{is_receiver}
use Rattle.lf_sim.proofs.MarksLemmas.{all-eight}
use Rattle.lf_sim.proofs.difference.Difference.either.Goals as goal

pub returns-clause-one : goal.returns-clause-one
returns-clause-one c =
    let made : Difference = record {
      state = c.args.state;
      to0 = c.is_either.result;
      to1 = c.is_either-2.result;
      to2 = c.is_either-3.result;
      to3 = c.is_either-4.result;
      to4 = c.is_either-5.result;
      to5 = c.is_either-6.result;
      to6 = c.is_either-7.result;
      to7 = c.is_either-8.result;
    } in
    all-eight (λ m. differs made m ≡ false → is_receiver c.args.one m ≡ false)
    c.is_either.ensures.one c.is_either-2.ensures.one c.is_either-3.ensures.one c.is_either-4.ensures.one c.is_either-5.ensures.one c.is_either-6.ensures.one c.is_either-7.ensures.one c.is_either-8.ensures.one

pub returns-clause-other : goal.returns-clause-other
returns-clause-other c =
    let made : Difference = record {
      state = c.args.state;
      to0 = c.is_either.result;
      to1 = c.is_either-2.result;
      to2 = c.is_either-3.result;
      to3 = c.is_either-4.result;
      to4 = c.is_either-5.result;
      to5 = c.is_either-6.result;
      to6 = c.is_either-7.result;
      to7 = c.is_either-8.result;
    } in
    all-eight (λ m. differs made m ≡ false → is_receiver c.args.other m ≡ false)
    c.is_either.ensures.other c.is_either-2.ensures.other c.is_either-3.ensures.other c.is_either-4.ensures.other c.is_either-5.ensures.other c.is_either-6.ensures.other c.is_either-7.ensures.other c.is_either-8.ensures.other
