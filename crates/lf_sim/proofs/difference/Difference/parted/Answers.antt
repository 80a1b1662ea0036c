use Rattle.std.proofs.Common.{◌≡◌, false}
use Rattle.lf_sim.specs.declared.difference.Difference.{Difference}
use Rattle.lf_sim.specs.Differences.{differs}
use Rattle.lf_sim.specs.Turns.{is_receiver}
use Rattle.lf_sim.proofs.MarksLemmas.{all-eight}
use Rattle.lf_sim.proofs.difference.Difference.parted.Goals as goal

pub returns-clause-notes : goal.returns-clause-notes
returns-clause-notes c =
    let made : Difference = record {
      state = c.args.state;
      to0 = c.is_parted.result;
      to1 = c.is_parted-2.result;
      to2 = c.is_parted-3.result;
      to3 = c.is_parted-4.result;
      to4 = c.is_parted-5.result;
      to5 = c.is_parted-6.result;
      to6 = c.is_parted-7.result;
      to7 = c.is_parted-8.result;
    } in
    all-eight (λ m. differs made m ≡ false → is_receiver c.args.one m ≡ is_receiver c.args.other m)
    c.is_parted.ensures c.is_parted-2.ensures c.is_parted-3.ensures c.is_parted-4.ensures c.is_parted-5.ensures c.is_parted-6.ensures c.is_parted-7.ensures c.is_parted-8.ensures
