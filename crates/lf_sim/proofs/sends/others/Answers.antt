use Rattle.std.proofs.Common.{◌≡◌, ◌∙◌}
use Rattle.lf_sim.specs.Turns.{is_other, is_receiver}
use Rattle.lf_sim.proofs.MarksLemmas.{all-eight}
use Rattle.lf_sim.proofs.sends.others.Goals as goal

pub returns : goal.returns
returns c =
    let all = c.receivers.ensures in
    all-eight (λ m. is_receiver c.receivers.result m ≡ is_other c.args.nodes c.args.node m)
    (all.to0 ∙ c.is_other.ensures)
    (all.to1 ∙ c.is_other-2.ensures)
    (all.to2 ∙ c.is_other-3.ensures)
    (all.to3 ∙ c.is_other-4.ensures)
    (all.to4 ∙ c.is_other-5.ensures)
    (all.to5 ∙ c.is_other-6.ensures)
    (all.to6 ∙ c.is_other-7.ensures)
    (all.to7 ∙ c.is_other-8.ensures)
