use Rattle.std.proofs.Common.{◌≡◌, ◌+◌, cond, sym, ap, ◌∙◌, add-zero}
use Rattle.lf_sim.specs.Settings.{world_of}
use Rattle.lf_stakes.specs.Entered.{is_entered_in}
use Rattle.lf_stakes.proofs.CountsLemmas.{count-more}
use Rattle.lf_stakes.proofs.entered.times_entered.Goals.{then-branch, else-branch}
use Rattle.lf_stakes.proofs.entered.times_entered.Goals as goal

pub loop-set-preserved : goal.loop-set-preserved
loop-set-preserved c =
    let times = c.loop-set.times in
    let more : c.if-branch.times ≡ times + cond c.in_ok-is_entered.field-0 1 0 = elim c.if-branch.branch [
      | then-branch w ↦ w.times-is ∙ ap (λ b. times + cond b 1 0) (sym w.if-branch.true)
      | else-branch w ↦ w.times-is ∙ sym (add-zero times) ∙ ap (λ b. times + cond b 1 0) (sym w.if-branch.false)
    ] in
    count-more (λ faults. is_entered_in (world_of c.args.setting.now) faults c.args.topic) c.args.sets.now c.loop-set.set-index c.set-item.result
    times c.if-branch.times c.in_ok-is_entered.field-0 c.loop-set-test.true c.set-item.is c.loop-set.invariant c.in_ok-is_entered.ensures more
