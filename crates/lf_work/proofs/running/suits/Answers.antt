use Rattle.std.proofs.Common.{sym, subst}
use Rattle.std.specs.Arc.{arc_value}
use Rattle.std.specs.Prelude.{IfSome}
use Rattle.lf_outcome.specs.Sameness.{AreSame}
use Rattle.lf_outcome.proofs.Laws.{worlds_are_one}
use Rattle.lf_work.specs.Scratches.{IsPlayedFor}
use Rattle.lf_work.proofs.running.suits.Goals as goal

pub returns-in-Some : goal.returns-in-Some
returns-in-Some c = λ same.
    let s = arc_value c.in-Some.played.scenario in
    let t = arc_value c.args.job.now.scenario in
    let are : AreSame s t = rw (c.deref.ensures, c.scenario.ensures) at c.same.ensures.0 same in
    let one : IsPlayedFor t c.in-Some.played = record { world = worlds_are_one s t are; formula = are.formula } in
    subst (λ o. IfSome o (IsPlayedFor t)) (sym c.in-Some.is) one
