use Rattle.std.proofs.Common.{◌≡◌, ap, ◌∙◌, subst, sym}
use Rattle.std.specs.Arc.{arc_value}
use Rattle.lf_sim.specs.Changes.{AreSameBut}
use Rattle.lf_sim.specs.Settings.{IsRun, set_of, world_of}
use Rattle.lf_outcome.specs.declared.scenario.Scenario.{Scenario}
use Rattle.lf_residual.specs.Judging.{IsJudged}
use Rattle.lf_work.specs.Scratches.{IsPlayedFor}
use Rattle.lf_work.proofs.running.run_of.Goals as goal

pub judge_again-requires-clause-judged : goal.judge_again-requires-clause-judged
judge_again-requires-clause-judged c =
    let used = c.in-Some.used in
    let w = world_of c.setting-setting-2.result.now in
    let setting = c.setting-setting-2.ensures ∙ ap (λ (s : Scenario). s.setting) c.deref-2.ensures in
    let formula = c.formula-2.ensures.value ∙ ap (λ (s : Scenario). s.formula) c.deref-3.ensures in
    let told = subst (λ s. IsJudged (world_of s) (set_of used.run) (arc_value used.scenario).formula used.judged) (sym setting) used.tells in
    record {
      from = set_of used.run;
      before = subst (λ f. IsJudged w (set_of used.run) f used.judged) (sym formula) told;
      same = subst (λ fs. AreSameBut w (set_of used.run) fs c.rerun-changed.result.points) (sym c.rerun-changed.ensures.set) c.rerun-changed.ensures.same;
    }

pub returns-clause-scenario : goal.returns-clause-scenario
returns-clause-scenario c =
    let one : IsPlayedFor (arc_value c.args.job.now.scenario) c.in-Some.used = rw c.in-Some.is at c.requires in
    record { world = one.world; formula = one.formula }

pub returns-clause-run : goal.returns-clause-run
returns-clause-run c =
    let one : IsPlayedFor (arc_value c.args.job.now.scenario) c.in-Some.used = rw c.in-Some.is at c.requires in
    let run = subst (λ s. IsRun (world_of s) c.rerun-changed.new.run) (c.setting-setting-2.ensures ∙ ap (λ (s : Scenario). s.setting) c.deref-2.ensures)
    c.rerun-changed.ensures.run in
    subst (λ w. IsRun w c.rerun-changed.new.run) one.world run

pub returns-clause-judged : goal.returns-clause-judged
returns-clause-judged c =
    let one : IsPlayedFor (arc_value c.args.job.now.scenario) c.in-Some.used = rw c.in-Some.is at c.requires in
    let faults = set_of c.rerun-changed.new.run in
    let now = c.judge_again.new.self in
    let setting = c.setting-setting-2.ensures ∙ ap (λ (s : Scenario). s.setting) c.deref-2.ensures in
    let formula = c.formula-2.ensures.value ∙ ap (λ (s : Scenario). s.formula) c.deref-3.ensures in
    let own = subst (λ s. IsJudged (world_of s) faults c.formula-2.result.now now) setting c.judge_again.ensures in
    subst (λ w. IsJudged w faults (arc_value c.args.job.now.scenario).formula now) one.world
    (subst (λ f. IsJudged (world_of (arc_value c.in-Some.used.scenario).setting) faults f now) (formula ∙ one.formula) own)
