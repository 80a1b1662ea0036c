use Rattle.std.proofs.Common.{◌≡◌, ◌++◌, List, ap, sym, ◌∙◌}
use Rattle.std.specs.Prelude.{Some}
use Rattle.lf_outcome.specs.declared.point.Point.{Point}
use Rattle.lf_outcome.specs.Evidence.{evidence_of}
use Rattle.lf_outcome.proofs.Laws.{evidence-points, evidence-suffices, evidence-up}
use Rattle.lf_sim.specs.Settings.{set_of, world_of}
use Rattle.lf_residual.proofs.JudgedLemmas.{all-truths}
use Rattle.lf_residual.proofs.Places.{all-listed}
use Rattle.lf_residual.proofs.RestingLemmas.{ground_of, rests-none, rests-some}
use Rattle.lf_residual.proofs.judged.Judged.fill_evidence.Goals as goal

pub returns-then-not-holds-clause-value : goal.returns-then-not-holds-clause-value
returns-then-not-holds-clause-value c =
    let w = world_of c.args.setting.now in
    let faults = set_of c.args.run.now in
    let judged = c.requires.judged in
    let holds = c.holds.ensures w faults c.args.formula.now judged in
    sym (sym (judged.rests faults) ∙ rests-none w faults c.args.self.now.formula (judged.says faults ∙ sym holds ∙ c.if-not-holds.true))

pub put_points-requires-clause-parts : goal.put_points-requires-clause-parts
put_points-requires-clause-parts c =
    all-listed c.args.self.now.formula c.as_slice.result.now (c.as_slice.ensures.value ∙ c.requires.judged.parts)

pub put_points-requires-clause-truths : goal.put_points-requires-clause-truths
put_points-requires-clause-truths c =
    all-truths (world_of c.args.setting.now) (set_of c.args.run.now) c.args.self.now.formula c.as_slice-2.result.now
    (c.as_slice-2.ensures.value ∙ c.requires.judged.truths)

pub put_points-requires-clause-holds : goal.put_points-requires-clause-holds
put_points-requires-clause-holds c =
    let w = world_of c.args.setting.now in
    let faults = set_of c.args.run.now in
    let judged = c.requires.judged in
    judged.says faults ∙ sym (c.holds.ensures w faults c.args.formula.now judged) ∙ c.if-not-holds.false

pub returns-clause-value : goal.returns-clause-value
returns-clause-value c =
    let w = world_of c.args.setting.now in
    let faults = set_of c.args.run.now in
    let f = c.args.formula.now in
    let own = c.args.self.now.formula in
    let judged = c.requires.judged in
    let items : List Point = c.put_points.new.points.items in
    let put : items ≡ ground_of w faults own = c.in_ok-put_points.ensures ∙ ap (λ ps. ps ++ ground_of w faults own) c.clear.ensures.items in
    let true_there = judged.says faults ∙ sym (c.holds.ensures w faults f judged) ∙ c.if-not-holds.false in
    let is : evidence_of w faults f ≡ Some items = sym (judged.rests faults) ∙ rests-some w faults own true_there ∙ ap Some (sym put) in
    sym is

pub returns-clause-points : goal.returns-clause-points
returns-clause-points c = λ found.
    let w = world_of c.args.setting.now in
    let faults = set_of c.args.run.now in
    let f = c.args.formula.now in
    let own = c.args.self.now.formula in
    let judged = c.requires.judged in
    let items : List Point = c.put_points.new.points.items in
    let put : items ≡ ground_of w faults own = c.in_ok-put_points.ensures ∙ ap (λ ps. ps ++ ground_of w faults own) c.clear.ensures.items in
    let true_there = judged.says faults ∙ sym (c.holds.ensures w faults f judged) ∙ c.if-not-holds.false in
    let is : evidence_of w faults f ≡ Some items = sym (judged.rests faults) ∙ rests-some w faults own true_there ∙ ap Some (sym put) in
    evidence-points w faults f items is

pub returns-clause-up : goal.returns-clause-up
returns-clause-up c = λ found.
    let w = world_of c.args.setting.now in
    let faults = set_of c.args.run.now in
    let f = c.args.formula.now in
    let own = c.args.self.now.formula in
    let judged = c.requires.judged in
    let items : List Point = c.put_points.new.points.items in
    let put : items ≡ ground_of w faults own = c.in_ok-put_points.ensures ∙ ap (λ ps. ps ++ ground_of w faults own) c.clear.ensures.items in
    let true_there = judged.says faults ∙ sym (c.holds.ensures w faults f judged) ∙ c.if-not-holds.false in
    let is : evidence_of w faults f ≡ Some items = sym (judged.rests faults) ∙ rests-some w faults own true_there ∙ ap Some (sym put) in
    evidence-up w faults f items is

pub returns-clause-suffices : goal.returns-clause-suffices
returns-clause-suffices c = λ found.
    let w = world_of c.args.setting.now in
    let faults = set_of c.args.run.now in
    let f = c.args.formula.now in
    let own = c.args.self.now.formula in
    let judged = c.requires.judged in
    let items : List Point = c.put_points.new.points.items in
    let put : items ≡ ground_of w faults own = c.in_ok-put_points.ensures ∙ ap (λ ps. ps ++ ground_of w faults own) c.clear.ensures.items in
    let true_there = judged.says faults ∙ sym (c.holds.ensures w faults f judged) ∙ c.if-not-holds.false in
    let is : evidence_of w faults f ≡ Some items = sym (judged.rests faults) ∙ rests-some w faults own true_there ∙ ap Some (sym put) in
    evidence-suffices w faults f items is
