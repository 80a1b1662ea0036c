use Rattle.std.proofs.Common.{◌≡◌, [], ap, length, refl, sym, ◌∙◌, arith}
use Rattle.std.proofs.lemmas.List.{append-nil, with_items_is}
use Rattle.lf_sim.specs.Settings.{set_of, world_of}
use Rattle.lf_residual.specs.Judging.{truths_of}
use Rattle.lf_residual.proofs.JudgedLemmas.{truths-count}
use Rattle.lf_residual.proofs.Places.{all-listed, listed-count}
use Rattle.lf_residual.proofs.judged.Judged.judge_again.Goals as goal

pub judge_again-requires-clause-parts : goal.judge_again-requires-clause-parts
judge_again-requires-clause-parts c =
    all-listed c.args.self.now.formula c.as_slice.result.now (c.as_slice.ensures.value ∙ c.requires.judged.before.parts)

pub judge_again-requires-clause-truths : goal.judge_again-requires-clause-truths
judge_again-requires-clause-truths c =
    let f = c.args.self.now.formula in
    let before = c.requires.judged.before in
    let parts = listed-count f c.as_slice.result.now (c.as_slice.ensures.value ∙ before.parts) in
    let truths = ap length (c.as_mut_slice.ensures.value ∙ before.truths) ∙ truths-count (world_of c.args.setting.now) c.requires.judged.from f in
    omega (arith, parts, truths)

pub returns : goal.returns
returns c =
    let w = world_of c.args.setting.now in
    let f = c.args.self.now.formula in
    let judged = c.requires.judged in
    let now = c.judge_again.ensures judged.from [] [] judged.same refl
    (c.as_mut_slice.ensures.value ∙ judged.before.truths ∙ sym (append-nil (truths_of w judged.from f))) in
    let kept : length c.judge_again.new.truths ≡ c.args.self.now.truths.len =
    c.judge_again.auto.truths ∙ ap length c.as_mut_slice.ensures.value ∙ sym c.args.self.now.truths.ok.0 in
    record {
      says = judged.before.says;
      rests = judged.before.rests;
      parts = judged.before.parts;
      truths = with_items_is c.args.self.now.truths c.judge_again.new.truths kept ∙ now.1 ∙ append-nil (truths_of w (set_of c.args.run.now) f);
    }
