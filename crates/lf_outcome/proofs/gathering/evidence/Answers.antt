use Rattle.std.proofs.Common.{◌≡◌, ◌++◌, true, [], sym, ap, ◌∙◌}
use Rattle.std.specs.Prelude.{All, Some}
use Rattle.std.specs.Option.{unwrap_or}
use Rattle.lf_sim.specs.Settings.{set_of, world_of}
use Rattle.lf_outcome.specs.Evidence.{evidence_of}
use Rattle.lf_outcome.specs.Truth.{counts, is_down, is_shown, is_single, reaches_within}
use Rattle.lf_outcome.specs.Unfolding.{unfolded}
use Rattle.lf_outcome.proofs.EvidenceLemmas.{rests_on-truth, true_of_it}
use Rattle.lf_outcome.proofs.PointsLemmas.{Up, evidence-up, up-each, points-each, covers-suffices, covers-each}
use Rattle.lf_outcome.proofs.gathering.evidence.Goals as goal

pub returns-then-branch-clause-truth : goal.returns-then-branch-clause-truth
returns-then-branch-clause-truth g c =
    let w = world_of c.args.setting.now in
    let faults = set_of c.args.run.now in
    sym c.if-branch.true ∙ c.in_ok-gather.ensures.found ∙ rests_on-truth (is_down w faults) (is_shown w faults) (is_single w faults) (unfolded
    c.args.formula.now)

pub returns-then-branch-clause-points : goal.returns-then-branch-clause-points
returns-then-branch-clause-points g c =
    let w = world_of c.args.setting.now in
    let faults = set_of c.args.run.now in
    let E = evidence_of w faults c.args.formula.now in
    points-each w faults c.gather.new.points.items
    (true_of_it E c.in_ok-gather.field-0 c.gather.new.points.items c.in_ok-gather.ensures.found
    (c.in_ok-gather.ensures.points ∙ ap (λ ps. ps ++ unwrap_or E []) c.new-points.ensures.items) c.if-branch.true
    (All (Up w faults)) (evidence-up w faults c.args.formula.now))

pub returns-then-branch-clause-up : goal.returns-then-branch-clause-up
returns-then-branch-clause-up g c =
    let w = world_of c.args.setting.now in
    let faults = set_of c.args.run.now in
    let E = evidence_of w faults c.args.formula.now in
    up-each w faults c.gather.new.points.items
    (true_of_it E c.in_ok-gather.field-0 c.gather.new.points.items c.in_ok-gather.ensures.found
    (c.in_ok-gather.ensures.points ∙ ap (λ ps. ps ++ unwrap_or E []) c.new-points.ensures.items) c.if-branch.true
    (All (Up w faults)) (evidence-up w faults c.args.formula.now))

pub returns-then-branch-clause-suffices : goal.returns-then-branch-clause-suffices
returns-then-branch-clause-suffices g c =
    let w = world_of c.args.setting.now in
    let faults = set_of c.args.run.now in
    let E = evidence_of w faults c.args.formula.now in
    λ reach covers.
    true_of_it E c.in_ok-gather.field-0 c.gather.new.points.items c.in_ok-gather.ensures.found
    (c.in_ok-gather.ensures.points ∙ ap (λ ps. ps ++ unwrap_or E []) c.new-points.ensures.items) c.if-branch.true
    (λ points. All (λ p. counts (Some reach) p.node p.step ≡ true) points → reaches_within w faults reach c.args.formula.now ≡ true)
    (covers-suffices w faults c.args.formula.now reach) (covers-each reach c.gather.new.points.items covers)

pub returns-else-branch-clause-truth : goal.returns-else-branch-clause-truth
returns-else-branch-clause-truth g c =
    let w = world_of c.args.setting.now in
    let faults = set_of c.args.run.now in
    sym c.if-branch.false ∙ c.in_ok-gather.ensures.found ∙ rests_on-truth (is_down w faults) (is_shown w faults) (is_single w faults) (unfolded
    c.args.formula.now)
