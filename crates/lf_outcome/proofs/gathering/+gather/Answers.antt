use Rattle.std.proofs.Common.{rules, ◌≡◌, ℕ, ◌++◌, [], ◌∷◌, length, map, take, refl, sym, ap, ◌∙◌, subst, arith}
use Rattle.std.specs.Prelude.{IfOk, OnOk}
use Rattle.std.specs.Option.{is_some, unwrap_or}
use Rattle.std.proofs.lemmas.List.{append-nil}
use Rattle.lf_sim.specs.Settings.{set_of, world_of}
use Rattle.lf_outcome.specs.Evidence.{all_of, evidence_at, first_of}
use Rattle.lf_outcome.specs.Truth.{is_down, is_shown, is_single}
use Rattle.lf_outcome.specs.Unfolding.{later, unfold_at}
use Rattle.lf_outcome.proofs.EvidenceLemmas.{rests_on-from_all, rests_on-from_any, rests_on-from_every, rests_on-from_some, gathered-none, gathered-more}
use Rattle.lf_outcome.proofs.EvidenceLemmas.{behind-many, behind-one, found-down, found-one, behind-down, found-shows, behind-shows, behind-hidden}
use Rattle.lf_outcome.proofs.EvidenceLemmas.{gathered-missing, gathered-back, gathered-all, first-found, first-later, first-none, is_missing}
use Rattle.lf_outcome.proofs.EvidenceLemmas.{steps-gathered-none, steps-gathered-more, steps-gathered-end, steps-gathered-all, steps-missing}
use Rattle.lf_outcome.proofs.EvidenceLemmas.{steps-passed-none, steps-passed-more, steps-passed-end, steps-passed-all, steps-found}
use Rattle.lf_outcome.proofs.UnfoldingLemmas.{is-down, is-one, is-shows}
use Rattle.lf_outcome.proofs.gathering.+gather.Goals as goal

pub gather-returns-in-All-clause-found : goal.gather-returns-in-All-clause-found
gather-returns-in-All-clause-found g t c =
    let w = world_of c.args.setting.now in
    let faults = set_of c.args.run.now in
    subst (λ o. IfOk c.gather_all.result (λ b. b ≡ is_some o))
    (rests_on-from_all (is_down w faults) (is_shown w faults) (is_single w faults) c.args.formula.now c.in-All.parts c.as_slice.result.now c.args.offset
    c.in-All.is c.as_slice.ensures)
    c.gather_all.ensures.found

pub gather-returns-in-Any-clause-found : goal.gather-returns-in-Any-clause-found
gather-returns-in-Any-clause-found g t c =
    let w = world_of c.args.setting.now in
    let faults = set_of c.args.run.now in
    subst (λ o. IfOk c.gather_first.result (λ b. b ≡ is_some o))
    (rests_on-from_any (is_down w faults) (is_shown w faults) (is_single w faults) c.args.formula.now c.in-Any.parts c.as_slice-in-Any.result.now c.args.offset
    c.in-Any.is c.as_slice-in-Any.ensures)
    c.gather_first.ensures.found

pub gather-returns-in-Any-clause-points : goal.gather-returns-in-Any-clause-points
gather-returns-in-Any-clause-points g t c =
    let w = world_of c.args.setting.now in
    let faults = set_of c.args.run.now in
    subst (λ o. OnOk c.gather_first.result (c.gather_first.new.points.items ≡ c.args.points.now.items ++ unwrap_or o []))
    (rests_on-from_any (is_down w faults) (is_shown w faults) (is_single w faults) c.args.formula.now c.in-Any.parts c.as_slice-in-Any.result.now c.args.offset
    c.in-Any.is c.as_slice-in-Any.ensures)
    c.gather_first.ensures.points

pub gather_all-all-init : goal.gather_all-all-init
gather_all-all-init g t c =
    let w = world_of c.args.setting.now in
    let faults = set_of c.args.run.now in
    let E = evidence_at w faults c.args.offset in
    gathered-none E c.args.parts.now c.args.points.now.items

pub gather_all-returns-then-not-branch-clause-found : goal.gather_all-returns-then-not-branch-clause-found
gather_all-returns-then-not-branch-clause-found g t c =
    let w = world_of c.args.setting.now in
    let faults = set_of c.args.run.now in
    let E = evidence_at w faults c.args.offset in
    sym (ap is_some (gathered-missing E c.args.parts.now
    c.all.part-index c.part-item.result (omega arith) c.part-item.is c.args.points.now.items c.all.points.items c.gather.new.points.items c.all.invariant
    c.in_ok-gather.field-0 c.in_ok-gather.ensures.found c.in_ok-gather.ensures.points c.if-not-branch.true))

pub gather_all-returns-then-not-branch-clause-points : goal.gather_all-returns-then-not-branch-clause-points
gather_all-returns-then-not-branch-clause-points g t c =
    let w = world_of c.args.setting.now in
    let faults = set_of c.args.run.now in
    let E = evidence_at w faults c.args.offset in
    let before = c.args.points.now.items in
    let missing = gathered-missing E c.args.parts.now
    c.all.part-index c.part-item.result (omega arith) c.part-item.is before c.all.points.items c.gather.new.points.items c.all.invariant
    c.in_ok-gather.field-0 c.in_ok-gather.ensures.found c.in_ok-gather.ensures.points c.if-not-branch.true in
    let long : c.len-before.result ≡ length before = grind arith in
    gathered-back E c.args.parts.now
    c.all.part-index c.part-item.result (omega arith) c.part-item.is before c.all.points.items c.gather.new.points.items c.all.invariant
    c.in_ok-gather.field-0 c.in_ok-gather.ensures.found c.in_ok-gather.ensures.points c.truncate.new.self.items
    (c.truncate.ensures.items ∙ ap (λ n. take n c.gather.new.points.items) long)
    ∙ sym (append-nil before) ∙ ap (λ o. before ++ unwrap_or o []) (sym missing)

pub gather_all-all-preserved : goal.gather_all-all-preserved
gather_all-all-preserved g t c =
    let w = world_of c.args.setting.now in
    let faults = set_of c.args.run.now in
    let E = evidence_at w faults c.args.offset in
    gathered-more E c.args.parts.now
    c.all.part-index c.part-item.result (omega arith) c.part-item.is c.args.points.now.items c.all.points.items c.gather.new.points.items c.all.invariant
    c.in_ok-gather.field-0 c.in_ok-gather.ensures.found c.in_ok-gather.ensures.points c.if-not-branch.false

pub gather_all-returns-clause-found : goal.gather_all-returns-clause-found
gather_all-returns-clause-found g t c =
    let w = world_of c.args.setting.now in
    let faults = set_of c.args.run.now in
    let E = evidence_at w faults c.args.offset in
    sym (ap is_some (gathered-all E c.args.parts.now
    c.all.part-index c.args.points.now.items c.all.points.items (omega arith) c.all.invariant))

pub gather_all-returns-clause-points : goal.gather_all-returns-clause-points
gather_all-returns-clause-points g t c =
    let w = world_of c.args.setting.now in
    let faults = set_of c.args.run.now in
    let E = evidence_at w faults c.args.offset in
    c.all.invariant.items
    ∙ ap (λ o. c.args.points.now.items ++ unwrap_or o [])
    (sym (gathered-all E c.args.parts.now
    c.all.part-index c.args.points.now.items c.all.points.items (omega arith) c.all.invariant))

pub gather_first-any-init : goal.gather_first-any-init
gather_first-any-init g t c = (refl, refl)

pub gather_first-returns-then-branch-clause-found : goal.gather_first-returns-then-branch-clause-found
gather_first-returns-then-branch-clause-found g t c =
    let w = world_of c.args.setting.now in
    let faults = set_of c.args.run.now in
    let E = evidence_at w faults c.args.offset in
    sym c.if-branch.true ∙ c.in_ok-gather.ensures.found
    ∙ sym (ap is_some (first-found E c.args.parts.now c.any.part-index c.part-item.result (omega arith) c.part-item.is c.any.invariant.1
    c.in_ok-gather.field-0 c.in_ok-gather.ensures.found c.if-branch.true))

pub gather_first-returns-then-branch-clause-points : goal.gather_first-returns-then-branch-clause-points
gather_first-returns-then-branch-clause-points g t c =
    let w = world_of c.args.setting.now in
    let faults = set_of c.args.run.now in
    let E = evidence_at w faults c.args.offset in
    c.in_ok-gather.ensures.points ∙ ap (λ ps. ps ++ unwrap_or (E c.part-item.result) []) c.any.invariant.0
    ∙ ap (λ o. c.args.points.now.items ++ unwrap_or o [])
    (sym (first-found E c.args.parts.now c.any.part-index c.part-item.result (omega arith) c.part-item.is c.any.invariant.1
    c.in_ok-gather.field-0 c.in_ok-gather.ensures.found c.if-branch.true))

pub gather_first-any-preserved : goal.gather_first-any-preserved
gather_first-any-preserved g t c =
    let w = world_of c.args.setting.now in
    let faults = set_of c.args.run.now in
    let E = evidence_at w faults c.args.offset in
    let none = is_missing (E c.part-item.result) (sym c.in_ok-gather.ensures.found ∙ c.if-branch.false) in (
      c.in_ok-gather.ensures.points ∙ ap (λ o. c.any.points.items ++ unwrap_or o []) none ∙ append-nil c.any.points.items ∙ c.any.invariant.0,
      first-later E c.args.parts.now c.any.part-index c.part-item.result (omega arith) c.part-item.is c.any.invariant.1
          c.in_ok-gather.field-0 c.in_ok-gather.ensures.found c.if-branch.false,
    )

pub gather_first-returns-clause-found : goal.gather_first-returns-clause-found
gather_first-returns-clause-found g t c =
    let w = world_of c.args.setting.now in
    let faults = set_of c.args.run.now in
    let E = evidence_at w faults c.args.offset in
    sym (ap is_some (first-none E c.args.parts.now
    c.any.part-index (omega arith) c.any.invariant.1))

pub gather_first-returns-clause-points : goal.gather_first-returns-clause-points
gather_first-returns-clause-points g t c =
    let w = world_of c.args.setting.now in
    let faults = set_of c.args.run.now in
    let E = evidence_at w faults c.args.offset in
    c.any.invariant.0 ∙ sym (append-nil c.args.points.now.items)
    ∙ ap (λ o. c.args.points.now.items ++ unwrap_or o [])
    (sym (first-none E c.args.parts.now
    c.any.part-index (omega arith) c.any.invariant.1))

pub gather-returns-in-Down-clause-found : goal.gather-returns-in-Down-clause-found
gather-returns-in-Down-clause-found g t c =
    let w = world_of c.args.setting.now in
    let faults = set_of c.args.run.now in
    found-down (is_down w faults) (is_shown w faults) (is_single w faults) (unfold_at c.args.formula.now c.args.offset) c.in-Down.node c.later.result _
    (is-down c.args.formula.now c.in-Down.node c.in-Down.step c.args.offset c.later.result c.in-Down.is c.later.ensures) (search rules)

pub gather-returns-in-Down-clause-points : goal.gather-returns-in-Down-clause-points
gather-returns-in-Down-clause-points g t c =
    let w = world_of c.args.setting.now in
    let faults = set_of c.args.run.now in
    behind-down (is_down w faults) (is_shown w faults) (is_single w faults) (unfold_at c.args.formula.now c.args.offset) c.in-Down.node c.later.result _
    (is-down c.args.formula.now c.in-Down.node c.in-Down.step c.args.offset c.later.result c.in-Down.is c.later.ensures)

pub gather-returns-in_ok-push-in-Shows-clause-found : goal.gather-returns-in_ok-push-in-Shows-clause-found
gather-returns-in_ok-push-in-Shows-clause-found g t c =
    let w = world_of c.args.setting.now in
    let faults = set_of c.args.run.now in
    found-shows (is_down w faults) (is_shown w faults) (is_single w faults) (unfold_at c.args.formula.now c.args.offset) c.in-Shows.node c.later-step.result
    c.in-Shows.fact
    _ (is-shows c.args.formula.now c.in-Shows.node c.in-Shows.step c.in-Shows.fact c.args.offset c.later-step.result c.in-Shows.is c.later-step.ensures)
    c.shows-shown.ensures

pub gather-returns-in_ok-push-in-Shows-clause-points : goal.gather-returns-in_ok-push-in-Shows-clause-points
gather-returns-in_ok-push-in-Shows-clause-points g t c =
    let w = world_of c.args.setting.now in
    let faults = set_of c.args.run.now in
    let pushed : c.push.new.self.items ≡ c.args.points.now.items ++ record { node = c.in-Shows.node; step = c.later-step.result } ∷ [] = search rules in
    pushed ∙ behind-shows (is_down w faults) (is_shown w faults) (is_single w faults) (unfold_at c.args.formula.now c.args.offset) c.in-Shows.node
    c.later-step.result c.in-Shows.fact
    c.args.points.now.items (is-shows c.args.formula.now c.in-Shows.node c.in-Shows.step c.in-Shows.fact c.args.offset c.later-step.result c.in-Shows.is
    c.later-step.ensures) (sym c.shows-shown.ensures ∙ c.if-shown.true)

pub gather-returns-else-shown-clause-found : goal.gather-returns-else-shown-clause-found
gather-returns-else-shown-clause-found g t c =
    let w = world_of c.args.setting.now in
    let faults = set_of c.args.run.now in
    found-shows (is_down w faults) (is_shown w faults) (is_single w faults) (unfold_at c.args.formula.now c.args.offset) c.in-Shows.node c.later-step.result
    c.in-Shows.fact
    _ (is-shows c.args.formula.now c.in-Shows.node c.in-Shows.step c.in-Shows.fact c.args.offset c.later-step.result c.in-Shows.is c.later-step.ensures)
    c.shows-shown.ensures

pub gather-returns-else-shown-clause-points : goal.gather-returns-else-shown-clause-points
gather-returns-else-shown-clause-points g t c =
    let w = world_of c.args.setting.now in
    let faults = set_of c.args.run.now in
    behind-hidden (is_down w faults) (is_shown w faults) (is_single w faults) (unfold_at c.args.formula.now c.args.offset) c.in-Shows.node c.later-step.result
    c.in-Shows.fact _
    (is-shows c.args.formula.now c.in-Shows.node c.in-Shows.step c.in-Shows.fact c.args.offset c.later-step.result c.in-Shows.is c.later-step.ensures) (sym
    c.shows-shown.ensures ∙ c.if-shown.false)

pub gather-returns-in_ok-push_up-in-One-clause-points : goal.gather-returns-in_ok-push_up-in-One-clause-points
gather-returns-in_ok-push_up-in-One-clause-points g t c =
    let w = world_of c.args.setting.now in
    let faults = set_of c.args.run.now in
    let down = is_down w faults in
    c.in_ok-push_up-in-One.ensures
    ∙ behind-one down (is_shown w faults) (is_single w faults) (unfold_at c.args.formula.now c.args.offset) c.in-One.nodes c.in-One.last c.in-One.topic
    c.args.points.now.items
    (is-one c.args.formula.now c.in-One.nodes c.in-One.last c.in-One.topic c.args.offset c.in-One.is) (sym c.is_single-single.ensures ∙ c.if-single.true)

pub gather-returns-else-single-clause-points : goal.gather-returns-else-single-clause-points
gather-returns-else-single-clause-points g t c =
    let w = world_of c.args.setting.now in
    let faults = set_of c.args.run.now in
    behind-many (is_down w faults) (is_shown w faults) (is_single w faults) (unfold_at c.args.formula.now c.args.offset) c.in-One.nodes c.in-One.last
    c.in-One.topic
    c.args.points.now.items (is-one c.args.formula.now c.in-One.nodes c.in-One.last c.in-One.topic c.args.offset c.in-One.is) (sym c.is_single-single.ensures
    ∙ c.if-single.false)

pub gather-returns-then-every-clause-found : goal.gather-returns-then-every-clause-found
gather-returns-then-every-clause-found g t c =
    let w = world_of c.args.setting.now in
    let faults = set_of c.args.run.now in
    subst (λ o. IfOk c.gather_all_over.result (λ b. b ≡ is_some o))
    (rests_on-from_every (is_down w faults) (is_shown w faults) (is_single w faults) c.args.formula.now c.in-Over.every c.in-Over.first c.in-Over.last
    c.in-Over.parts
    c.as_slice-then-every.result.now c.args.offset c.in-Over.is c.if-every.true c.as_slice-then-every.ensures)
    c.gather_all_over.ensures.found

pub gather-returns-then-every-clause-points : goal.gather-returns-then-every-clause-points
gather-returns-then-every-clause-points g t c =
    let w = world_of c.args.setting.now in
    let faults = set_of c.args.run.now in
    subst (λ o. OnOk c.gather_all_over.result (c.gather_all_over.new.points.items ≡ c.args.points.now.items ++ unwrap_or o []))
    (rests_on-from_every (is_down w faults) (is_shown w faults) (is_single w faults) c.args.formula.now c.in-Over.every c.in-Over.first c.in-Over.last
    c.in-Over.parts
    c.as_slice-then-every.result.now c.args.offset c.in-Over.is c.if-every.true c.as_slice-then-every.ensures)
    c.gather_all_over.ensures.points

pub gather-returns-else-every-clause-found : goal.gather-returns-else-every-clause-found
gather-returns-else-every-clause-found g t c =
    let w = world_of c.args.setting.now in
    let faults = set_of c.args.run.now in
    subst (λ o. IfOk c.gather_first_over.result (λ b. b ≡ is_some o))
    (rests_on-from_some (is_down w faults) (is_shown w faults) (is_single w faults) c.args.formula.now c.in-Over.every c.in-Over.first c.in-Over.last
    c.in-Over.parts
    c.as_slice-else-every.result.now c.args.offset c.in-Over.is c.if-every.false c.as_slice-else-every.ensures)
    c.gather_first_over.ensures.found

pub gather-returns-else-every-clause-points : goal.gather-returns-else-every-clause-points
gather-returns-else-every-clause-points g t c =
    let w = world_of c.args.setting.now in
    let faults = set_of c.args.run.now in
    subst (λ o. OnOk c.gather_first_over.result (c.gather_first_over.new.points.items ≡ c.args.points.now.items ++ unwrap_or o []))
    (rests_on-from_some (is_down w faults) (is_shown w faults) (is_single w faults) c.args.formula.now c.in-Over.every c.in-Over.first c.in-Over.last
    c.in-Over.parts
    c.as_slice-else-every.result.now c.args.offset c.in-Over.is c.if-every.false c.as_slice-else-every.ensures)
    c.gather_first_over.ensures.points

pub gather_all_over-steps-init : goal.gather_all_over-steps-init
gather_all_over-steps-init g t c =
    let w = world_of c.args.setting.now in
    let faults = set_of c.args.run.now in
    let S = λ (t : ℕ). all_of (map (evidence_at w faults (later c.args.offset t)) c.args.parts.now) in
    steps-gathered-none S c.args.first c.args.last c.args.points.now.items

pub gather_all_over-steps-preserved : goal.gather_all_over-steps-preserved
gather_all_over-steps-preserved g t c =
    let w = world_of c.args.setting.now in
    let faults = set_of c.args.run.now in
    let S = λ (t : ℕ). all_of (map (evidence_at w faults (later c.args.offset t)) c.args.parts.now) in
    let at = ap (λ (k : ℕ). all_of (map (evidence_at w faults k) c.args.parts.now)) c.later.ensures in
    steps-gathered-more S c.args.first c.args.last c.steps.step (omega arith) c.args.points.now.items c.steps.points.items c.gather_all.new.points.items
    (omega arith) c.in_ok-gather_all.field-0
    (c.in_ok-gather_all.ensures.found ∙ ap is_some at) (c.in_ok-gather_all.ensures.points ∙ ap (λ o. c.steps.points.items ++ unwrap_or o []) at)
    c.steps.invariant
    c.if-not-branch.false

pub gather_all_over-returns-then-not-branch-clause-found : goal.gather_all_over-returns-then-not-branch-clause-found
gather_all_over-returns-then-not-branch-clause-found g t c =
    let w = world_of c.args.setting.now in
    let faults = set_of c.args.run.now in
    let S = λ (t : ℕ). all_of (map (evidence_at w faults (later c.args.offset t)) c.args.parts.now) in
    let at = ap (λ (k : ℕ). all_of (map (evidence_at w faults k) c.args.parts.now)) c.later.ensures in
    let long : c.len-before.result ≡ length c.args.points.now.items = grind arith in
    (steps-missing S c.args.first c.args.last c.steps.step (omega arith) c.args.points.now.items c.steps.points.items c.gather_all.new.points.items
    (omega arith) c.in_ok-gather_all.field-0
    (c.in_ok-gather_all.ensures.found ∙ ap is_some at) (c.in_ok-gather_all.ensures.points ∙ ap (λ o. c.steps.points.items ++ unwrap_or o []) at)
    c.steps.invariant
    c.truncate.new.self.items (c.truncate.ensures.items ∙ ap (λ n. take n c.gather_all.new.points.items) long) c.if-not-branch.true).0

pub gather_all_over-returns-else-not-branch-clause-found : goal.gather_all_over-returns-else-not-branch-clause-found
gather_all_over-returns-else-not-branch-clause-found g t c =
    let w = world_of c.args.setting.now in
    let faults = set_of c.args.run.now in
    let S = λ (t : ℕ). all_of (map (evidence_at w faults (later c.args.offset t)) c.args.parts.now) in
    let at = ap (λ (k : ℕ). all_of (map (evidence_at w faults k) c.args.parts.now)) c.later.ensures in
    (steps-gathered-end S c.args.first c.args.last c.steps.step (omega arith) c.args.points.now.items c.steps.points.items c.gather_all.new.points.items
    (omega arith) c.in_ok-gather_all.field-0
    (c.in_ok-gather_all.ensures.found ∙ ap is_some at) (c.in_ok-gather_all.ensures.points ∙ ap (λ o. c.steps.points.items ++ unwrap_or o []) at)
    c.steps.invariant
    (omega arith) c.if-not-branch.false).0

pub gather_all_over-returns-clause-found : goal.gather_all_over-returns-clause-found
gather_all_over-returns-clause-found g t c =
    let w = world_of c.args.setting.now in
    let faults = set_of c.args.run.now in
    let S = λ (t : ℕ). all_of (map (evidence_at w faults (later c.args.offset t)) c.args.parts.now) in
    (steps-gathered-all S c.args.first c.args.last c.steps.step (omega arith) c.args.points.now.items c.steps.points.items (omega arith) c.steps.invariant).0

pub gather_all_over-returns-then-not-branch-clause-points : goal.gather_all_over-returns-then-not-branch-clause-points
gather_all_over-returns-then-not-branch-clause-points g t c =
    let w = world_of c.args.setting.now in
    let faults = set_of c.args.run.now in
    let S = λ (t : ℕ). all_of (map (evidence_at w faults (later c.args.offset t)) c.args.parts.now) in
    let at = ap (λ (k : ℕ). all_of (map (evidence_at w faults k) c.args.parts.now)) c.later.ensures in
    let long : c.len-before.result ≡ length c.args.points.now.items = grind arith in
    (steps-missing S c.args.first c.args.last c.steps.step (omega arith) c.args.points.now.items c.steps.points.items c.gather_all.new.points.items
    (omega arith) c.in_ok-gather_all.field-0
    (c.in_ok-gather_all.ensures.found ∙ ap is_some at) (c.in_ok-gather_all.ensures.points ∙ ap (λ o. c.steps.points.items ++ unwrap_or o []) at)
    c.steps.invariant
    c.truncate.new.self.items (c.truncate.ensures.items ∙ ap (λ n. take n c.gather_all.new.points.items) long) c.if-not-branch.true).1

pub gather_all_over-returns-else-not-branch-clause-points : goal.gather_all_over-returns-else-not-branch-clause-points
gather_all_over-returns-else-not-branch-clause-points g t c =
    let w = world_of c.args.setting.now in
    let faults = set_of c.args.run.now in
    let S = λ (t : ℕ). all_of (map (evidence_at w faults (later c.args.offset t)) c.args.parts.now) in
    let at = ap (λ (k : ℕ). all_of (map (evidence_at w faults k) c.args.parts.now)) c.later.ensures in
    (steps-gathered-end S c.args.first c.args.last c.steps.step (omega arith) c.args.points.now.items c.steps.points.items c.gather_all.new.points.items
    (omega arith) c.in_ok-gather_all.field-0
    (c.in_ok-gather_all.ensures.found ∙ ap is_some at) (c.in_ok-gather_all.ensures.points ∙ ap (λ o. c.steps.points.items ++ unwrap_or o []) at)
    c.steps.invariant
    (omega arith) c.if-not-branch.false).1

pub gather_all_over-returns-clause-points : goal.gather_all_over-returns-clause-points
gather_all_over-returns-clause-points g t c =
    let w = world_of c.args.setting.now in
    let faults = set_of c.args.run.now in
    let S = λ (t : ℕ). all_of (map (evidence_at w faults (later c.args.offset t)) c.args.parts.now) in
    (steps-gathered-all S c.args.first c.args.last c.steps.step (omega arith) c.args.points.now.items c.steps.points.items (omega arith) c.steps.invariant).1

pub gather_first_over-steps-init : goal.gather_first_over-steps-init
gather_first_over-steps-init g t c =
    let w = world_of c.args.setting.now in
    let faults = set_of c.args.run.now in
    let S = λ (t : ℕ). first_of (map (evidence_at w faults (later c.args.offset t)) c.args.parts.now) in
    steps-passed-none S c.args.first c.args.last c.args.points.now.items

pub gather_first_over-steps-preserved : goal.gather_first_over-steps-preserved
gather_first_over-steps-preserved g t c =
    let w = world_of c.args.setting.now in
    let faults = set_of c.args.run.now in
    let S = λ (t : ℕ). first_of (map (evidence_at w faults (later c.args.offset t)) c.args.parts.now) in
    let at = ap (λ (k : ℕ). first_of (map (evidence_at w faults k) c.args.parts.now)) c.later.ensures in
    steps-passed-more S c.args.first c.args.last c.steps.step (omega arith) c.args.points.now.items c.steps.points.items c.gather_first.new.points.items
    (omega arith) c.in_ok-gather_first.field-0
    (c.in_ok-gather_first.ensures.found ∙ ap is_some at) (c.in_ok-gather_first.ensures.points ∙ ap (λ o. c.steps.points.items ++ unwrap_or o []) at)
    c.steps.invariant
    c.if-branch.false

pub gather_first_over-returns-then-branch-clause-found : goal.gather_first_over-returns-then-branch-clause-found
gather_first_over-returns-then-branch-clause-found g t c =
    let w = world_of c.args.setting.now in
    let faults = set_of c.args.run.now in
    let S = λ (t : ℕ). first_of (map (evidence_at w faults (later c.args.offset t)) c.args.parts.now) in
    let at = ap (λ (k : ℕ). first_of (map (evidence_at w faults k) c.args.parts.now)) c.later.ensures in
    (steps-found S c.args.first c.args.last c.steps.step (omega arith) c.args.points.now.items c.steps.points.items c.gather_first.new.points.items
    (omega arith) c.in_ok-gather_first.field-0
    (c.in_ok-gather_first.ensures.found ∙ ap is_some at) (c.in_ok-gather_first.ensures.points ∙ ap (λ o. c.steps.points.items ++ unwrap_or o []) at)
    c.steps.invariant
    c.if-branch.true).0

pub gather_first_over-returns-else-branch-clause-found : goal.gather_first_over-returns-else-branch-clause-found
gather_first_over-returns-else-branch-clause-found g t c =
    let w = world_of c.args.setting.now in
    let faults = set_of c.args.run.now in
    let S = λ (t : ℕ). first_of (map (evidence_at w faults (later c.args.offset t)) c.args.parts.now) in
    let at = ap (λ (k : ℕ). first_of (map (evidence_at w faults k) c.args.parts.now)) c.later.ensures in
    (steps-passed-end S c.args.first c.args.last c.steps.step (omega arith) c.args.points.now.items c.steps.points.items c.gather_first.new.points.items
    (omega arith) c.in_ok-gather_first.field-0
    (c.in_ok-gather_first.ensures.found ∙ ap is_some at) (c.in_ok-gather_first.ensures.points ∙ ap (λ o. c.steps.points.items ++ unwrap_or o []) at)
    c.steps.invariant
    (omega arith) c.if-branch.false).0

pub gather_first_over-returns-clause-found : goal.gather_first_over-returns-clause-found
gather_first_over-returns-clause-found g t c =
    let w = world_of c.args.setting.now in
    let faults = set_of c.args.run.now in
    let S = λ (t : ℕ). first_of (map (evidence_at w faults (later c.args.offset t)) c.args.parts.now) in
    (steps-passed-all S c.args.first c.args.last c.steps.step (omega arith) c.args.points.now.items c.steps.points.items (omega arith) c.steps.invariant).0

pub gather_first_over-returns-then-branch-clause-points : goal.gather_first_over-returns-then-branch-clause-points
gather_first_over-returns-then-branch-clause-points g t c =
    let w = world_of c.args.setting.now in
    let faults = set_of c.args.run.now in
    let S = λ (t : ℕ). first_of (map (evidence_at w faults (later c.args.offset t)) c.args.parts.now) in
    let at = ap (λ (k : ℕ). first_of (map (evidence_at w faults k) c.args.parts.now)) c.later.ensures in
    (steps-found S c.args.first c.args.last c.steps.step (omega arith) c.args.points.now.items c.steps.points.items c.gather_first.new.points.items
    (omega arith) c.in_ok-gather_first.field-0
    (c.in_ok-gather_first.ensures.found ∙ ap is_some at) (c.in_ok-gather_first.ensures.points ∙ ap (λ o. c.steps.points.items ++ unwrap_or o []) at)
    c.steps.invariant
    c.if-branch.true).1

pub gather_first_over-returns-else-branch-clause-points : goal.gather_first_over-returns-else-branch-clause-points
gather_first_over-returns-else-branch-clause-points g t c =
    let w = world_of c.args.setting.now in
    let faults = set_of c.args.run.now in
    let S = λ (t : ℕ). first_of (map (evidence_at w faults (later c.args.offset t)) c.args.parts.now) in
    let at = ap (λ (k : ℕ). first_of (map (evidence_at w faults k) c.args.parts.now)) c.later.ensures in
    (steps-passed-end S c.args.first c.args.last c.steps.step (omega arith) c.args.points.now.items c.steps.points.items c.gather_first.new.points.items
    (omega arith) c.in_ok-gather_first.field-0
    (c.in_ok-gather_first.ensures.found ∙ ap is_some at) (c.in_ok-gather_first.ensures.points ∙ ap (λ o. c.steps.points.items ++ unwrap_or o []) at)
    c.steps.invariant
    (omega arith) c.if-branch.false).1

pub gather_first_over-returns-clause-points : goal.gather_first_over-returns-clause-points
gather_first_over-returns-clause-points g t c =
    let w = world_of c.args.setting.now in
    let faults = set_of c.args.run.now in
    let S = λ (t : ℕ). first_of (map (evidence_at w faults (later c.args.offset t)) c.args.parts.now) in
    (steps-passed-all S c.args.first c.args.last c.steps.step (omega arith) c.args.points.now.items c.steps.points.items (omega arith) c.steps.invariant).1

pub gather-returns-in-All-clause-points : goal.gather-returns-in-All-clause-points
gather-returns-in-All-clause-points g t c =
    let w = world_of c.args.setting.now in
    let faults = set_of c.args.run.now in
    subst (λ o. OnOk c.gather_all.result (c.gather_all.new.points.items ≡ c.args.points.now.items ++ unwrap_or o []))
    (rests_on-from_all (is_down w faults) (is_shown w faults) (is_single w faults) c.args.formula.now c.in-All.parts c.as_slice.result.now c.args.offset
    c.in-All.is c.as_slice.ensures)
    c.gather_all.ensures.points

pub gather-returns-in_ok-push_up-in-One-clause-found : goal.gather-returns-in_ok-push_up-in-One-clause-found
gather-returns-in_ok-push_up-in-One-clause-found g t c =
    let w = world_of c.args.setting.now in
    let faults = set_of c.args.run.now in
    found-one (is_down w faults) (is_shown w faults) (is_single w faults) (unfold_at c.args.formula.now c.args.offset) c.in-One.nodes c.in-One.last
    c.in-One.topic c.is_single-single.result
    (is-one c.args.formula.now c.in-One.nodes c.in-One.last c.in-One.topic c.args.offset c.in-One.is) c.is_single-single.ensures

pub gather-returns-else-single-clause-found : goal.gather-returns-else-single-clause-found
gather-returns-else-single-clause-found g t c =
    let w = world_of c.args.setting.now in
    let faults = set_of c.args.run.now in
    found-one (is_down w faults) (is_shown w faults) (is_single w faults) (unfold_at c.args.formula.now c.args.offset) c.in-One.nodes c.in-One.last
    c.in-One.topic c.is_single-single.result
    (is-one c.args.formula.now c.in-One.nodes c.in-One.last c.in-One.topic c.args.offset c.in-One.is) c.is_single-single.ensures
