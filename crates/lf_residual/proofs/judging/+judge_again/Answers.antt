use Rattle.std.proofs.Common.{◌≡◌, ◌+◌, ◌≤◌, ◌&&◌, ◌||◌, Bool, true, false, List, refl, sym, ap, subst, ◌∙◌, inl, inr, arith, set}
use Rattle.std.specs.List.{list_all, list_any}
use Rattle.lf_outcome.specs.declared.formula.Formula.{Formula}
use Rattle.lf_protocols.specs.declared.fact.Fact.{Fact}
use Rattle.lf_sim.specs.Settings.{set_of, world_of}
use Rattle.lf_residual.specs.declared.part.Part.{Part}
use Rattle.lf_residual.specs.Parts.{IsWithin, all_parts, part_of, size_of}
use Rattle.lf_residual.specs.Judging.{said, truths_of}
use Rattle.lf_residual.proofs.Formulas.{part-Down, part-Shows}
use Rattle.lf_residual.proofs.JudgedLemmas.{Judges, SoFar, all-more, any-more, judges-apart, judges-atom, judges-node, next-at, one-further}
use Rattle.lf_residual.proofs.JudgedLemmas.{own-down, own-one, own-shows, said-from_over, truths-from_over}
use Rattle.lf_residual.proofs.JudgedLemmas.{said-from_all, said-from_any, sizes-part, so_far-all, so_far-none}
use Rattle.lf_residual.proofs.JudgedLemmas.{truths-from_all, truths-from_any, truths-from_down, truths-from_one, truths-from_shows}
use Rattle.lf_residual.proofs.OutlineLemmas.{part-from}
use Rattle.lf_residual.proofs.Places.{is-at, inner-at}
use Rattle.lf_residual.proofs.judging.+judge_again.Goals as goal
use Rattle.lf_residual.proofs.judging.+judge_again.Goals.{judge_all-then-all, judge_all-else-all, judge_any-then-any, judge_any-else-any}
use Rattle.lf_residual.proofs.judging.+judge_again.Goals.{judge_touched-in-All, judge_touched-in-Any, judge_touched-in-Down}
use Rattle.lf_residual.proofs.judging.+judge_again.Goals.{judge_touched-in-Shows, judge_touched-in-One, judge_touched-in-Over}

pub judge_again-returns-else-touches : goal.judge_again-returns-else-touches
judge_again-returns-else-touches t c =
    let change = c.args.change.now in
    let f = c.args.formula.now in
    let at = is-at f c.args.at change.parts.now c.requires.parts in
    judges-apart (world_of change.setting.now) (set_of change.run.now) change.changed.now.points f c.args.at _ false c.args.truths.now
    (λ n u node within. c.touches.ensures c.if-touches.false n u node (subst (λ (p : Part). IsWithin p.scope n u) (sym (at.is _)) within)) refl

pub judge_all-parts-init : goal.judge_all-parts-init
judge_all-parts-init t c =
    let change = c.args.change.now in
    let w = world_of change.setting.now in
    let to = set_of change.run.now in
    so_far-none w to change.changed.now.points (list_all (said w to)) change.parts.now c.args.parts.now c.args.first c.args.truths.now true refl
    c.requires.parts

pub judge_all-judge_again-truth-requires : goal.judge_all-judge_again-truth-requires
judge_all-judge_again-truth-requires t c =
    let change = c.args.change.now in
    let w = world_of change.setting.now in
    let to = set_of change.run.now in
    let parts = c.args.parts.now in
    let part = c.part-item.result in
    let l = c.parts in
    let small : size_of part ≤ (all_parts part_of parts).size =
    subst (λ x. size_of x ≤ (all_parts part_of parts).size) (sym c.part-item.is) (sizes-part parts l.part-index part c.parts-test.true) in
    let count = l.invariant.count in
    let long = c.requires.truths in (
      omega (arith, small),
      (
        next-at w to change.changed.now.points (list_all (said w to)) change.parts.now parts c.args.first c.args.truths.now l.part-index l.at l.all
            l.truths part c.parts-test.true c.part-item.is l.invariant,
        omega (arith, count, long),
      ),
    )

pub judge_all-size_at-at-requires : goal.judge_all-size_at-at-requires
judge_all-size_at-at-requires t c =
    let change = c.args.change.now in
    let w = world_of change.setting.now in
    let to = set_of change.run.now in
    let part = c.part-item.result in
    let l = c.parts in
    (is-at part l.at change.parts.now (next-at w to change.changed.now.points (list_all (said w to)) change.parts.now c.args.parts.now c.args.first
    c.args.truths.now l.part-index l.at l.all l.truths part c.parts-test.true c.part-item.is l.invariant)).there

pub judge_all-overflow_add-at : goal.judge_all-overflow_add-at
judge_all-overflow_add-at t c =
    let change = c.args.change.now in
    let w = world_of change.setting.now in
    let to = set_of change.run.now in
    let part = c.part-item.result in
    let l = c.parts in
    let at = is-at part l.at change.parts.now (next-at w to change.changed.now.points (list_all (said w to)) change.parts.now c.args.parts.now
    c.args.first c.args.truths.now l.part-index l.at l.all l.truths part c.parts-test.true c.part-item.is l.invariant) in
    let own : c.size_at-at.result ≡ size_of part = c.size_at-at.ensures (part_of part) ∙ ap (λ (p : Part). p.size) (at.is (part_of part)) in
    let fits = at.fits in
    omega arith

pub judge_all-parts-preserved : goal.judge_all-parts-preserved
judge_all-parts-preserved t c =
    let change = c.args.change.now in
    let w = world_of change.setting.now in
    let to = set_of change.run.now in
    let ps = change.parts.now in
    let parts = c.args.parts.now in
    let old = c.args.truths.now in
    let part = c.part-item.result in
    let l = c.parts in
    let one = c.judge_again-truth.result in
    let fold : List (Formula Fact) → Bool = list_all (said w to) in
    let at = is-at part l.at ps (next-at w to change.changed.now.points fold ps parts c.args.first old l.part-index l.at l.all l.truths part
    c.parts-test.true c.part-item.is l.invariant) in
    let own : size_of part ≡ c.size_at-at.result = sym (c.size_at-at.ensures (part_of part) ∙ ap (λ (p : Part). p.size) (at.is (part_of part))) in
    let both : c.if-all.all ≡ (l.all && one) = elim c.if-all.branch [
      | judge_all-then-all x ↦ x.all-is ∙ sym (ap (λ b. b && one) x.if-all.true)
      | judge_all-else-all x ↦ x.all-is ∙ x.if-all.false ∙ sym (ap (λ b. b && one) x.if-all.false)
    ] in
    subst (λ n. SoFar w to change.changed.now.points fold ps parts c.args.first old (l.part-index + 1) (l.at + n) c.if-all.all c.judge_again-truth.new.truths)
    own
    (one-further w to change.changed.now.points fold ps parts c.args.first old l.part-index l.at l.all l.truths part c.parts-test.true c.part-item.is
    l.invariant one c.if-all.all c.judge_again-truth.new.truths c.judge_again-truth.ensures c.judge_again-truth.auto.truths
    (λ so is. both ∙ all-more w to change.changed.now.points parts l.part-index part l.all one c.parts-test.true c.part-item.is so is))

pub judge_all-returns : goal.judge_all-returns
judge_all-returns t c =
    let change = c.args.change.now in
    let w = world_of change.setting.now in
    let to = set_of change.run.now in
    so_far-all w to change.changed.now.points (list_all (said w to)) change.parts.now c.args.parts.now c.args.first c.args.truths.now
    c.parts.part-index c.parts.at c.parts.all c.parts.truths c.parts-test.false c.parts.invariant

pub judge_any-parts-init : goal.judge_any-parts-init
judge_any-parts-init t c =
    let change = c.args.change.now in
    let w = world_of change.setting.now in
    let to = set_of change.run.now in
    so_far-none w to change.changed.now.points (list_any (said w to)) change.parts.now c.args.parts.now c.args.first c.args.truths.now false refl
    c.requires.parts

pub judge_any-judge_again-truth-requires : goal.judge_any-judge_again-truth-requires
judge_any-judge_again-truth-requires t c =
    let change = c.args.change.now in
    let w = world_of change.setting.now in
    let to = set_of change.run.now in
    let parts = c.args.parts.now in
    let part = c.part-item.result in
    let l = c.parts in
    let small : size_of part ≤ (all_parts part_of parts).size =
    subst (λ x. size_of x ≤ (all_parts part_of parts).size) (sym c.part-item.is) (sizes-part parts l.part-index part c.parts-test.true) in
    let count = l.invariant.count in
    let long = c.requires.truths in (
      omega (arith, small),
      (
        next-at w to change.changed.now.points (list_any (said w to)) change.parts.now parts c.args.first c.args.truths.now l.part-index l.at l.any
            l.truths part c.parts-test.true c.part-item.is l.invariant,
        omega (arith, count, long),
      ),
    )

pub judge_any-size_at-at-requires : goal.judge_any-size_at-at-requires
judge_any-size_at-at-requires t c =
    let change = c.args.change.now in
    let w = world_of change.setting.now in
    let to = set_of change.run.now in
    let part = c.part-item.result in
    let l = c.parts in
    (is-at part l.at change.parts.now (next-at w to change.changed.now.points (list_any (said w to)) change.parts.now c.args.parts.now c.args.first
    c.args.truths.now l.part-index l.at l.any l.truths part c.parts-test.true c.part-item.is l.invariant)).there

pub judge_any-overflow_add-at : goal.judge_any-overflow_add-at
judge_any-overflow_add-at t c =
    let change = c.args.change.now in
    let w = world_of change.setting.now in
    let to = set_of change.run.now in
    let part = c.part-item.result in
    let l = c.parts in
    let at = is-at part l.at change.parts.now (next-at w to change.changed.now.points (list_any (said w to)) change.parts.now c.args.parts.now
    c.args.first c.args.truths.now l.part-index l.at l.any l.truths part c.parts-test.true c.part-item.is l.invariant) in
    let own : c.size_at-at.result ≡ size_of part = c.size_at-at.ensures (part_of part) ∙ ap (λ (p : Part). p.size) (at.is (part_of part)) in
    let fits = at.fits in
    omega arith

pub judge_any-parts-preserved : goal.judge_any-parts-preserved
judge_any-parts-preserved t c =
    let change = c.args.change.now in
    let w = world_of change.setting.now in
    let to = set_of change.run.now in
    let ps = change.parts.now in
    let parts = c.args.parts.now in
    let old = c.args.truths.now in
    let part = c.part-item.result in
    let l = c.parts in
    let one = c.judge_again-truth.result in
    let fold : List (Formula Fact) → Bool = list_any (said w to) in
    let at = is-at part l.at ps (next-at w to change.changed.now.points fold ps parts c.args.first old l.part-index l.at l.any l.truths part
    c.parts-test.true c.part-item.is l.invariant) in
    let own : size_of part ≡ c.size_at-at.result = sym (c.size_at-at.ensures (part_of part) ∙ ap (λ (p : Part). p.size) (at.is (part_of part))) in
    let both : c.if-any.any ≡ (l.any || one) = elim c.if-any.branch [
      | judge_any-then-any x ↦ x.any-is ∙ x.if-any.true ∙ sym (ap (λ b. b || one) x.if-any.true)
      | judge_any-else-any x ↦ x.any-is ∙ sym (ap (λ b. b || one) x.if-any.false)
    ] in
    subst (λ n. SoFar w to change.changed.now.points fold ps parts c.args.first old (l.part-index + 1) (l.at + n) c.if-any.any c.judge_again-truth.new.truths)
    own
    (one-further w to change.changed.now.points fold ps parts c.args.first old l.part-index l.at l.any l.truths part c.parts-test.true c.part-item.is
    l.invariant one c.if-any.any c.judge_again-truth.new.truths c.judge_again-truth.ensures c.judge_again-truth.auto.truths
    (λ so is. both ∙ any-more w to change.changed.now.points parts l.part-index part l.any one c.parts-test.true c.part-item.is so is))

pub judge_any-returns : goal.judge_any-returns
judge_any-returns t c =
    let change = c.args.change.now in
    let w = world_of change.setting.now in
    let to = set_of change.run.now in
    so_far-all w to change.changed.now.points (list_any (said w to)) change.parts.now c.args.parts.now c.args.first c.args.truths.now
    c.parts.part-index c.parts.at c.parts.any c.parts.truths c.parts-test.false c.parts.invariant

pub judge_touched-judge_all-truth-requires : goal.judge_touched-judge_all-truth-requires
judge_touched-judge_all-truth-requires t c =
    let f = c.args.formula.now in
    let ps = c.args.change.now.parts.now in
    let xs = c.as_slice.result.now in
    let size : (all_parts part_of xs).size + 1 ≡ size_of f =
    ap (λ (p : Part). p.size) (part-from f c.in-All.parts xs (inl c.in-All.is) c.as_slice.ensures) in (
      omega (arith, size),
      (inner-at f c.in-All.parts xs c.args.at ps (inl c.in-All.is) c.as_slice.ensures c.requires.parts, c.requires.truths),
    )

pub judge_touched-judge_any-truth-requires : goal.judge_touched-judge_any-truth-requires
judge_touched-judge_any-truth-requires t c =
    let f = c.args.formula.now in
    let ps = c.args.change.now.parts.now in
    let xs = c.as_slice-in-Any.result.now in
    let size : (all_parts part_of xs).size + 1 ≡ size_of f =
    ap (λ (p : Part). p.size) (part-from f c.in-Any.parts xs (inr c.in-Any.is) c.as_slice-in-Any.ensures) in (
      omega (arith, size),
      (inner-at f c.in-Any.parts xs c.args.at ps (inr c.in-Any.is) c.as_slice-in-Any.ensures c.requires.parts, c.requires.truths),
    )

pub judge_touched-overflow_add-at-in-Any : goal.judge_touched-overflow_add-at-in-Any
judge_touched-overflow_add-at-in-Any t c =
    let there = (is-at c.args.formula.now c.args.at c.args.change.now.parts.now c.requires.parts).there in omega arith

pub judge_touched-bounds-truths-at : goal.judge_touched-bounds-truths-at
judge_touched-bounds-truths-at t c =
    let there = (is-at c.args.formula.now c.args.at c.args.change.now.parts.now c.requires.parts).there in
    let long = c.requires.truths in
    omega (arith, there, long)

pub judge_touched-bounds-truths-at-in-Shows : goal.judge_touched-bounds-truths-at-in-Shows
judge_touched-bounds-truths-at-in-Shows t c =
    let there = (is-at c.args.formula.now c.args.at c.args.change.now.parts.now c.requires.parts).there in
    let long = c.requires.truths in
    omega (arith, there, long)

pub judge_touched-bounds-truths-at-2 : goal.judge_touched-bounds-truths-at-2
judge_touched-bounds-truths-at-2 t c =
    let there = (is-at c.args.formula.now c.args.at c.args.change.now.parts.now c.requires.parts).there in
    let long = c.requires.truths in
    let count = c.match-formula.auto.truths in
    omega (arith, there, long, count)

pub judge_touched-returns : goal.judge_touched-returns
judge_touched-returns t c =
    let change = c.args.change.now in
    let w = world_of change.setting.now in
    let to = set_of change.run.now in
    let marked = change.changed.now.points in
    let f = c.args.formula.now in
    let at = c.args.at in
    let old = c.args.truths.now in
    let m = c.match-formula in
    let Now : Bool → List Bool → Type 0 = λ b bs. Judges w to marked at b (said w to f) (λ faults. truths_of w faults f) old (set bs at b) in
    elim m.branch [
      | judge_touched-in-All x ↦
          let xs = x.as_slice.result.now in
          let new = x.judge_all-truth.new.truths in
          let b = x.judge_all-truth.result in
          subst (λ d. Now d m.truths) (sym x.truth-is) (subst (Now b) (sym x.truths-is)
          (judges-node w to marked f xs at b (list_all (said w to) xs) old new
          (λ faults. truths-from_all w faults f x.in-All.parts xs x.in-All.is x.as_slice.ensures)
          (said-from_all w to f x.in-All.parts xs x.in-All.is x.as_slice.ensures) x.judge_all-truth.ensures))
      | judge_touched-in-Any x ↦
          let xs = x.as_slice-in-Any.result.now in
          let new = x.judge_any-truth.new.truths in
          let b = x.judge_any-truth.result in
          subst (λ d. Now d m.truths) (sym x.truth-is) (subst (Now b) (sym x.truths-is)
          (judges-node w to marked f xs at b (list_any (said w to) xs) old new
          (λ faults. truths-from_any w faults f x.in-Any.parts xs x.in-Any.is x.as_slice-in-Any.ensures)
          (said-from_any w to f x.in-Any.parts xs x.in-Any.is x.as_slice-in-Any.ensures) x.judge_any-truth.ensures))
      | judge_touched-in-Down x ↦
          let b = x.judge_atom-truth.result in
          subst (λ d. Now d m.truths) (sym x.truth-is) (subst (Now b) (sym x.truths-is)
          (judges-atom w to marked f at b false old (λ faults. truths-from_down w faults f x.in-Down.node x.in-Down.step x.in-Down.is)
          x.judge_atom-truth.ensures))
      | judge_touched-in-Shows x ↦
          let b = x.judge_atom-truth-in-Shows.result in
          subst (λ d. Now d m.truths) (sym x.truth-is) (subst (Now b) (sym x.truths-is)
          (judges-atom w to marked f at b false old
          (λ faults. truths-from_shows w faults f x.in-Shows.node x.in-Shows.step x.in-Shows.fact x.in-Shows.is) x.judge_atom-truth-in-Shows.ensures))
      | judge_touched-in-One x ↦
          let b = x.holds-truth.result in
          subst (λ d. Now d m.truths) (sym x.truth-is) (subst (Now b) (sym x.truths-is)
          (judges-atom w to marked f at b false old
          (λ faults. truths-from_one w faults f x.in-One.nodes x.in-One.last x.in-One.topic x.in-One.is) (λ from same was.
          x.holds-truth.ensures ∙ ap (said w to) (own-one f x.in-One.nodes x.in-One.last x.in-One.topic x.in-One.is))))
      | judge_touched-in-Over x ↦
          subst (λ d. Now d m.truths) (sym x.truth-is) (subst (Now false) (sym x.truths-is)
          (judges-atom w to marked f at false false old
          (λ faults. truths-from_over w faults f x.in-Over.every x.in-Over.first x.in-Over.last x.in-Over.parts x.in-Over.is)
          (λ from same was. sym (said-from_over w to f x.in-Over.every x.in-Over.first x.in-Over.last x.in-Over.parts x.in-Over.is))))
    ]

pub judge_touched-judge_atom-truth-requires : goal.judge_touched-judge_atom-truth-requires
judge_touched-judge_atom-truth-requires t c = record {
  scope = ap (λ g. (part_of g).scope) c.in-Down.is ∙ ap (λ (p : Part). p.scope) (part-Down c.in-Down.node c.in-Down.step);
  plain = own-down c.args.formula.now c.in-Down.node c.in-Down.step c.in-Down.is;
}

pub judge_touched-judge_atom-truth-requires-in-Shows : goal.judge_touched-judge_atom-truth-requires-in-Shows
judge_touched-judge_atom-truth-requires-in-Shows t c = record {
  scope = ap (λ g. (part_of g).scope) c.in-Shows.is ∙ ap (λ (p : Part). p.scope) (part-Shows c.in-Shows.node c.in-Shows.step c.in-Shows.fact);
  plain = own-shows c.args.formula.now c.in-Shows.node c.in-Shows.step c.in-Shows.fact c.in-Shows.is;
}
