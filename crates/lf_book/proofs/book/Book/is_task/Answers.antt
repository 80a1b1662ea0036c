use Rattle.std.proofs.Common.{◌≡◌, ◌≤◌, ◌∙◌, refl, sym, ap, length, arith, take, ◌++◌, ◌+◌, List}
use Rattle.std.proofs.lemmas.List.{length-take}
use Rattle.std.proofs.lemmas.Bool.{both_ways}
use Rattle.lf_faults.specs.declared.fault.Parts.{Parts}
use Rattle.lf_marks.specs.Marks.{mark_at}
use Rattle.lf_book.proofs.TaskLemmas.{goes-on, taken-more, ends-as, other-excluded, ends-in, rest_whole}
use Rattle.lf_book.proofs.book.Book.is_task.Goals as goal

pub path-init : goal.path-init
path-init c = (omega arith, rw c.empty-found.ensures refl)

pub step-larger-requires-clause-leads : goal.step-larger-requires-clause-leads
step-larger-requires-clause-leads c = (take c.path.at c.args.excluded.now, c.path.invariant.1)

pub returns-then-not-begins_with : goal.returns-then-not-begins_with
returns-then-not-begins_with c =
    let excluded = c.args.excluded.now in
    let at = c.path.at in (
      λ h. absurd cc,
      λ h.
          let found = goes-on (mark_at c.args.self.now.marks) c.args.path.now (c.path.depth + 1) at c.step-larger.result.1 c.args.set.now
          c.step-larger.result.0.now excluded (c.step-larger.ensures (take at excluded) c.path.invariant.1) h in
          absurd (both_ways c.begins_with.result c.if-not-begins_with.true (c.begins_with.ensures.1 (found.0, rest_whole at excluded ∙ found.1))),
    )

pub overflow_add-at : goal.overflow_add-at
overflow_add-at c =
    let excluded = c.args.excluded.now in
    let begun = c.begins_with.ensures.0 c.if-not-begins_with.false in
    let more = taken-more c.path.at excluded c.step-larger.result.0.now begun.0 c.path.invariant.0 (sym (rest_whole c.path.at excluded) ∙ begun.1) in
    omega (arith, more.0)

pub path-preserved : goal.path-preserved
path-preserved c =
    let excluded = c.args.excluded.now in
    let at = c.path.at in
    let begun = c.begins_with.ensures.0 c.if-not-begins_with.false in
    let more = taken-more at excluded c.step-larger.result.0.now begun.0 c.path.invariant.0 (sym (rest_whole c.path.at excluded) ∙ begun.1) in (
      more.0,
      other-excluded (mark_at c.args.self.now.marks) (take (c.path.depth + 1) c.args.path.now) c.step-larger.result.1
          (take at excluded ++ c.step-larger.result.0.now) (take (at + length c.step-larger.result.0.now) excluded) more.1
          (c.step-larger.ensures (take at excluded) c.path.invariant.1),
    )

pub returns-then-at-excluded : goal.returns-then-at-excluded
returns-then-at-excluded c =
    let excluded = c.args.excluded.now in
    let end : c.path.depth ≡ length c.args.path.now = omega (arith, c.path-test.false) in (
      λ h. absurd cc,
      λ h.
          let same = (ends-as (mark_at c.args.self.now.marks) c.args.path.now c.path.depth c.path.at c.path.found c.args.set.now excluded end
          c.path.invariant.1 h).1 in
          absurd (omega (arith, ap (λ (xs : List Parts). length xs) same, length-take c.path.at excluded, c.if-at-excluded.true, c.path.invariant.0)),
    )

pub returns : goal.returns
returns c =
    let excluded = c.args.excluded.now in
    let at = mark_at c.args.self.now.marks in
    let path = c.args.path.now in
    let set = c.args.set.now in
    let end : c.path.depth ≡ length path = omega (arith, c.path-test.false) in
    let all : length excluded ≤ c.path.at = omega (arith, c.if-at-excluded.false) in (
      λ h. ends-in at path c.path.depth c.path.at c.path.found set excluded end all c.path.invariant.1
          (sym c.items.ensures.value ∙ c.are_same.ensures.0 h ∙ c.items-2.ensures.value),
      λ h. c.are_same.ensures.1 (c.items.ensures.value
          ∙ (ends-as at path c.path.depth c.path.at c.path.found set excluded end c.path.invariant.1 h).0 ∙ sym c.items-2.ensures.value),
    )
