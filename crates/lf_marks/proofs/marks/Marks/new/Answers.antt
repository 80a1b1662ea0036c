use Rattle.std.proofs.Common.{◌∙◌, ◌++◌, ap, arith, refl, sym, subst, List, [], ◌∷◌}
use Rattle.lf_marks.specs.Building.{AreBare}
use Rattle.lf_marks.specs.declared.set.Set.{Set}
use Rattle.lf_marks.specs.declared.set.State.TheVariants as state
use Rattle.lf_marks.proofs.BareLemmas.{bare-none, bare-pushed}
use Rattle.lf_marks.proofs.StateLemmas.{state-new, marks-new}
use Rattle.lf_marks.proofs.marks.Marks.new.Goals as goal

pub invariant_of-result : goal.invariant_of-result
invariant_of-result c =
    let root : Set = record { parent = 0; kid = 0; depth = 0; state = state.Open } in
    let sets = c.in_ok-push.ensures.items ∙ ap (λ (xs : List Set). xs ++ root ∷ []) c.in_ok-sets.ensures.items in
    let opened = c.in_ok-push-2.ensures.items ∙ ap (λ xs. xs ++ 0 ∷ []) c.in_ok-opened.ensures.items in record {
      state = rw (c.new.ensures.items, c.new-2.ensures.items, c.new-3.ensures) (state-new c.push.new.self.items c.push-2.new.self.items sets opened);
      bare = subst AreBare (sym sets) (bare-pushed [] root refl bare-none);
      coming_room = rw (c.new-2.ensures.items, c.new-3.ensures) (omega arith);
      opened_room = rw (opened, c.new-3.ensures) (omega (arith, c.in_ok-opened.ensures.exact, c.push-2.ensures.capacity));
    }

pub returns-clause-root : goal.returns-clause-root
returns-clause-root c =
    let root : Set = record { parent = 0; kid = 0; depth = 0; state = state.Open } in
    marks-new c.push.new.self.items (c.in_ok-push.ensures.items ∙ ap (λ (xs : List Set). xs ++ root ∷ []) c.in_ok-sets.ensures.items)
