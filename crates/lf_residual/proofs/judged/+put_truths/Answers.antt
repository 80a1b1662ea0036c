use Rattle.std.proofs.Common.{◌≡◌, ◌++◌, [], ◌∷◌, List, Bool, take, sym, ap, subst, ◌∙◌, ◌+◌, ◌≤◌, inl, inr, arith}
use Rattle.std.specs.Prelude.{OnOk}
use Rattle.std.specs.List.{flat_map}
use Rattle.std.proofs.lemmas.List.{append-nil, append_assoc, flat_map_more, take_all, take_more}
use Rattle.lf_sim.specs.Settings.{set_of, world_of}
use Rattle.lf_outcome.proofs.Laws.{unfolded-plain}
use Rattle.lf_residual.specs.Judging.{said, truths_of}
use Rattle.lf_residual.specs.declared.part.Part.{Part}
use Rattle.lf_residual.specs.Parts.{all_parts, part_of, size_of}
use Rattle.lf_residual.proofs.OutlineLemmas.{part-from}
use Rattle.lf_residual.proofs.JudgedLemmas.{one-plain, plain-from_all, plain-from_any, sizes-part, truths-from_all, truths-from_any, truths-from_shows}
use Rattle.lf_residual.proofs.judged.+put_truths.Goals as goal

pub put_each-parts-preserved : goal.put_each-parts-preserved
put_each-parts-preserved t c =
    let truths = truths_of (world_of c.args.setting.now) (set_of c.args.run.now) in
    let old : List Bool = c.args.truths.now.items in
    let parts = c.args.parts.now in
    let part = c.part-item.result in
    let l = c.parts in
    c.in_ok-put_truths.ensures ∙ ap (λ bs. bs ++ truths part) l.invariant ∙ flat_map_more truths old (take l.part-index parts) part
    ∙ ap (λ xs. old ++ flat_map truths xs)
    (sym (take_more parts l.part-index part c.parts-test.true ∙ ap (λ x. take l.part-index parts ++ x ∷ []) (sym c.part-item.is)))

pub put_each-returns : goal.put_each-returns
put_each-returns t c =
    c.parts.invariant
    ∙ ap (λ xs. c.args.truths.now.items ++ flat_map (truths_of (world_of c.args.setting.now) (set_of c.args.run.now)) xs)
    (take_all c.parts.part-index c.args.parts.now c.parts-test.false)

pub put_each-parts-init : goal.put_each-parts-init
put_each-parts-init t c = let old : List Bool = c.args.truths.now.items in sym (append-nil old)

pub put_truths-returns-in-All : goal.put_truths-returns-in-All
put_truths-returns-in-All t c =
    let w = world_of c.args.setting.now in
    let faults = set_of c.args.run.now in
    let f = c.args.formula.now in
    let xs = c.as_slice.result.now in
    let flat : List Bool = flat_map (truths_of w faults) xs in
    let old : List Bool = c.args.truths.now.items in
    let is = truths-from_all w faults f c.in-All.parts xs c.in-All.is c.as_slice.ensures in
    subst (λ bs. OnOk c.put_each.result (c.put_each.new.truths.items ≡ bs))
    (ap (λ bs. bs ++ flat) (c.in_ok-push.ensures.items ∙ ap (λ b. old ++ b ∷ []) (c.holds.ensures ∙ ap (said w faults) (unfolded-plain f c.requires.plain)))
    ∙ append_assoc old (said w faults f ∷ []) flat
    ∙ ap (λ bs. old ++ bs) (sym is)) c.put_each.ensures

pub put_truths-returns-in-Any : goal.put_truths-returns-in-Any
put_truths-returns-in-Any t c =
    let w = world_of c.args.setting.now in
    let faults = set_of c.args.run.now in
    let f = c.args.formula.now in
    let xs = c.as_slice-in-Any.result.now in
    let flat : List Bool = flat_map (truths_of w faults) xs in
    let old : List Bool = c.args.truths.now.items in
    let is = truths-from_any w faults f c.in-Any.parts xs c.in-Any.is c.as_slice-in-Any.ensures in
    subst (λ bs. OnOk c.put_each-in-Any.result (c.put_each-in-Any.new.truths.items ≡ bs))
    (ap (λ bs. bs ++ flat) (c.in_ok-push.ensures.items ∙ ap (λ b. old ++ b ∷ []) (c.holds.ensures ∙ ap (said w faults) (unfolded-plain f c.requires.plain)))
    ∙ append_assoc old (said w faults f ∷ []) flat
    ∙ ap (λ bs. old ++ bs) (sym is)) c.put_each-in-Any.ensures

pub put_truths-put_each-requires : goal.put_truths-put_each-requires
put_truths-put_each-requires t c =
    let f = c.args.formula.now in
    let xs = c.as_slice.result.now in
    let size : (all_parts part_of xs).size + 1 ≡ size_of f =
    ap (λ (p : Part). p.size) (part-from f c.in-All.parts xs (inl c.in-All.is) c.as_slice.ensures) in (
      omega (arith, size),
      (c.requires.run, plain-from_all f c.in-All.parts xs c.in-All.is c.as_slice.ensures c.requires.plain),
    )

pub put_truths-put_each-requires-in-Any : goal.put_truths-put_each-requires-in-Any
put_truths-put_each-requires-in-Any t c =
    let f = c.args.formula.now in
    let xs = c.as_slice-in-Any.result.now in
    let size : (all_parts part_of xs).size + 1 ≡ size_of f =
    ap (λ (p : Part). p.size) (part-from f c.in-Any.parts xs (inr c.in-Any.is) c.as_slice-in-Any.ensures) in (
      omega (arith, size),
      (c.requires.run, plain-from_any f c.in-Any.parts xs c.in-Any.is c.as_slice-in-Any.ensures c.requires.plain),
    )

pub put_each-put_truths-requires : goal.put_each-put_truths-requires
put_each-put_truths-requires t c =
    let parts = c.args.parts.now in
    let part = c.part-item.result in
    let l = c.parts in
    let small : size_of part ≤ (all_parts part_of parts).size =
    subst (λ x. size_of x ≤ (all_parts part_of parts).size) (sym c.part-item.is) (sizes-part parts l.part-index part c.parts-test.true) in (
      omega (arith, small),
      (c.requires.run, one-plain parts l.part-index part c.requires.plain c.parts-test.true c.part-item.is),
    )

pub put_truths-returns-in-Shows : goal.put_truths-returns-in-Shows
put_truths-returns-in-Shows t c =
    let w = world_of c.args.setting.now in
    let faults = set_of c.args.run.now in
    let f = c.args.formula.now in
    let old : List Bool = c.args.truths.now.items in
    c.in_ok-push.ensures.items
    ∙ ap (λ b. old ++ b ∷ []) (c.holds.ensures ∙ ap (said w faults) (unfolded-plain f c.requires.plain))
    ∙ ap (λ bs. old ++ bs) (sym (truths-from_shows w faults f c.in-Shows.node c.in-Shows.step c.in-Shows.fact c.in-Shows.is))
