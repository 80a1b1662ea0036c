use Rattle.std.proofs.Common.{◌≡◌, ◌++◌, sym, ap, ◌∙◌}
use Rattle.lf_parts.proofs.LeafLemmas.{leaves-seen}
use Rattle.lf_parts.proofs.asking.+put_leaves.Goals as goal

pub returns-in-None : goal.returns-in-None
returns-in-None t c =
    let gives : c.into_iter-part-iterator.result.rest.items ≡ c.into_vec-part-items.result.items =
    c.into_iter-part-iterator.ensures.into_iter_gives.0 in
    c.parts.invariant.0
    ∙ ap (λ xs. c.args.taken.now.items ++ xs)
    (leaves-seen c.args.promise c.in-All.parts c.parts.yielded c.parts.part-iterator.rest.items c.in-All.is
    (c.parts.invariant.1 ∙ gives ∙ c.into_vec-part-items.ensures) (sym c.parts.part-iterator.rest.ok.0 ∙ c.in-None.ensures.steps.0))
