use Rattle.std.proofs.Common.{◌*◌, ℕ, List, ap, map, min, sum, sym, ◌∙◌}
use Rattle.lf_outcome.specs.Measures.{atoms_of}
use Rattle.lf_promises.specs.declared.promise.Promise.{Promise}
use Rattle.lf_own_scenario.specs.Sizes.{atoms_of_many}
use Rattle.lf_own_scenario.specs.Unfolding.{formula_at}
use Rattle.lf_own_scenario.proofs.SizeLemmas.{atoms-at, atoms-always, atoms-nodes, atoms-single, times-min}
use Rattle.lf_own_scenario.proofs.sizes.+counts.Goals as goal

pub atoms-returns-in-Nodes : goal.atoms-returns-in-Nodes
atoms-returns-in-Nodes t c =
    let s = c.args.scene.now in
    c.atoms_of_many.ensures ∙ ap (λ (k : ℕ). min (atoms_of_many c.in-Nodes.many k) 4294967295) c.count_members.ensures
    ∙ ap (λ (k : ℕ). min k 4294967295)
    (sym (ap (λ (p : Promise). atoms_of (formula_at s 0 p 0)) c.in-Nodes.is ∙ atoms-nodes s c.in-Nodes.many c.in-Nodes.fact c.in-Nodes.of))

pub atoms-returns-in-Down : goal.atoms-returns-in-Down
atoms-returns-in-Down t c = atoms-single c.args.scene.now c.args.promise.now c.in-Down.is

pub atoms-returns-in-Down-2 : goal.atoms-returns-in-Down-2
atoms-returns-in-Down-2 t c = atoms-single c.args.scene.now c.args.promise.now c.in-Down.is

pub atoms-returns-in-Down-3 : goal.atoms-returns-in-Down-3
atoms-returns-in-Down-3 t c = atoms-single c.args.scene.now c.args.promise.now c.in-Down.is

pub atoms-returns-in-Always : goal.atoms-returns-in-Always
atoms-returns-in-Always t c =
    let s = c.args.scene.now in
    let counts = λ (ps : List Promise). sum (map (λ part. atoms_of (formula_at s 0 part 0)) ps) in
    c.saturating_mul.ensures ∙ ap (λ (k : ℕ). min (s.horizon * k) 4294967295) c.atoms_of_parts-at_each_step.ensures
    ∙ ap (λ (ps : List Promise). min (s.horizon * min (counts ps) 4294967295) 4294967295) c.as_slice.ensures
    ∙ times-min s.horizon (counts c.in-Always.parts) 4294967295
    ∙ ap (λ (k : ℕ). min k 4294967295) (sym (atoms-always s c.args.promise.now c.in-Always.parts c.in-Always.is))

pub atoms-returns-in-All : goal.atoms-returns-in-All
atoms-returns-in-All t c =
    let s = c.args.scene.now in
    c.atoms_of_parts.ensures
    ∙ ap (λ (ps : List Promise). min (sum (map (λ part. atoms_of (formula_at s 0 part 0)) ps)) 4294967295) c.as_slice-in-All.ensures
    ∙ ap (λ (k : ℕ). min k 4294967295) (sym (atoms-at s c.args.promise.now c.in-All.parts c.in-All.is))
