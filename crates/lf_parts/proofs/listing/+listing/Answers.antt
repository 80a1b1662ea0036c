use Rattle.std.proofs.Common.{◌≡◌, ◌++◌, List, IfOk, count_by, sym, ap, subst, ◌∙◌}
use Rattle.std.specs.List.{flat_map}
use Rattle.lf_parts.specs.declared.leaf.Leaf.{Leaf}
use Rattle.lf_parts.specs.Leaves.{leaves}
use Rattle.lf_parts.specs.Parts.{is_one_value, parts_from}
use Rattle.lf_parts.proofs.LeafLemmas.{leaves-parts}
use Rattle.lf_parts.proofs.PartLemmas.{parts-on}
use Rattle.lf_parts.proofs.listing.+listing.Goals as goal

pub put_parts-returns-in-All : goal.put_parts-returns-in-All
put_parts-returns-in-All t c =
    subst (λ (xs : List Leaf). IfOk c.put_all.result
    (λ _. c.put_all.new.parts.items ≡ c.args.parts.now.items ++ parts_from (count_by is_one_value c.args.parts.now.items) xs))
    (ap (flat_map leaves) c.as_slice-in-All.ensures ∙ sym (leaves-parts c.args.promise.now c.in-All.inner c.in-All.is)) c.put_all.ensures

pub put_all-promises-preserved : goal.put_all-promises-preserved
put_all-promises-preserved t c =
    c.in_ok-put_parts.ensures
    ∙ parts-on c.args.promises.now c.promises.promise-index c.promise-item.result c.promises-test.true c.promise-item.is c.args.parts.now.items
    c.promises.parts.items c.promises.invariant
