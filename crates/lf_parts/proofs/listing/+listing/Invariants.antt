use Rattle.std.proofs.Common.{◌≡◌, ◌++◌, take, count_by}
use Rattle.std.specs.List.{flat_map}
use Rattle.lf_parts.specs.Leaves.{leaves}
use Rattle.lf_parts.specs.Parts.{is_one_value, parts_from}
use Rattle.lf_parts.proofs.listing.+listing.Given as goal

-- the parts of the promises so far stand behind those before
abbrev pub invariant-put_all-promises : goal.invariant-put_all-promises
invariant-put_all-promises l =
    l.parts.items ≡ l.fn.parts.items ++ parts_from (count_by is_one_value l.fn.parts.items) (flat_map leaves (take l.promise-index l.promises))
