use Rattle.std.proofs.Common.{◌≡◌, ◌++◌}
use Rattle.std.specs.List.{flat_map}
use Rattle.lf_parts.specs.Leaves.{leaves}
use Rattle.lf_parts.proofs.asking.+put_leaves.Given as goal

-- the leaves of the parts so far stand behind those before
abbrev pub invariant-parts : goal.invariant-parts
invariant-parts l =
    (l.taken.items ≡ l.initial.taken.items ++ flat_map leaves l.yielded)
    × (l.yielded ++ l.part-iterator.rest.items ≡ l.initial.part-iterator.rest.items)
