use Rattle.std.proofs.Common.{◌≡◌, ◌+◌, ◌++◌, drop}
use Rattle.lf_mutations.specs.declared.mutation.Mutation.TheVariants as those
use Rattle.lf_mutations.specs.Mutations.{each_place}
use Rattle.lf_mutations.proofs.all.push_unset.Given as goal

-- with those that are left they are all
abbrev pub invariant-loop-set : goal.invariant-loop-set
invariant-loop-set l =
    record {
      place : l.place ≡ l._set-index + 1;
      all : l.all.items ++ each_place (those.Unset l.rule) l.place (drop l._set-index l.sets)
          ≡ l.initial.all.items ++ each_place (those.Unset l.rule) 1 l.sets;
    }
