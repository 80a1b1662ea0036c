use Rattle.std.proofs.Common.{◌≡◌, ◌+◌, ◌++◌, drop}
use Rattle.lf_mutations.specs.declared.mutation.Mutation.TheVariants as those
use Rattle.lf_mutations.specs.Mutations.{each_place}
use Rattle.lf_mutations.proofs.all.push_unsent.Given as goal

-- with those that are left they are all
abbrev pub invariant-loop-send : goal.invariant-loop-send
invariant-loop-send l =
    record {
      place : l.place ≡ l._send-index + 1;
      all : l.all.items ++ each_place (those.Unsent l.rule) l.place (drop l._send-index l.sends)
          ≡ l.initial.all.items ++ each_place (those.Unsent l.rule) 1 l.sends;
    }
