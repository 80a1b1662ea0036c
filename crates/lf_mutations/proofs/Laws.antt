-- What crates above need of changes.
use Rattle.std.proofs.Common.{◌≡◌, ℕ, ◌+◌, ◌<◌, Bool, true, List, length, take}
use Rattle.std.specs.Prelude.{IsSome, Some, slice_get}
use Rattle.std.specs.List.{Contains}
use Rattle.lf_rules.specs.declared.definition.Definition.{Definition}
use Rattle.lf_rules.specs.declared.rule.Chain.{Chain}
use Rattle.lf_rules.specs.Forms.{rules_in, is_well_formed}
use Rattle.lf_mutations.specs.declared.mutation.Mutation.{Mutation}
use Rattle.lf_mutations.specs.Mutations.{mutated, mutations, rules_of}
use Rattle.lf_mutations.specs.Changes.{IsThere, IsMutant}
use Rattle.lf_mutations.proofs.ChangesLemmas as changes
use Rattle.lf_mutations.proofs.FormedLemmas as formed
use Rattle.lf_mutations.proofs.ListsLemmas as lists

-- a rule comes behind those of the chains before its own, and those before it there
pub slice_get-rules_of : (xs : List Chain) (i j : ℕ) (c : Chain) → slice_get xs i ≡ Some c → j < length c.rules
    → slice_get (rules_of xs) (rules_in (take i xs) + j) ≡ slice_get c.rules j
slice_get-rules_of xs i j c there low = changes.slice_get-rules_of xs i j c there low

-- a change of what is well formed is well formed
pub mutated-formed : (d e : Definition) (m : Mutation) → is_well_formed d ≡ true → mutated d m ≡ Some e → is_well_formed e ≡ true
mutated-formed d e m well made = formed.mutated-formed d e m well made

-- it can be made where there is what it changes, and there alone
pub there-from : (d : Definition) (m : Mutation) → IsSome (mutated d m) → IsThere d m
there-from d m some = changes.there-from d m some

pub there-made : (d : Definition) (m : Mutation) → IsThere d m → IsSome (mutated d m)
there-made d m it = changes.there-made d m it

-- one rule is another, and all else is the same
pub mutated-mutant : (d e : Definition) (m : Mutation) → mutated d m ≡ Some e → IsMutant d m e
mutated-mutant d e m made = changes.mutated-mutant d e m made

-- all changes are those that can be made, each once
pub listed-made : (d : Definition) (deep : Bool) (m : Mutation) → Contains (mutations d deep) m → IsSome (mutated d m)
listed-made d deep m h = lists.listed-made d deep m h

pub made-listed : (d : Definition) (m : Mutation) → IsSome (mutated d m) → Contains (mutations d true) m
made-listed d m some = lists.made-listed d m some

pub listed-once : (d : Definition) (deep : Bool) (i j : ℕ) (m : Mutation)
    → slice_get (mutations d deep) i ≡ Some m → slice_get (mutations d deep) j ≡ Some m → i ≡ j
listed-once d deep i j m one two = lists.listed-once d deep i j m one two
