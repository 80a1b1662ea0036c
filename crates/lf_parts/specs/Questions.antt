-- The promise that asks whether a part of a promise is ever at stake.
use Rattle.std.specs.Prelude.{ℕ, [], ◌∷◌, Option, Some, None, slice_get}
use Rattle.std.specs.Option.{option_and_then}
use Rattle.lf_rules.specs.Terms.{Term}
use Rattle.lf_rule_machine.specs.declared.fact.Fact.{Fact}
use Rattle.lf_promises.specs.declared.promise.Many.TheVariants as manys
use Rattle.lf_promises.specs.declared.promise.Promise.{Promise}
use Rattle.lf_promises.specs.declared.promise.Promise.TheVariants as promises
use Rattle.lf_parts.specs.declared.leaf.Leaf.{Leaf}
use Rattle.lf_parts.specs.declared.leaf.Leaf.TheVariants as kinds
use Rattle.lf_parts.specs.Leaves.{leaves}

-- some node of those shows the fact at some step
abbrev pub some_ever : Fact → Option Term → Promise
some_ever fact of = promises.Ever (promises.Nodes manys.Some fact of ∷ [])

-- what is to be shown is asked for as it is, and what isn't, whether it ever is; of one value nothing is asked so
abbrev pub question : Leaf → Option Promise
question (kinds.Nodes manys.Each fact of) = Some (promises.Nodes manys.Each fact of)
question (kinds.Nodes manys.No fact of) = Some (some_ever fact of)
question (kinds.Nodes manys.Some fact of) = Some (promises.Nodes manys.Some fact of)
question (kinds.Nodes manys.AtMostOne fact of) = Some (some_ever fact of)
question (kinds.At n fact) = Some (promises.At n fact)
question (kinds.One topic) = None

-- that of the part with a place, where there is such a part
abbrev pub asked : Promise → ℕ → Option Promise
asked p place = option_and_then question (slice_get (leaves p) place)
