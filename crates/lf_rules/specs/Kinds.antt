-- Kinds of values.
use Rattle.std.specs.Prelude.{ℕ, ◌-◌}
use Rattle.lf_rules.specs.declared.kind.Kind.{Kind}
use Rattle.lf_rules.specs.declared.kind.Kind.TheVariants as kinds
use Rattle.lf_rules.specs.declared.sort.Sort.{Sort}
use Rattle.lf_rules.specs.declared.sort.Sort.TheVariants as sorts

-- the greatest value
abbrev pub most_of : Kind → ℕ
most_of kinds.Flag = 1
most_of kinds.Nodes = 255
most_of (kinds.UpTo most) = most
most_of (kinds.Word of words) = words - 1

-- what an expression has to be whose value a variable or a field of the kind takes
abbrev pub sort_of : Kind → Sort
sort_of kinds.Flag = sorts.Truth
sort_of kinds.Nodes = sorts.Nodes
sort_of (kinds.UpTo most) = sorts.Number
sort_of (kinds.Word of words) = sorts.Word of
