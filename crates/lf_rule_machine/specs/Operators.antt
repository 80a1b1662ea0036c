-- What comes of one value, and of two, among so many nodes.
use Rattle.std.specs.Prelude.{ℕ, ◌+◌, ◌-◌, ◌%◌, ◌&&◌, ◌||◌, ◌==◌, nat_lt, nat_le, if◌then◌else◌, min, max}
use Rattle.lf_rules.specs.declared.expr.Unary.{Unary}
use Rattle.lf_rules.specs.declared.expr.Unary.TheVariants as unaries
use Rattle.lf_rules.specs.declared.expr.Binary.{Binary}
use Rattle.lf_rules.specs.declared.expr.Binary.TheVariants as binaries
use Rattle.lf_rule_machine.specs.Sets.{truth, is_true, has, either, without, between, only, count, lowest, highest, is_majority}

abbrev pub unary : ℕ → Unary → ℕ → ℕ
unary nodes unaries.Not v = truth (v == 0)
unary nodes unaries.Count set = count set
unary nodes unaries.Lowest set = lowest nodes set
unary nodes unaries.Highest set = highest nodes set
unary nodes unaries.Only m = only nodes m

abbrev pub binary : ℕ → Binary → ℕ → ℕ → ℕ
binary nodes binaries.Add a b = a + b
binary nodes binaries.Subtract a b = a - b
binary nodes binaries.Smaller a b = min a b
binary nodes binaries.Larger a b = max a b
binary nodes binaries.Remainder a b = if b == 0 then 0 else a % b
binary nodes binaries.Equal a b = truth (a == b)
binary nodes binaries.Less a b = truth (nat_lt a b)
binary nodes binaries.AtMost a b = truth (nat_le a b)
binary nodes binaries.And a b = truth (is_true a && is_true b)
binary nodes binaries.Or a b = truth (is_true a || is_true b)
binary nodes binaries.In a set = truth (nat_lt a nodes && has set a)
binary nodes binaries.Union s g = either s g
binary nodes binaries.Without s g = without s g
binary nodes binaries.Between a b = between nodes a b
binary nodes binaries.Majority s g = truth (is_majority s g)
