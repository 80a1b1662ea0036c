-- What comes of a set of nodes and a body, by the body's value for each node.
use Rattle.std.specs.Prelude.{ℕ, zero, suc, Bool, ◌&&◌, nat_lt, if◌then◌else◌, min, max, Option, None, Some}
use Rattle.lf_rules.specs.declared.expr.Over.{Over}
use Rattle.lf_rules.specs.declared.expr.Over.TheVariants as overs
use Rattle.lf_rule_machine.specs.Sets.{has, is_true, those}

-- of so many nodes, n is one of the set
abbrev pub is_member : ℕ → ℕ → ℕ → Bool
is_member nodes set n = has set n && nat_lt n nodes

-- the lesser of a number and another one, if there is another
abbrev pub lesser : ℕ → Option ℕ → ℕ
lesser v None = v
lesser v (Some w) = min v w

-- the least of f n for those n below k of which p is so, if there are such
unfoldable pub least_below : ℕ → (ℕ → Bool) → (ℕ → ℕ) → Option ℕ
least_below zero p f = None
least_below (suc k) p f = if p k then Some (lesser (f k) (least_below k p f)) else least_below k p f

abbrev pub least_of : Option ℕ → ℕ
least_of None = 255
least_of (Some v) = v

-- the greatest of them, or 0
unfoldable pub greatest_below : ℕ → (ℕ → Bool) → (ℕ → ℕ) → ℕ
greatest_below zero p f = 0
greatest_below (suc k) p f = if p k then max (f k) (greatest_below k p f) else greatest_below k p f

abbrev pub over : ℕ → Over → ℕ → (ℕ → ℕ) → ℕ
over nodes overs.Those set f = those (λ n. is_member nodes set n && is_true (f n))
over nodes overs.Least set f = least_of (least_below 8 (is_member nodes set) f)
over nodes overs.Greatest set f = greatest_below 8 (is_member nodes set) f
