-- Of which nodes a promise speaks.
use Rattle.std.specs.Prelude.{ℕ, Bool, true, not, ◌==◌, List, filter, Option, None, Some, slice_get}
use Rattle.std.specs.List.{range_with_len}
use Rattle.lf_rules.specs.Terms.{Term}
use Rattle.lf_rule_machine.specs.Sets.{has}
use Rattle.lf_rule_machine.specs.Values.{fixed_value}
use Rattle.lf_rule_machine.specs.Moments.{row_of}
use Rattle.lf_own_scenario.specs.declared.scene.Scene.{Scene}

-- n is in the set that the expression gives at n
unfoldable pub is_in_set : Scene → Term → ℕ → Bool
is_in_set s e n = has (fixed_value s.nodes (row_of (slice_get s.given n)) e) n

-- without an expression all nodes are meant
abbrev pub is_in : Scene → Option Term → ℕ → Bool
is_in s None n = true
is_in s (Some e) n = is_in_set s e n

-- the nodes that are meant, ascending
unfoldable pub members : Scene → Option Term → List ℕ
members s of = filter (is_in s of) (range_with_len 0 s.nodes)

-- all of them but one
unfoldable pub others : List ℕ → ℕ → List ℕ
others nodes but = filter (λ n. not (n == but)) nodes
