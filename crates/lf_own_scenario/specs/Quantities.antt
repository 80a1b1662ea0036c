-- The formulas that so many of some nodes show a fact at a step.
use Rattle.std.specs.Prelude.{ℕ, List, [], ◌∷◌, map}
use Rattle.lf_rule_machine.specs.declared.fact.Fact.{Fact as Told}
use Rattle.lf_protocols.specs.declared.fact.Fact.{Fact}
use Rattle.lf_protocols.specs.declared.fact.Fact.TheVariants as facts
use Rattle.lf_outcome.specs.Named.{shows_or_down}
use Rattle.lf_outcome.specs.declared.formula.Formula.{Formula}
use Rattle.lf_outcome.specs.declared.formula.Formula.TheVariants as kind
use Rattle.lf_promises.specs.Fronts.{opposite}
use Rattle.lf_promises.specs.declared.promise.Many.{Many}
use Rattle.lf_promises.specs.declared.promise.Many.TheVariants as manys
use Rattle.lf_own_scenario.specs.Members.{others}

-- a fact of rules in a formula
abbrev pub ruled : Told → Fact
ruled fact = facts.Ruled fact

-- n is up at t and shows the fact
abbrev pub shows : ℕ → Fact → ℕ → Formula Fact
shows t fact n = kind.Shows n t fact

-- each of the nodes that is up at t shows the fact
unfoldable pub each : ℕ → Fact → List ℕ → Formula Fact
each t fact nodes = kind.All (map (shows_or_down t fact) nodes)

-- one of the nodes shows it
unfoldable pub any_of : ℕ → Fact → List ℕ → Formula Fact
any_of t fact nodes = kind.Any (map (shows t fact) nodes)

-- all of the nodes but one show it, those that are up, whichever that one is
unfoldable pub all_but_one : ℕ → Fact → List ℕ → List (Formula Fact)
all_but_one t fact nodes = map (λ n. each t fact (others nodes n)) nodes

-- one of these ways, or that there is no node
abbrev pub where_any : List ℕ → List (Formula Fact) → Formula Fact
where_any [] ways = kind.All []
where_any (n ∷ ns) ways = kind.Any ways

abbrev pub so_many : Many → ℕ → Told → List ℕ → Formula Fact
so_many manys.Each t fact nodes = each t (ruled fact) nodes
so_many manys.No t fact nodes = each t (ruled (opposite fact)) nodes
so_many manys.Some t fact nodes = any_of t (ruled fact) nodes
so_many manys.AtMostOne t fact nodes = where_any nodes (all_but_one t (ruled (opposite fact)) nodes)
