-- The outcome of a scenario: the name of one of its protocol's, or a formula as a list.
--
--     ["all", f, ..]               every part is true, as where there is none
--     ["any", f, ..]               some part is true
--     ["down", n, t]               node n isn't up at step t
--     ["shows", n, t, "fact"]      node n is up at step t, and its state after it shows the fact
--
-- A node is below the number of nodes, a step is from 1 to the horizon, and a fact is one of the protocol's.
-- Any other list is refused, and so is a formula that is too deep or has too many atoms.
use Rattle.std.specs.Prelude.{ℕ, ◌-◌, ◌&&◌, nat_le, if◌then◌else◌, List, [], ◌∷◌, Option, Some, None, codes, Ok, Err}
use Rattle.std.specs.Str.{bytes_eq}
use Rattle.toml.specs.Data.{Data, string, array, Items, no_items, item}
use Rattle.lf_faults.specs.declared.spec.Bounds.{Bounds}
use Rattle.lf_protocols.specs.declared.fact.Fact.{Fact}
use Rattle.lf_protocols.specs.declared.protocol.Kind.{Kind}
use Rattle.lf_protocols.specs.Words.{fact_named}
use Rattle.lf_outcome.specs.declared.formula.Formula.{Formula}
use Rattle.lf_outcome.specs.declared.formula.Formula.TheVariants as kind
use Rattle.lf_outcome.specs.Measures.{depth_of, atoms_of}
use Rattle.lf_outcome.specs.Named.{formula_of}
use Rattle.lf_outcome.specs.Outcomes.{outcome_named}
use Rattle.lf_outcome.specs.declared.outcome.Outcome.{Outcome as Named}
use Rattle.lf_scenario.specs.declared.key.Key.{Key}
use Rattle.lf_scenario.specs.declared.key.Key.TheVariants.{Outcome}
use Rattle.lf_outcome.specs.Limits.{deepest}
use Rattle.lf_scenario.specs.Limits.{most_listed}
use Rattle.lf_scenario.specs.declared.error.ScenarioError.TheVariants as refusals
use Rattle.lf_scenario.specs.Values.{Reading, ◌>>=◌, whole}

-- within a formula, whatever is refused makes it no formula
abbrev pub in_formula : {A : Type 0} → Reading A → Reading A
in_formula (Ok x) = Ok x
in_formula (Err e) = Err refusals.Formula

abbrev pub found_fact : Option Fact → Reading Fact
found_fact (Some fact) = Ok fact
found_fact None = Err refusals.Formula

abbrev pub node_in : Bounds → Data → Reading ℕ
node_in b d = in_formula (whole 0 (b.nodes - 1) Outcome d)

abbrev pub step_in : Bounds → Data → Reading ℕ
step_in b d = in_formula (whole 1 b.horizon Outcome d)

abbrev pub fact_in : Kind → Data → Reading Fact
fact_in k (string word) = found_fact (fact_named k word)
fact_in k _ = Err refusals.Formula

abbrev pub down_of : Bounds → Data → Data → Reading (Formula Fact)
down_of b n t = do
  node ← node_in b n
  step ← step_in b t
  Ok (kind.Down node step)

abbrev pub shows_of : Kind → Bounds → Data → Data → Data → Reading (Formula Fact)
shows_of k b n t f = do
  node ← node_in b n
  step ← step_in b t
  fact ← fact_in k f
  Ok (kind.Shows node step fact)

-- the items after the word `down`
abbrev pub down_in : Bounds → Items → Reading (Formula Fact)
down_in b (item n (item t no_items)) = down_of b n t
down_in b _ = Err refusals.Formula

-- the items after the word `shows`
abbrev pub shows_in : Kind → Bounds → Items → Reading (Formula Fact)
shows_in k b (item n (item t (item f no_items))) = shows_of k b n t f
shows_in k b _ = Err refusals.Formula

-- a list by its first word, with what is read of the other items as parts, as those after `down`, and as those after
-- `shows`
abbrev pub by_word : List ℕ → Reading (List (Formula Fact)) → Reading (Formula Fact) → Reading (Formula Fact) → Reading (Formula Fact)
by_word word parts down shows =
    if bytes_eq word (codes "all") then parts >>= (λ fs. Ok (kind.All fs))
    else if bytes_eq word (codes "any") then parts >>= (λ fs. Ok (kind.Any fs))
    else if bytes_eq word (codes "down") then down
    else if bytes_eq word (codes "shows") then shows
    else Err refusals.Formula

abbrev mutual
  pub formula_in : Kind → Bounds → Data → Reading (Formula Fact)
  formula_in k b (array (item (string word) ds)) = by_word word (parts_in k b ds) (down_in b ds) (shows_in k b ds)
  formula_in k b _ = Err refusals.Formula

  -- a formula of each item
  pub parts_in : Kind → Bounds → Items → Reading (List (Formula Fact))
  parts_in k b no_items = Ok []
  parts_in k b (item d ds) = do
    part ← formula_in k b d
    parts ← parts_in k b ds
    Ok (part ∷ parts)

-- not too deep, and without too many atoms
abbrev pub limited : Formula Fact → Reading (Formula Fact)
limited formula =
    if nat_le (depth_of formula) deepest && nat_le (atoms_of formula) most_listed then Ok formula else Err refusals.Formula

-- the formula of a list, within its limits
abbrev pub list_formula : Kind → Bounds → Data → Reading (Formula Fact)
list_formula k b d = formula_in k b d >>= limited

-- the formula of the outcome that a name finds
abbrev pub named_in : Bounds → Option Named → Reading (Formula Fact)
named_in b (Some outcome) = Ok (formula_of outcome b.nodes b.horizon)
named_in b None = Err refusals.Outcome

-- what the key `outcome` takes: a name, or a list
abbrev pub outcome_in : Kind → Bounds → Key → Data → Reading (Formula Fact)
outcome_in k b key (string name) = named_in b (outcome_named k name)
outcome_in k b key (array ds) = list_formula k b (array ds)
outcome_in k b key _ = Err (refusals.WrongKind key)
