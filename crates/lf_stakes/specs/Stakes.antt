-- In how many runs the rules of a protocol are taken.
use Rattle.std.specs.Prelude.{ℕ, ◌<◌, ◌==◌, Bool, List, map}
use Rattle.std.specs.List.{Contains, count_by, list_any, range_with_len}
use Rattle.lf_faults.specs.declared.fault.Parts.{Parts}
use Rattle.lf_rules.specs.Forms.{rules_in}
use Rattle.lf_sim.specs.Runs.{World}
use Rattle.lf_protocols.specs.declared.fact.Fact.{Fact}
use Rattle.lf_protocols.specs.declared.note.Note.{Note}
use Rattle.lf_protocols.specs.declared.state.State.{State}
use Rattle.lf_protocols.specs.declared.protocol.Kind.{Kind}
use Rattle.lf_protocols.specs.declared.protocol.Kind.TheVariants as kinds
use Rattle.lf_taken.specs.Points.{taken_after}

-- how many rules a protocol has: none where it isn't one of rules
abbrev pub rules_of : Kind → ℕ
rules_of (kinds.Ruled m) = rules_in m.definition.chains
rules_of other = 0

-- whether a number is in a list
abbrev pub has_number : ℕ → List ℕ → Bool
has_number n = list_any (λ m. m == n)

module _ (k : Kind) (w : World State Note Fact) where
  -- whether n takes the rule with this number at some step of the run of these faults
  abbrev pub is_taken_by : List Parts → ℕ → ℕ → Bool
  is_taken_by faults rule n = list_any (λ t. has_number rule (taken_after k w faults n t)) (range_with_len 0 w.horizon)

  -- whether some node does
  unfoldable pub is_taken_in : List Parts → ℕ → Bool
  is_taken_in faults rule = list_any (is_taken_by faults rule) (range_with_len 0 w.rules.nodes)

  -- in how many of the runs of these sets it is taken
  abbrev pub times_taken : List (List Parts) → ℕ → ℕ
  times_taken sets rule = count_by (λ faults. is_taken_in faults rule) sets

  -- the same of each rule, by its number
  abbrev pub counts_of : List (List Parts) → List ℕ
  counts_of sets = map (times_taken sets) (range_with_len 1 (rules_of k))

  -- some node takes the rule with this number at some step of the run of these faults, the step after `past`
  pub record IsTaken (faults : List Parts) (rule : ℕ) : Type 0 where
    pub node : ℕ
    pub past : ℕ
    pub is_node : node < w.rules.nodes
    pub early : past < w.horizon
    pub taken : Contains (taken_after k w faults node past) rule
