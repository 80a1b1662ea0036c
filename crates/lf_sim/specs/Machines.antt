-- What a machine does.
use Rattle.std.specs.Prelude.{ℕ, Bool, List, Option}
use Rattle.lf_sim.specs.declared.entry.Entry.{Entry}
use Rattle.lf_sim.specs.declared.letter.Letter.{Letter}
use Rattle.lf_sim.specs.declared.out.Stepped.{Stepped}

-- a machine's rules, for nodes below `nodes`
pub record Rules (State Note Fact : Type 0) : Type 0 where
  pub nodes : ℕ
  -- a node's state before step 1
  pub start : ℕ → State
  -- what a node does at a step, from its state and its inbox
  pub step : ℕ → ℕ → State → List (Letter Note) → Stepped State Note
  -- what is left of a node's state where it restarts at a step, the first after a pause
  pub wake : ℕ → ℕ → State → State
  -- whether a node's state shows a fact
  pub shows : ℕ → State → Fact → Bool
  -- what a node's state enters under a topic, by the topic's number
  pub entry : ℕ → State → ℕ → Option Entry
