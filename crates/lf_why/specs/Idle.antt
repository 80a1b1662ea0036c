-- Worlds whose nodes do nothing.
use Rattle.std.specs.Prelude.{Bool, false, true, List, ℕ, [], codes, Option, None, Some, if◌then◌else◌}
use Rattle.lf_outcome.specs.Truth.{agree}
use Rattle.lf_sim.specs.declared.entry.Entry.{Entry}
use Rattle.lf_sim.specs.Machines.{Rules}
use Rattle.lf_sim.specs.Outs.{nothing}
use Rattle.lf_sim.specs.Runs.{World, is_up}

-- each node stays as it starts, and sends nothing
abbrev pub idle_rules : {State Note Fact : Type 0} → Rules State Note Fact → Rules State Note Fact
idle_rules rules = record {
  nodes = rules.nodes;
  start = rules.start;
  step = λ n t state inbox. record { state = state; out = nothing };
  wake = λ n t state. state;
  shows = rules.shows;
  entry = rules.entry;
}

abbrev pub idle_world : {State Note Fact : Type 0} → World State Note Fact → World State Note Fact
idle_world w = record { rules = idle_rules w.rules; horizon = w.horizon; pause_length = w.pause_length; arrival = w.arrival }

-- what a node's start enters under a topic, where the node is up at step 1
abbrev pub begun : {State Note Fact : Type 0} → World State Note Fact → ℕ → ℕ → Option Entry
begun w topic n = if is_up w [] n 1 then w.rules.entry n (w.rules.start n) topic else None

-- two entries agree where there are two
abbrev pub both_agree : Option Entry → Option Entry → Bool
both_agree (Some e) (Some f) = agree e f
both_agree e f = true

abbrev pub begun_agree : {State Note Fact : Type 0} → World State Note Fact → ℕ → ℕ → ℕ → Bool
begun_agree w topic n m = both_agree (begun w topic n) (begun w topic m)

-- what is told where such nodes keep the promise
abbrev pub idle_line : Bool → List ℕ
idle_line false = []
idle_line true = codes "true before step 1\n"
