-- The world that a setting is, and what a run of it holds.
use Rattle.std.specs.Prelude.{◌≡◌, ℕ, ◌+◌, ◌*◌, ◌<◌, ◌≤◌, Bool, List, slice_get, Option, Some}
use Rattle.std.specs.Option.{option_map}
use Rattle.lf_faults.specs.declared.fault.Parts.{Parts}
use Rattle.lf_latency.specs.Arrivals.{arrival_of}
use Rattle.lf_sim.specs.declared.machine.Machine.{Ghosts}
use Rattle.lf_sim.specs.declared.out.Stepped.{Stepped}
use Rattle.lf_sim.specs.declared.record.Run.{Run}
use Rattle.lf_sim.specs.declared.setting.Setting.{Setting}
use Rattle.lf_sim.specs.Outs.{note_to}
use Rattle.lf_sim.specs.Runs.{World, takes_step, did}
use Rattle.lf_sim.specs.Turns.{turns_of}

abbrev pub world_of : {M State Note Fact : Type 0} {g : Ghosts M State Note Fact} {p q r : _} → Setting M State Note Fact g p q r → World State Note Fact
world_of {g = g} setting =
    record {
      rules = g.rules setting.machine;
      horizon = setting.spec.horizon;
      pause_length = setting.spec.pause_length;
      arrival = arrival_of setting.network;
    }

-- of a run: its faults, how many nodes there are, and the last step
abbrev pub set_of : {M State Note Fact : Type 0} → Run M State Note Fact → List Parts
set_of run = run.set

abbrev pub nodes_of : {M State Note Fact : Type 0} → Run M State Note Fact → ℕ
nodes_of run = run.grid.nodes

abbrev pub horizon_of : {M State Note Fact : Type 0} → Run M State Note Fact → ℕ
horizon_of run = run.grid.horizon

-- what n did at t, by the run
abbrev pub cell_of : {M State Note Fact : Type 0} → Run M State Note Fact → ℕ → ℕ → Option (Stepped State Note)
cell_of run n t = slice_get (turns_of run.grid.cells) (t * run.grid.nodes + n)

-- what a run's readers give: whether n is up at t, its state after t, and what it sent to m at t
abbrev pub up_of : {M State Note Fact : Type 0} → Run M State Note Fact → ℕ → ℕ → Bool
up_of run = takes_step run.grid.nodes run.grid.horizon run.grid.pause_length run.set

abbrev pub state_of : {M State Note Fact : Type 0} → Run M State Note Fact → ℕ → ℕ → Option State
state_of run n t = option_map (λ c. c.state) (cell_of run n t)

abbrev pub sent_of : {M State Note Fact : Type 0} → Run M State Note Fact → ℕ → ℕ → ℕ → Option (Option Note)
sent_of run n m t = option_map (λ c. note_to c.out m) (cell_of run n t)

-- the run holds what each node did after each step in this world under its faults
pub record IsRun {M State Note Fact : Type 0} (w : World State Note Fact) (run : Run M State Note Fact) : Type 0 where
  pub nodes : run.grid.nodes ≡ w.rules.nodes
  pub horizon : run.grid.horizon ≡ w.horizon
  pub pause_length : run.grid.pause_length ≡ w.pause_length
  pub each : (n t : ℕ) → n < w.rules.nodes → t ≤ w.horizon → cell_of run n t ≡ Some (did w run.set n t)

-- the run is of the world's size
pub record HasSize {M State Note Fact : Type 0} (w : World State Note Fact) (run : Run M State Note Fact) : Type 0 where
  pub nodes : run.grid.nodes ≡ w.rules.nodes
  pub horizon : run.grid.horizon ≡ w.horizon
  pub pause_length : run.grid.pause_length ≡ w.pause_length

-- the run has what each node did in this world at each step before b, under these faults
abbrev pub IsRunBefore : {M State Note Fact : Type 0} → World State Note Fact → List Parts → Run M State Note Fact → ℕ → Type 0
IsRunBefore w faults run b = (n t : ℕ) → n < w.rules.nodes → t < b → cell_of run n t ≡ Some (did w faults n t)
