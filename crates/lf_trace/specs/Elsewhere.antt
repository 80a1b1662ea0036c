-- How a run differs from another of the same world beyond that nodes are down in it.
use Rattle.std.specs.Prelude.{ℕ, zero, suc, not, ◌||◌, List, [], ◌++◌, length, ◌==◌, if◌then◌else◌}
use Rattle.lf_faults.specs.declared.fault.Parts.{Parts}
use Rattle.lf_sim.specs.Runs.{World, each_below, is_up}
use Rattle.lf_trace.specs.Words.{Words}
use Rattle.lf_trace.specs.Beside.{node_pair, slot_pair}
use Rattle.lf_trace.specs.Changes.{titled}
use Rattle.lf_trace.specs.First.{first_told}

-- a text, or another where there is nothing in it
abbrev pub told_or : List ℕ → List ℕ → List ℕ
told_or text rest = if length text == 0 then rest else text

-- the last of the texts f 0, f 1, .. up to below n that has anything in it, or the empty text
abbrev pub last_told : (ℕ → List ℕ) → ℕ → List ℕ
last_told f zero = []
last_told f (suc n) = told_or (f n) (last_told f n)

-- the text g n, where one of f 0, f 1, .. up to below n has anything in it
abbrev pub behind_first : (f g : ℕ → List ℕ) → ℕ → List ℕ
behind_first f g n = if length (first_told f n) == 0 then [] else g n

-- the first of the texts of f, and the last of those of g behind it
abbrev pub first_and_last : (f g : ℕ → List ℕ) → ℕ → List ℕ
first_and_last f g n = first_told f n ++ last_told (behind_first f g) n

module _ {S N F : Type 0} (words : Words S N) (w : World S N F) (other faults : List Parts) where
  -- the lines of a node that is up after the step in the run of the faults
  abbrev pub up_pair : ℕ → ℕ → List ℕ
  up_pair t n = if is_up w faults n t then node_pair words w other faults t n else []

  abbrev pub up_pairs : ℕ → List ℕ
  up_pairs t = each_below (up_pair t) w.rules.nodes

  -- the lines of a note to another node that is up when it arrives
  abbrev pub heard_pair : ℕ → ℕ → ℕ → List ℕ
  heard_pair t n m = if (n == m) || not (is_up w faults m (w.arrival n m t)) then [] else slot_pair words w other faults t n m

  abbrev pub heard_pairs_of : ℕ → ℕ → List ℕ
  heard_pairs_of t n = each_below (heard_pair t n) w.rules.nodes

  abbrev pub heard_pairs : ℕ → List ℕ
  heard_pairs t = each_below (heard_pairs_of t) w.rules.nodes

  -- those of the nodes, under the number of the step
  abbrev pub nodes_elsewhere : ℕ → List ℕ
  nodes_elsewhere t = titled t (up_pairs t)

  -- and those of the notes behind them
  abbrev pub step_elsewhere : ℕ → List ℕ
  step_elsewhere t = titled t (up_pairs t ++ heard_pairs t)

  -- of the steps up to a limit, the first at which anything differs, and the last later one after which a node does
  abbrev pub elsewhere : ℕ → List ℕ
  elsewhere limit = first_and_last (λ past. step_elsewhere (suc past)) (λ past. nodes_elsewhere (suc past)) limit
