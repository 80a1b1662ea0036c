-- Machines for tests, whose states depend on the order of their inboxes.
use Rattle.std.specs.Prelude.{ℕ, ◌+◌, ◌*◌, ◌%◌, ◌^◌, ◌==◌, if◌then◌else◌, List, [], ◌∷◌, None}
use Rattle.lf_sim.specs.declared.letter.Letter.{Letter}
use Rattle.lf_sim.specs.declared.out.Out.{Out}
use Rattle.lf_sim.specs.Machines.{Rules}
use Rattle.lf_sim.specs.Outs.{nothing, with_note}

-- a number, with each letter in turn
abbrev pub told : ℕ → List (Letter ℕ) → ℕ
told state [] = state
told state (l ∷ ls) = told (((((state * 5) % 2 ^ 32 + l.note) % 2 ^ 32 + l.from) % 2 ^ 32 + (l.sent * 3) % 2 ^ 32) % 2 ^ 32) ls

-- in a ring of four, each tells the next twice, and at even steps the one after it too
abbrev pub ring_out : ℕ → ℕ → ℕ → Out ℕ
ring_out n t state =
    let twice = with_note (with_note nothing ((n + 1) % 4) 1) ((n + 1) % 4) state in
    if t % 2 == 0 then with_note twice ((n + 2) % 4) t else twice

abbrev pub ring : Rules ℕ ℕ ℕ
ring = record {
  nodes = 4;
  start = λ n. n;
  step = λ n t state inbox. record { state = told state inbox; out = ring_out n t (told state inbox) };
  wake = λ n t state. (state + t) % 2 ^ 32;
  shows = λ n state fact. state == fact;
  entry = λ n state topic. None;
}

-- of three, the first is told by the others, and tells the last at every third step
abbrev pub hub_out : ℕ → ℕ → ℕ → Out ℕ
hub_out n t state =
    if n == 0 then (if t % 3 == 0 then with_note nothing 2 state else nothing) else with_note nothing 0 state

abbrev pub hub : Rules ℕ ℕ ℕ
hub = record {
  nodes = 3;
  start = λ n. 7;
  step = λ n t state inbox. record { state = told t inbox; out = hub_out n t state };
  wake = λ n t state. t * 9;
  shows = λ n state fact. state == fact;
  entry = λ n state topic. None;
}
