-- Machines for tests.
use Rattle.std.specs.Prelude.{ℕ, ◌+◌, ◌*◌, ◌%◌, ◌^◌, ◌==◌, Bool, true, false, not, if◌then◌else◌, List, [], ◌∷◌, None}
use Rattle.lf_sim.specs.declared.letter.Letter.{Letter}
use Rattle.lf_sim.specs.declared.out.Out.{Out}
use Rattle.lf_sim.specs.Machines.{Rules}
use Rattle.lf_sim.specs.Outs.{nothing, to_others, with_note}

-- a number, with each letter in turn
abbrev pub told : ℕ → List (Letter ℕ) → ℕ
told state [] = state
told state (l ∷ ls) = told (((((state * 5) % 2 ^ 32 + l.note) % 2 ^ 32 + l.from) % 2 ^ 32 + (l.sent * 3) % 2 ^ 32) % 2 ^ 32) ls

-- of four, each tells the node that is t % 4 further the step's number
abbrev pub beacon_out : ℕ → ℕ → Out ℕ
beacon_out n t = if (n + t) % 4 == n then nothing else with_note nothing ((n + t) % 4) t

abbrev pub beacon : Rules ℕ ℕ ℕ
beacon = record {
  nodes = 4;
  start = λ n. n;
  step = λ n t state inbox. record { state = told state inbox; out = beacon_out n t };
  wake = λ n t state. (state + t) % 2 ^ 32;
  shows = λ n state fact. state == fact;
  entry = λ n state topic. None;
}

-- whether there is a letter
abbrev pub has_letter : List (Letter ℕ) → Bool
has_letter [] = false
has_letter (l ∷ ls) = true

-- of five, each that has the data tells all others at the step after it got it; the first has it
abbrev pub rumour : Rules ℕ ℕ ℕ
rumour = record {
  nodes = 5;
  start = λ n. if n == 0 then 1 else 0;
  step = λ n t state inbox. record {
    state = if state == 0 then (if has_letter inbox then 1 else 0) else 2;
    out = if state == 1 then to_others 5 n t else nothing;
  };
  wake = λ n t state. state;
  shows = λ n state fact. state == fact;
  entry = λ n state topic. None;
}
