-- Nodes that tell each other a number.
use Rattle.std.specs.Prelude.{ℕ, ◌==◌, if◌then◌else◌, List, [], ◌∷◌, ◌++◌, codes, None}
use Rattle.std.specs.Fmt.{decimal}
use Rattle.lf_sim.specs.declared.letter.Letter.{Letter}
use Rattle.lf_sim.specs.declared.out.Out.{Out}
use Rattle.lf_sim.specs.Machines.{Rules}
use Rattle.lf_sim.specs.Outs.{nothing, to_others}
use Rattle.lf_trace.specs.Words.{Words}

-- what a node knows after its inbox: 0 is nothing, and what it knows it keeps
abbrev pub learned : ℕ → List (Letter ℕ) → ℕ
learned known [] = known
learned known (l ∷ ls) = if known == 0 then l.note else known

-- who knows the number tells all others
abbrev pub told : ℕ → ℕ → Out ℕ
told n known = if known == 0 then nothing else to_others 3 n known

-- three nodes, of which the first knows the number 7
abbrev pub gossip : Rules ℕ ℕ ℕ
gossip = record {
  nodes = 3;
  start = λ n. if n == 0 then 7 else 0;
  step = λ n t known inbox. record { state = learned known inbox; out = told n (learned known inbox) };
  wake = λ n t known. known;
  shows = λ n known fact. known == fact;
  entry = λ n known topic. None;
}

-- what a trace tells of a state, and of a note
abbrev pub words : Words ℕ ℕ
words = record {
  state = λ known. if known == 0 then codes "knows nothing" else codes "knows " ++ decimal known;
  note = λ number. codes "number " ++ decimal number;
}
