-- Runs worked out by hand, that the definitions compute to the same.
use Rattle.std.proofs.Common.{◌≡◌, ℕ, ◌+◌, true, [], ◌∷◌, length, refl}
use Rattle.std.specs.Prelude.{None}
use Rattle.lf_faults.specs.declared.fault.Parts.TheVariants.{Omit, Crash, Pause}
use Rattle.lf_sim.specs.Outs.{to_others}
use Rattle.lf_sim.specs.Runs.{World, is_up, before_step, letter, letters, turn, history, did, view, inbox}

-- two nodes, each of which counts the letters that it gets, tells the other the step, and wakes at 10; a note takes one step, a pause two
abbrev counting : World ℕ ℕ ℕ
counting = record {
  rules = record {
    nodes = 2;
    start = λ n. 0;
    step = λ n t state letters. record { state = state + length letters; out = to_others 2 n t };
    wake = λ n t state. 10;
    shows = λ n state fact. true;
    entry = λ n state topic. None;
  };
  horizon = 5;
  pause_length = 2;
  arrival = λ n m t. t + 1;
}

-- with no fault node 1 gets a letter at each step but the first, and the run ends after step 5
all-come : view counting [] 1 5 ≡ 4
unfolding is_up before_step letter letters turn history did
all-come = refl

run-ends : view counting [] 1 7 ≡ 4
unfolding is_up before_step letter letters turn history did
run-ends = refl

-- paused over 2 and 3, node 1 loses the letters of these steps, wakes at 4, and gets those of 4 and 5
paused-keeps : view counting (Pause 1 2 ∷ []) 1 3 ≡ 0
unfolding is_up before_step letter letters turn history did
paused-keeps = refl

paused-wakes : view counting (Pause 1 2 ∷ []) 1 5 ≡ 12
unfolding is_up before_step letter letters turn history did
paused-wakes = refl

-- it sends nothing meanwhile, so node 0 hears of steps 1 and 4
paused-silent : inbox counting (Pause 1 2 ∷ []) 0 4 ≡ []
unfolding is_up before_step letter letters turn history did
paused-silent = refl

paused-heard : view counting (Pause 1 2 ∷ []) 0 5 ≡ 2
unfolding is_up before_step letter letters turn history did
paused-heard = refl

-- a crash at 3 leaves the note of step 2 on its way; an omission loses that of step 1
crashed-sender : view counting (Omit 0 1 1 ∷ Crash 0 3 ∷ []) 1 5 ≡ 1
unfolding is_up before_step letter letters turn history did
crashed-sender = refl

crashed-keeps : view counting (Omit 0 1 1 ∷ Crash 0 3 ∷ []) 0 5 ≡ 1
unfolding is_up before_step letter letters turn history did
crashed-keeps = refl
