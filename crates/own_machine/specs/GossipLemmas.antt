-- Nobody tells itself, or a number that isn't a node.
use Rattle.std.proofs.Common.{◌≡◌, ℕ, ◌≤◌, Bool, true, false, cond, nat_eq}
use Rattle.std.specs.Prelude.{◌⊎◌, None}
use Rattle.lf_sim.specs.Outs.{note_to, nothing, to_others}
use Rattle.lf_sim.specs.OutsLemmas.{note_to-nothing, to_others-silent}
use Rattle.own_machine.specs.Gossip.{told}

either-silent : (b : Bool) (n known to : ℕ) → (to ≡ n) ⊎ (3 ≤ to) → note_to (cond b nothing (to_others 3 n known)) to ≡ None
either-silent true n known to nobody = note_to-nothing {Note = ℕ} to
either-silent false n known to nobody = to_others-silent 3 n known to nobody

pub told-silent : (n known to : ℕ) → (to ≡ n) ⊎ (3 ≤ to) → note_to (told n known) to ≡ None
told-silent n known to nobody = either-silent (nat_eq known 0) n known to nobody
