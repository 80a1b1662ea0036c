-- What reaches a node.
use Rattle.std.proofs.Common.{◌≡◌, ℕ, ◌+◌, ◌<◌, List, ◌++◌, length, drop, slice_index_or, sym, ap, ◌∙◌, append_assoc, add-one, drop-cons}
use Rattle.std.specs.Prelude.{None}
use Rattle.std.specs.List.{fold}
use Rattle.lf_faults.specs.declared.fault.Parts.{Parts}
use Rattle.lf_sim.specs.declared.letter.Letter.{Letter}
use Rattle.lf_sim.specs.declared.out.Stepped.{Stepped}
use Rattle.lf_sim.specs.Outs.{note_to}
use Rattle.lf_sim.specs.OutsLemmas.{note_to-nothing}
use Rattle.lf_sim.specs.Runs.{World, letter, did}
use Rattle.lf_sim.proofs.Laws.{did-zero, letter-silent}
use Rattle.lf_rule_machine.specs.declared.state.State.{State}
use Rattle.lf_rule_machine.specs.declared.state.Packet.{Packet as Message}
use Rattle.lf_rule_machine.specs.Instances.{Instance}
use Rattle.lf_protocols.specs.declared.note.Note.{Note}
use Rattle.lf_protocols.specs.RuledTurns.{hear_by_rules}
use Rattle.lf_taken.specs.Turns.{taken_by_note, taken_by_letters}

-- nothing is sent before step 1
pub letter_zero : {State Note Fact : Type 0} (w : World State Note Fact) (faults : List Parts) (m u n : ℕ) → letter w faults (did w faults) m u n 0 ≡ None
letter_zero w faults m u n = letter-silent w faults (did w faults) m u n 0 (ap (λ c. note_to c.out m) (did-zero w faults n) ∙ note_to-nothing m)

-- a letter more is heard
module _ (m : Instance) (n t : ℕ) where
  pub turn_more : (turn next : Stepped State Message) (ls : List (Letter Note)) (i : ℕ) (d : Letter Note) → i < length ls
      → next ≡ hear_by_rules m n t turn (slice_index_or ls i d)
      → fold (hear_by_rules m n t) next (drop (i + 1) ls) ≡ fold (hear_by_rules m n t) turn (drop i ls)
  turn_more turn next ls i d low is =
      ap (λ s. fold (hear_by_rules m n t) s (drop (i + 1) ls)) is
      ∙ ap (λ k. fold (hear_by_rules m n t) (hear_by_rules m n t turn (slice_index_or ls i d)) (drop k ls)) (add-one i)
      ∙ ap (fold (hear_by_rules m n t) turn) (sym (drop-cons ls i d low))

  pub taken_more : (old new : List ℕ) (turn next : Stepped State Message) (ls : List (Letter Note)) (i : ℕ) (d : Letter Note) → i < length ls
      → new ≡ old ++ taken_by_note m n t turn (slice_index_or ls i d).from (slice_index_or ls i d).note
      → next ≡ hear_by_rules m n t turn (slice_index_or ls i d)
      → new ++ taken_by_letters m n t next (drop (i + 1) ls) ≡ old ++ taken_by_letters m n t turn (drop i ls)
  taken_more old new turn next ls i d low told is =
      let x = slice_index_or ls i d in
      let here : List ℕ = taken_by_note m n t turn x.from x.note in
      ap (λ ns. ns ++ taken_by_letters m n t next (drop (i + 1) ls)) told
      ∙ append_assoc old here (taken_by_letters m n t next (drop (i + 1) ls))
      ∙ ap (λ s. old ++ (here ++ taken_by_letters m n t s (drop (i + 1) ls))) is
      ∙ ap (λ k. old ++ (here ++ taken_by_letters m n t (hear_by_rules m n t turn x) (drop k ls))) (add-one i)
      ∙ ap (λ rest. old ++ taken_by_letters m n t turn rest) (sym (drop-cons ls i d low))
