-- Packets of one note each, and the runs in which no other packet is sent.
use Rattle.std.specs.Prelude.{◌≡◌, ℕ, true, List, ◌∷◌, None, Some, replicate}
use Rattle.std.specs.Option.{option_map}
use Rattle.lf_faults.specs.declared.fault.Parts.{Parts}
use Rattle.lf_sim.specs.declared.letter.Letter.{Letter}
use Rattle.lf_sim.specs.declared.out.Out.{Out}
use Rattle.lf_sim.specs.declared.out.Stepped.{Stepped}
use Rattle.lf_sim.specs.Outs.{note_to, notes_by}
use Rattle.lf_sim.specs.Runs.{World, sent}
use Rattle.lf_rules.specs.Forms.{is_well_formed}
use Rattle.lf_rule_machine.specs.Instances.{Instance}
use Rattle.lf_rule_machine.specs.Ruleds.{rules_of}
use Rattle.lf_rule_machine.specs.declared.state.State.{State}
use Rattle.lf_rule_machine.specs.declared.state.Note.{Note}
use Rattle.lf_rule_machine.specs.declared.state.Packet.{Packet}
use Rattle.lf_rule_machine.specs.declared.fact.Fact.{Fact}
use Rattle.lf_rule_machine.specs.Singles.{rules_of_notes}

-- the packet of one note
abbrev pub single : Note → Packet
single x = record { notes = Some x ∷ replicate 3 None }

-- a packet has one note
abbrev pub IsSingle : Packet → Type 0
IsSingle p = (x : Note) × (p ≡ single x)

-- each packet that is sent in a step has one note
abbrev pub AreSingles : Out Packet → Type 0
AreSingles out = (m : ℕ) (p : Packet) → note_to out m ≡ Some p → IsSingle p

-- notes as packets of one note each: in a letter, in what is sent, and in what a step gives
abbrev pub letter_in_packet : Letter Note → Letter Packet
letter_in_packet x = record { from = x.from; sent = x.sent; note = single x.note }

abbrev pub out_in_packets : Out Note → Out Packet
out_in_packets out = notes_by (λ m. option_map single (note_to out m))

abbrev pub in_packets : Stepped State Note → Stepped State Packet
in_packets turn = record { state = turn.state; out = out_in_packets turn.out }

-- in a run each packet that a node sends has one note
abbrev pub SendsSingles : World State Packet Fact → List Parts → Type 0
SendsSingles w faults = (n m t : ℕ) (p : Packet) → sent w faults n m t ≡ Some p → IsSingle p

-- a world in which a node sends another one a single note in a step
abbrev pub world_of_notes : Instance → World State Packet Fact → World State Note Fact
world_of_notes m w = record { rules = rules_of_notes m; horizon = w.horizon; pause_length = w.pause_length; arrival = w.arrival }

-- a run of a machine of rules in which each packet that is sent has one note
pub record IsSingleRun (m : Instance) (w : World State Packet Fact) (faults : List Parts) : Type 0 where
  pub formed : is_well_formed m.definition ≡ true
  pub ruled : w.rules ≡ rules_of m
  pub singles : SendsSingles w faults
