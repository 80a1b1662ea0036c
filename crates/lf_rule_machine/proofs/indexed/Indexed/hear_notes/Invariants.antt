use Rattle.std.proofs.Common.{◌≡◌, take}
use Rattle.std.specs.Arc.{arc_value}
use Rattle.std.specs.List.{fold}
use Rattle.lf_rule_machine.specs.Machines.{hear_note}
use Rattle.lf_rule_machine.proofs.indexed.Indexed.hear_notes.Given as goal

-- what it comes to with the notes so far
abbrev pub invariant-loop-note : goal.invariant-loop-note
invariant-loop-note l =
    l.turn ≡ fold (hear_note (arc_value l.self.rules) l.self.nodes l.self.given l.node l.t l.from) l.initial.turn (take l.note-index l.notes)
