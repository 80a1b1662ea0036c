use Rattle.std.proofs.Common.{◌≡◌, drop}
use Rattle.lf_grammar.specs.Places.{field_from}
use Rattle.lf_grammar.proofs.place.Place.field.Given as goal

-- it is none of the fields so far
abbrev pub invariant-loop-i : goal.invariant-loop-i
invariant-loop-i l = field_from l.i l.word (drop l.i l.self.fields.now) ≡ field_from 0 l.word l.self.fields.now
