use Rattle.std.proofs.Common.{◌≡◌, drop}
use Rattle.lf_grammar.specs.Places.{declared_in}
use Rattle.lf_grammar.proofs.place.Place.declared.Given as goal

-- it is none of the names so far
abbrev pub invariant-loop-meaning : goal.invariant-loop-meaning
invariant-loop-meaning l = declared_in l.word (drop l.meaning-index l.self.names.now) ≡ declared_in l.word l.self.names.now
