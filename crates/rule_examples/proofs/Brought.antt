-- What an inbox of one letter brings, and an empty one.
use Rattle.std.proofs.Common.{List, [], ◌∷◌, refl, arith, ◌≡◌}
use Rattle.lf_sim.specs.declared.letter.Letter.{Letter}
use Rattle.lf_protocols.specs.declared.note.Note.{Note}
use Rattle.lf_protocols.specs.Letters.{Brings}

pub brings-here : (note : Note) (x : Letter Note) (xs : List (Letter Note)) → x.note ≡ note → Brings note (x ∷ xs)
brings-here note x xs e = (0, x, omega arith, refl, e)

pub brings-none : (note : Note) → Brings note [] → ⊥
brings-none note (k, y, within, is, e) = omega arith
