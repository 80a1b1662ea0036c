-- A note that an inbox brings comes first or later.
use Rattle.std.proofs.Common.{◌≡◌, zero, suc, List, [], ◌∷◌, refl, ap, ◌∙◌, inl, inr, arith}
use Rattle.std.specs.Prelude.{◌⊎◌}
use Rattle.lf_sim.specs.declared.letter.Letter.{Letter}
use Rattle.lf_protocols.specs.declared.note.Note.{Note}
use Rattle.lf_protocols.specs.Letters.{Brings}

module _ (note : Note) where
  pub brings-here : (x : Letter Note) (xs : List (Letter Note)) → x.note ≡ note → Brings note (x ∷ xs)
  brings-here x xs e = (0, x, omega arith, refl, e)

  pub brings-there : (x : Letter Note) (xs : List (Letter Note)) → Brings note xs → Brings note (x ∷ xs)
  brings-there x xs (k, y, within, is, e) = (suc k, y, omega arith, is, e)

  pub brings-none : Brings note [] → ⊥
  brings-none (k, y, within, is, e) = omega arith

  pub brings-cons : (x : Letter Note) (xs : List (Letter Note)) → Brings note (x ∷ xs) → (x.note ≡ note) ⊎ Brings note xs
  brings-cons x xs (zero, y, within, is, e) = inl (ap (λ (z : Letter Note). z.note) is ∙ e)
  brings-cons x xs (suc k, y, within, is, e) = inr (k, y, omega arith, is, e)
