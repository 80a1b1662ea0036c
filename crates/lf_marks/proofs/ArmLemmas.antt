-- What a place tells, by the arm that its state is in.
use Rattle.std.proofs.Common.{◌≡◌, ℕ, ◌<◌, refl, ap, List, length, get_or, Some}
use Rattle.std.specs.Prelude.{Box}
use Rattle.std.proofs.lemmas.Option.{slice_get_read}
use Rattle.std.specs.Global.{Global}
use Rattle.lf_marks.specs.Arena.{look, spot_of, mark_in, first_in, taken_in}
use Rattle.lf_marks.specs.Steps.{kids_beneath}
use Rattle.lf_marks.specs.Steps as mark
use Rattle.lf_marks.specs.declared.set.Branch as set
use Rattle.lf_marks.specs.declared.set.Set.{Set}
use Rattle.lf_marks.specs.declared.set.State.{State}
use Rattle.lf_marks.specs.declared.set.State.TheVariants.{Open, Claimed, Misses, Reaches, Branch}

pub read-at : (sets : List Set) (x : ℕ) (s : Set) → x < length sets → s ≡ get_or sets x s → look sets x ≡ spot_of (Some s)
read-at sets x s few at = ap spot_of (slice_get_read sets (length sets) x s refl few at)

-- a set that is no branch has no kids
pub record NoKids (s : State) : Type 0 where
  pub first : 0 ≡ first_in s
  pub taken : 0 ≡ taken_in s
  pub edges : 0 ≡ kids_beneath (mark_in s)

pub no-kids : (s : State) → ((b : Box set.Branch Global) → s ≡ Branch b → ⊥) → NoKids s
no-kids Open plain = record { first = refl; taken = refl; edges = refl }
no-kids (Claimed t) plain = record { first = refl; taken = refl; edges = refl }
no-kids Misses plain = record { first = refl; taken = refl; edges = refl }
no-kids Reaches plain = record { first = refl; taken = refl; edges = refl }
no-kids (Branch b) plain = absurd (plain b refl)

pub no-miss : (s : State) → (s ≡ Misses → ⊥) → Some (mark_in s) ≡ Some mark.Misses → ⊥
no-miss Open plain e = absurd cc
no-miss (Claimed t) plain e = absurd cc
no-miss Misses plain e = absurd (plain refl)
no-miss Reaches plain e = absurd cc
no-miss (Branch b) plain e = absurd cc
