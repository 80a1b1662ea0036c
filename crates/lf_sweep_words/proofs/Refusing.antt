-- What is told of words that ask for nothing.
use Rattle.std.proofs.Common.{◌≡◌, ◌≢◌, ◌⊎◌, inl, inr, sym, subst}
use Rattle.std.specs.Prelude.{Option, Some, Result, MatchResult}
use Rattle.clap.specs.Words.{Text}
use Rattle.lf_sweep.specs.declared.error.VaryError.{VaryError}
use Rattle.lf_sweep.specs.declared.error.VaryError.TheVariants as faults
use Rattle.lf_sweep.specs.declared.part.Part.{Part}
use Rattle.lf_sweep_words.specs.Words.{IsNothing, IsPart, IsWrong}
use Rattle.lf_sweep_words.specs.declared.unasked.SweepUnasked.{SweepUnasked}
use Rattle.lf_sweep_words.specs.declared.unasked.SweepUnasked.TheVariants as unasked

-- where nothing is it, that is told
pub wrong_nothing : {X : Type 0} (P : X → Type 0) (u : SweepUnasked) → IsWrong u → ((x : X) → ¬ P x) → IsNothing P u
wrong_nothing P (unasked.Told text) wrong none = absurd wrong
wrong_nothing P (unasked.Wrong text) wrong none = none
wrong_nothing P unasked.Memory wrong none = tt

pub memory_nothing : {X : Type 0} (P : X → Type 0) (u : SweepUnasked) → u ≡ unasked.Memory → IsNothing P u
memory_nothing P (unasked.Told text) memory = subst (IsNothing P) (sym memory) tt
memory_nothing P (unasked.Wrong text) memory = subst (IsNothing P) (sym memory) tt
memory_nothing P unasked.Memory memory = tt

-- a text that doesn't say what varies
pub not_varied : {X : Type 0} (P : X → Type 0) (u : SweepUnasked) (e : VaryError)
    → ((e ≡ faults.Memory) × (u ≡ unasked.Memory)) ⊎ ((e ≢ faults.Memory) × IsWrong u) → (e ≢ faults.Memory → (x : X) → ¬ P x) → IsNothing P u
not_varied P u e (inl memory) none = memory_nothing P u memory.1
not_varied P u e (inr told) none = wrong_nothing P u told.1 (none told.0)

-- what is read of a text that an option has
pub part_at : (r : Result Part SweepUnasked) (o : Option Text) (word : Text) → Some word ≡ o
    → MatchResult r (IsPart (Some word)) (IsNothing (IsPart (Some word))) → MatchResult r (IsPart o) (IsNothing (IsPart o))
part_at r o word is told = subst (λ p. MatchResult r (IsPart p) (IsNothing (IsPart p))) is told
