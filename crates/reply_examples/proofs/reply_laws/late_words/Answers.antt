-- one lost note, and two late ones
use Rattle.std.proofs.Common.{[], ◌∷◌, refl}
use Rattle.std.specs.Fmt.{digits}
use Rattle.lf_faults.specs.declared.fault.Parts.TheVariants.{Omit}
use Rattle.reply_examples.proofs.reply_laws.late_words.Goals as goal

pub returns : goal.returns
unfolding digits
returns c = (
  Omit 0 1 1 ∷ [],
  record { slot = record { from = 0; to = 2; step = 1 }; at = 3 } ∷ record { slot = record { from = 2; to = 1; step = 3 }; at = 7 } ∷ [],
  refl,
  refl,
  refl,
)
