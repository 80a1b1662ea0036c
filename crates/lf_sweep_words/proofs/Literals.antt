-- What `clap`'s definitions come to for the command line of `sweep`.
use Rattle.std.proofs.Common.{◌≡◌, List, [], ◌∷◌, codes, refl, true}
use Rattle.clap.specs.Words.{Text, fault_of, is_simple, is_simple_and_free}
use Rattle.clap.specs.declared.error.kind.ErrorKind.TheVariants as kind
use Rattle.clap.proofs.OnLiterals.{clap_on_literals}
use Rattle.lf_sweep_words.specs.Command.{sweep}

pub sweep_is_simple : is_simple sweep ≡ true
unfolding clap_on_literals
sweep_is_simple = refl

pub sweep_is_free : is_simple_and_free sweep ≡ true
unfolding clap_on_literals
sweep_is_free = refl

pub help_fault : (words : List Text) → fault_of sweep (codes "--help" ∷ words) ≡ kind.DisplayHelp ∷ []
unfolding clap_on_literals
help_fault words = refl

pub short_help_fault : (words : List Text) → fault_of sweep (codes "-h" ∷ words) ≡ kind.DisplayHelp ∷ []
unfolding clap_on_literals
short_help_fault words = refl
