-- What `clap`'s definitions come to for the command line of `doubt`.
use Rattle.std.proofs.Common.{◌≡◌, List, [], ◌∷◌, codes, refl, true}
use Rattle.clap.specs.Words.{Text, fault_of, is_simple, is_simple_and_free}
use Rattle.clap.specs.declared.error.kind.ErrorKind.TheVariants as kind
use Rattle.clap.proofs.OnLiterals.{clap_on_literals}
use Rattle.lf_doubt_words.specs.Command.{doubt}

pub doubt_is_simple : is_simple doubt ≡ true
unfolding clap_on_literals
doubt_is_simple = refl

pub doubt_is_free : is_simple_and_free doubt ≡ true
unfolding clap_on_literals
doubt_is_free = refl

pub help_fault : (words : List Text) → fault_of doubt (codes "--help" ∷ words) ≡ kind.DisplayHelp ∷ []
unfolding clap_on_literals
help_fault words = refl

pub short_help_fault : (words : List Text) → fault_of doubt (codes "-h" ∷ words) ≡ kind.DisplayHelp ∷ []
unfolding clap_on_literals
short_help_fault words = refl
