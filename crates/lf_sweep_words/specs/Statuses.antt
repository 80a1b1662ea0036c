-- The statuses of words that ask for no sweep, and what is told of them.
use Rattle.std.specs.Prelude.{ℕ, Bool, true, false, List, []}
use Rattle.clap.specs.declared.error.kind.ErrorKind.{ErrorKind}
use Rattle.clap.specs.declared.error.kind.ErrorKind.TheVariants as kind
use Rattle.lf_sweep_words.specs.declared.unasked.SweepUnasked.{SweepUnasked}
use Rattle.lf_sweep_words.specs.declared.unasked.SweepUnasked.TheVariants as unasked

-- help, wrong words, want of memory
abbrev pub exit_status : SweepUnasked → ℕ
exit_status (unasked.Told text) = 0
exit_status (unasked.Wrong text) = 2
exit_status unasked.Memory = 3

-- all but help is told on standard error
abbrev pub goes_to_error : SweepUnasked → Bool
goes_to_error (unasked.Told text) = false
goes_to_error (unasked.Wrong text) = true
goes_to_error unasked.Memory = true

-- nothing for want of memory
abbrev pub text_of : SweepUnasked → List ℕ
text_of (unasked.Told text) = text.bytes.items
text_of (unasked.Wrong text) = text.bytes.items
text_of unasked.Memory = []

-- the status for a kind of `clap`'s refusals
abbrev pub status_of : ErrorKind → ℕ
status_of kind.OutOfMemory = 3
status_of kind.DisplayHelp = 0
status_of kind.DisplayVersion = 0
status_of _ = 2
