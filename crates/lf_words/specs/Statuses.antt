-- The statuses of command lines that ask for nothing.
use Rattle.std.specs.Prelude.{ℕ, Bool, true, false}
use Rattle.clap.specs.declared.error.kind.ErrorKind.{ErrorKind}
use Rattle.clap.specs.declared.error.kind.ErrorKind.TheVariants as kind
use Rattle.lf_words.specs.declared.unasked.Unasked.{Unasked}
use Rattle.lf_words.specs.declared.unasked.Unasked.TheVariants as unasked

-- help or the version, wrong words, want of memory
abbrev pub exit_status : Unasked → ℕ
exit_status (unasked.Told text) = 0
exit_status (unasked.Wrong text) = 2
exit_status (unasked.Workers text) = 2
exit_status (unasked.Overwrites text) = 2
exit_status unasked.SharedInput = 2
exit_status unasked.Memory = 3

-- all but help and the version is told on standard error
abbrev pub goes_to_error : Unasked → Bool
goes_to_error (unasked.Told text) = false
goes_to_error (unasked.Wrong text) = true
goes_to_error (unasked.Workers text) = true
goes_to_error (unasked.Overwrites text) = true
goes_to_error unasked.SharedInput = true
goes_to_error unasked.Memory = true

-- the status for a kind of `clap`'s refusals
abbrev pub status_of : ErrorKind → ℕ
status_of kind.OutOfMemory = 3
status_of kind.DisplayHelp = 0
status_of kind.DisplayVersion = 0
status_of _ = 2
