-- Why texts aren't read.
use Rattle.lf_grammar.specs.declared.token_error.TokenError.{TokenError}
use Rattle.lf_grammar.specs.declared.token_error.TokenError.TheVariants as tokens
use Rattle.lf_grammar.specs.declared.error.Unread.{Unread}
use Rattle.lf_grammar.specs.declared.error.Unread.TheVariants as readings
use Rattle.lf_texts.specs.declared.error.TextError.{TextError}
use Rattle.lf_texts.specs.declared.error.TextError.TheVariants as faults

-- a text has no tokens
abbrev pub of_tokens : TokenError → TextError
of_tokens tokens.Stray = faults.Unfit
of_tokens tokens.TooLarge = faults.PastLimit
of_tokens tokens.TooMany = faults.PastLimit
of_tokens tokens.TooDeep = faults.PastLimit
of_tokens tokens.Memory = faults.Memory

-- tokens are no expression
abbrev pub of_reading : Unread → TextError
of_reading (readings.Wrong slip) = faults.Unfit
of_reading readings.Memory = faults.Memory
