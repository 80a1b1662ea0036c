-- A scenario with another value at one key.
use Rattle.std.specs.Prelude.{codes, pos}
use Rattle.toml.specs.Data.{Data, string, integer}
use Rattle.lf_scenario.specs.declared.key.Key.{Key}
use Rattle.lf_scenario.specs.declared.key.Key.TheVariants as keys
use Rattle.lf_doubt.specs.declared.change.Change.{Change}
use Rattle.lf_doubt.specs.declared.change.Change.TheVariants as changes

-- the key that has another value
abbrev pub key_of : Change → Key
key_of (changes.Horizon n) = keys.Horizon
key_of (changes.Budget n) = keys.Budget
key_of (changes.Crashes n) = keys.Crashes
key_of (changes.PauseLength n) = keys.PauseLength
key_of (changes.Spread n) = keys.Spread
key_of changes.NoneClamped = keys.Outcome
key_of changes.NoneReplaced = keys.Outcome

-- and which
abbrev pub data_of : Change → Data
data_of (changes.Horizon n) = integer (pos n)
data_of (changes.Budget n) = integer (pos n)
data_of (changes.Crashes n) = integer (pos n)
data_of (changes.PauseLength n) = integer (pos n)
data_of (changes.Spread n) = integer (pos n)
data_of changes.NoneClamped = string (codes "always no clamped")
data_of changes.NoneReplaced = string (codes "always no replaced")
