-- The command `sweep`, as `clap` reads it.
use Rattle.std.specs.Prelude.{◌≡◌, codes, false, true, Some}
use Rattle.clap.specs.Words.{App, Rule, Text, app_of, new_app, new_rule, with_rule}
use Rattle.clap.specs.Simple.{on_top}
use Rattle.clap.specs.declared.builder.action.ArgAction.TheVariants.{Append, SetTrue}
use Rattle.clap.specs.declared.builder.command.Command.{Command}
use Rattle.clap.specs.declared.builder.command.Command.TheViews.{out-Command}

-- an option with a value
abbrev pub option : Text → Rule
option id = record (new_rule id) { long = Some id; value_names = 1 }

-- an option without one
abbrev pub flag : Text → Rule
flag id = record (new_rule id) { long = Some id; action = Some SetTrue }

-- the argument FILE, which has to be there
abbrev pub file : Rule
file = record (new_rule (codes "file")) { required = true; value_names = 1 }

-- the option --vary KEY=VALUES, which has to be there once at least
abbrev pub vary : Rule
vary = record (option (codes "vary")) { required = true; action = Some Append }

-- the words are all after `sweep`
abbrev pub bare : App
bare = on_top (λ s. record s { no_binary_name = true }) (new_app (codes "sweep"))

-- sweep FILE --vary KEY=VALUES ..
abbrev pub varying : App
varying = with_rule (with_rule bare file) vary

-- the same with --by ENGINE and --workers N
abbrev pub worked : App
worked = with_rule (with_rule varying (option (codes "by"))) (option (codes "workers"))

-- the same with --part I/N, --json and --quiet
abbrev pub told : App
told = with_rule (with_rule (with_rule worked (option (codes "part"))) (flag (codes "json"))) (flag (codes "quiet"))

-- the same with --protocol PROTOCOL
abbrev pub sweep : App
sweep = with_rule told (option (codes "protocol"))

-- a command that `clap` reads so, with no argument that is meant for others too
abbrev pub IsBuilt : App → Command → Type 0
IsBuilt app c = (app_of c ≡ app) × ((out-Command c).has_globals ≡ false)
