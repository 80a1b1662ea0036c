-- The command `doubt`, as `clap` reads it.
use Rattle.std.specs.Prelude.{codes, true}
use Rattle.clap.specs.Words.{App, new_app, with_rule}
use Rattle.clap.specs.Simple.{on_top}
use Rattle.lf_sweep_words.specs.Command.{file, flag, option}

-- the words are all after `doubt`
abbrev pub bare : App
bare = on_top (λ s. record s { no_binary_name = true }) (new_app (codes "doubt"))

-- doubt FILE, with --protocol PROTOCOL and --deep
abbrev pub asking : App
asking = with_rule (with_rule (with_rule bare file) (option (codes "protocol"))) (flag (codes "deep"))

-- the same with --seconds S, --workers N and --part I/N
abbrev pub shared : App
shared = with_rule (with_rule (with_rule asking (option (codes "seconds"))) (option (codes "workers"))) (option (codes "part"))

-- the same with --json and --quiet
abbrev pub doubt : App
doubt = with_rule (with_rule shared (flag (codes "json"))) (flag (codes "quiet"))
