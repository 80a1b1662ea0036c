-- The commands of `leastfault`, as `clap` reads them.
use Rattle.std.specs.Prelude.{◌≡◌, codes, false, true, Some}
use Rattle.clap.specs.Words.{App, Rule, Text, app_of, new_app, new_rule, with_rule, with_subcommand}
use Rattle.clap.specs.Simple.{on_top}
use Rattle.clap.specs.declared.builder.action.ArgAction.TheVariants.{SetTrue}
use Rattle.clap.specs.declared.builder.command.Command.{Command}
use Rattle.clap.specs.declared.builder.command.Command.TheViews.{out-Command}

-- an argument that has to be there
abbrev pub positional : Text → Rule
positional id = record (new_rule id) { required = true; value_names = 1 }

-- an option with a value
abbrev pub option : Text → Rule
option id = record (new_rule id) { long = Some id; value_names = 1 }

-- an option without one
abbrev pub flag : Text → Rule
flag id = record (new_rule id) { long = Some id; action = Some SetTrue }

-- the argument FILE
abbrev pub file : Rule
file = positional (codes "file")

-- the option --tree TREE
abbrev pub written : Rule
written = option (codes "tree")

-- the flag --all
abbrev pub each : Rule
each = flag (codes "all")

-- the option --workers N
abbrev pub workers : Rule
workers = option (codes "workers")

-- the flag --quiet
abbrev pub quiet : Rule
quiet = flag (codes "quiet")

-- the option --protocol PROTOCOL
abbrev pub known : Rule
known = option (codes "protocol")

-- the flag --rules
abbrev pub rules : Rule
rules = flag (codes "rules")

-- the flag --changes
abbrev pub changes : Rule
changes = flag (codes "changes")

-- the flag --json
abbrev pub json : Rule
json = flag (codes "json")

-- the option --beside FAULTS
abbrev pub beside : Rule
beside = option (codes "beside")

-- the option --delays LIST
abbrev pub delays : Rule
delays = option (codes "delays")

-- the flag --every-delay
abbrev pub every_delay : Rule
every_delay = flag (codes "every-delay")

-- a command with this name and the argument FILE
abbrev pub of_file : Text → App
of_file name = with_rule (new_app name) file

-- search FILE, with --tree TREE alone
abbrev pub written_search : App
written_search = with_rule (of_file (codes "search")) written

-- search FILE, with --tree TREE and --all
abbrev pub alone_search : App
alone_search = with_rule written_search each

-- search FILE, with --tree TREE, --all and --workers N
abbrev pub loud_search : App
loud_search = with_rule alone_search workers

-- search FILE, without --protocol
abbrev pub shipped_search : App
shipped_search = with_rule loud_search quiet

-- search FILE
abbrev pub search : App
search = with_rule shipped_search known

-- the argument FAULTS
abbrev pub faults : Rule
faults = positional (codes "faults")

-- run FILE FAULTS, without its options
abbrev pub bare_run : App
bare_run = with_rule (of_file (codes "run")) faults

-- run FILE FAULTS, with --rules alone
abbrev pub ruled_run : App
ruled_run = with_rule bare_run rules

-- run FILE FAULTS, with --rules and --changes
abbrev pub changed_run : App
changed_run = with_rule ruled_run changes

-- run FILE FAULTS, with --rules, --changes and --json
abbrev pub written_run : App
written_run = with_rule changed_run json

-- run FILE FAULTS, without --delays and --protocol
abbrev pub prompt_run : App
prompt_run = with_rule written_run beside

-- run FILE FAULTS, without --protocol
abbrev pub shipped_run : App
shipped_run = with_rule prompt_run delays

-- run FILE FAULTS
abbrev pub run : App
run = with_rule shipped_run known

-- draw FILE FAULTS, without its options
abbrev pub prompt_draw : App
prompt_draw = with_rule (of_file (codes "draw")) faults

-- draw FILE FAULTS, without --protocol
abbrev pub shipped_draw : App
shipped_draw = with_rule prompt_draw delays

-- draw FILE FAULTS
abbrev pub draw : App
draw = with_rule shipped_draw known

-- the argument TREE
abbrev pub tree : Rule
tree = positional (codes "tree")

-- check FILE TREE, without its options
abbrev pub loud_check : App
loud_check = with_rule (of_file (codes "check")) tree

-- check FILE TREE, without --protocol
abbrev pub shipped_check : App
shipped_check = with_rule loud_check quiet

-- check FILE TREE
abbrev pub check : App
check = with_rule shipped_check known

-- answer FILE, with --quiet alone
abbrev pub drawn_answer : App
drawn_answer = with_rule (of_file (codes "answer")) quiet

-- answer FILE, without --protocol
abbrev pub shipped_answer : App
shipped_answer = with_rule drawn_answer every_delay

-- answer FILE
abbrev pub answer : App
answer = with_rule shipped_answer known

-- why FILE, without --protocol
abbrev pub shipped_why : App
shipped_why = with_rule (of_file (codes "why")) quiet

-- why FILE
abbrev pub why : App
why = with_rule shipped_why known

-- protocol FILE
abbrev pub protocol : App
protocol = of_file (codes "protocol")

-- the words are all after the program's name, there is a version and no command `help`, and one command has to be named
abbrev pub plain : App
plain = on_top (λ s. record s {
  has_version = true;
  no_binary_name = true;
  disable_help_subcommand = true;
  subcommand_required = true;
}) (new_app (codes "leastfault"))

abbrev pub without_run : App
without_run = with_subcommand plain search.top

abbrev pub without_draw : App
without_draw = with_subcommand without_run run.top

abbrev pub without_check : App
without_check = with_subcommand without_draw draw.top

abbrev pub without_answer : App
without_answer = with_subcommand without_check check.top

abbrev pub without_why : App
without_why = with_subcommand without_answer answer.top

abbrev pub without_protocol : App
without_protocol = with_subcommand without_why why.top

abbrev pub program : App
program = with_subcommand without_protocol protocol.top

-- a command that `clap` reads so, with no argument that is meant for others too
abbrev pub IsBuilt : App → Command → Type 0
IsBuilt app c = (app_of c ≡ app) × ((out-Command c).has_globals ≡ false)
