use Rattle.std.proofs.Common.{map, subst}
use Rattle.std.specs.String.{string_bytes}
use Rattle.clap.specs.Words.{subcommand_rows_of}
use Rattle.lf_words.specs.Words.{IsUnread}
use Rattle.lf_words.proofs.Answered.{answers_possible}
use Rattle.lf_words.proofs.Reading.{asks, asks_nothing, is_unread}
use Rattle.lf_words.proofs.words.taken.Goals as goal

pub returns-in-Some : goal.returns-in-Some
returns-in-Some c rows fault =
    let words = map string_bytes c.args.words.now in
    answers_possible words c.in-Some.asked c.possible.result c.possible.ensures
    (asks words (subcommand_rows_of c.args.matches.now) c.in_ok-asked.field-0 c.in-Some.asked fault rows c.in_ok-asked.ensures c.in-Some.is)

pub returns-in_ok-unread-in-None : goal.returns-in_ok-unread-in-None
returns-in_ok-unread-in-None c rows fault =
    let words = map string_bytes c.args.words.now in
    is_unread words c.in_ok-unread-in-None.field-0
    (subst (λ command. IsUnread command c.in_ok-unread-in-None.field-0) rows c.in_ok-unread-in-None.ensures) fault
    (asks_nothing words (subcommand_rows_of c.args.matches.now) c.in_ok-asked.field-0 rows c.in_ok-asked.ensures c.in-None.is)
