use Rattle.std.proofs.Common.{map, subst, sym}
use Rattle.std.specs.String.{string_bytes}
use Rattle.clap.specs.Words.{app_of, kind_of}
use Rattle.lf_words.specs.Words.{IsRefusal}
use Rattle.lf_words.proofs.Reading.{command_is, fault_is_none, is_refused, kinds_are}
use Rattle.lf_words.proofs.words.read.Goals as goal

pub returns-in-Ok-try_get_matches_from : goal.returns-in-Ok-try_get_matches_from
returns-in-Ok-try_get_matches_from c =
    let words = map string_bytes c.args.words.now in
    let app = app_of c.in-Ok.program in
    let m = c.in-Ok-try_get_matches_from.matches in
    c.taken.ensures (command_is app words m c.in-Ok.ensures c.in-Ok-try_get_matches_from.ensures.matches)
    (fault_is_none app words m c.in-Ok.ensures c.in-Ok-try_get_matches_from.ensures.kinds)

pub returns-in-Err-try_get_matches_from : goal.returns-in-Err-try_get_matches_from
returns-in-Err-try_get_matches_from c =
    let words = map string_bytes c.args.words.now in
    let error = c.in-Err-try_get_matches_from.error in
    subst (IsRefusal words) (sym c.unwrap_or.ensures) (is_refused words (kind_of error) c.refused.result c.refused.ensures
    (kinds_are (app_of c.in-Ok.program) words error c.in-Ok.ensures c.in-Err-try_get_matches_from.ensures.kinds))
