use Rattle.std.proofs.Common.{map, subst, sym}
use Rattle.std.specs.String.{string_bytes}
use Rattle.clap.specs.Words.{app_of, kind_of}
use Rattle.lf_sweep_words.specs.Command.{sweep}
use Rattle.lf_sweep_words.specs.Words.{IsMatched, IsRefusalBy}
use Rattle.lf_sweep_words.proofs.Laws.{answers, refuses}
use Rattle.lf_sweep_words.proofs.Literals.{sweep_is_free, sweep_is_simple}
use Rattle.lf_sweep_words.proofs.words.read.Goals as goal

pub returns-in-Ok-try_get_matches_from : goal.returns-in-Ok-try_get_matches_from
returns-in-Ok-try_get_matches_from c =
    answers sweep IsMatched (map string_bytes c.args.words.now) (app_of c.in-Ok.command) c.in-Ok.ensures.0 c.in-Ok-try_get_matches_from.matches
    c.taken.result sweep_is_simple sweep_is_free c.in-Ok-try_get_matches_from.ensures.matches c.in-Ok-try_get_matches_from.ensures.kinds c.taken.ensures

pub returns-in-Err-try_get_matches_from : goal.returns-in-Err-try_get_matches_from
returns-in-Err-try_get_matches_from c =
    let words = map string_bytes c.args.words.now in
    subst (IsRefusalBy sweep IsMatched words) (sym c.unwrap_or.ensures) (refuses sweep IsMatched words (app_of c.in-Ok.command) c.in-Ok.ensures.0
    (kind_of c.in-Err-try_get_matches_from.error) c.refused.result sweep_is_free c.in-Err-try_get_matches_from.ensures.kinds c.refused.ensures)
