use Rattle.std.proofs.Common.{map}
use Rattle.std.specs.String.{string_bytes}
use Rattle.lf_sweep_words.proofs.Laws.{help_of}
use Rattle.lf_doubt_words.specs.Command.{doubt}
use Rattle.lf_doubt_words.specs.Words.{IsMatched}
use Rattle.lf_doubt_words.proofs.Literals.{help_fault, short_help_fault}
use Rattle.lf_doubt_words.proofs.words.doubt_asked.Goals as goal

pub returns-clause-help : goal.returns-clause-help
returns-clause-help c is = help_of doubt IsMatched (map string_bytes c.args.words.now) c.read.result help_fault short_help_fault is c.read.ensures
