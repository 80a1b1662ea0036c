use Rattle.std.proofs.Common.{map}
use Rattle.std.specs.String.{string_bytes}
use Rattle.lf_words.proofs.Answered.{help_of, overwriting_of, plain_of, range_of, shared_of, uncounted_of, unknown_of, version_of}
use Rattle.lf_words.proofs.words.asked.Goals as goal

pub returns-else-is_empty-clause-workers : goal.returns-else-is_empty-clause-workers
returns-else-is_empty-clause-workers c = range_of (map string_bytes c.args.words.now) c.read.result c.read.ensures

pub returns-else-is_empty-clause-words : goal.returns-else-is_empty-clause-words
returns-else-is_empty-clause-words c some = c.read.ensures

pub returns-else-is_empty-clause-plain : goal.returns-else-is_empty-clause-plain
returns-else-is_empty-clause-plain c is = plain_of c.args.words.now c.read.result is c.read.ensures

pub returns-else-is_empty-clause-shared : goal.returns-else-is_empty-clause-shared
returns-else-is_empty-clause-shared c is = shared_of c.args.words.now c.read.result is c.read.ensures

pub returns-else-is_empty-clause-overwriting : goal.returns-else-is_empty-clause-overwriting
returns-else-is_empty-clause-overwriting c is = overwriting_of c.args.words.now c.read.result is c.read.ensures

pub returns-else-is_empty-clause-uncounted : goal.returns-else-is_empty-clause-uncounted
returns-else-is_empty-clause-uncounted c file number is plain plain_too none =
    uncounted_of (map string_bytes c.args.words.now) file number c.read.result is plain plain_too none c.read.ensures

pub returns-else-is_empty-clause-help : goal.returns-else-is_empty-clause-help
returns-else-is_empty-clause-help c is = help_of (map string_bytes c.args.words.now) c.read.result is c.read.ensures

pub returns-else-is_empty-clause-version : goal.returns-else-is_empty-clause-version
returns-else-is_empty-clause-version c is = version_of (map string_bytes c.args.words.now) c.read.result is c.read.ensures

pub returns-else-is_empty-clause-unknown : goal.returns-else-is_empty-clause-unknown
returns-else-is_empty-clause-unknown c is = unknown_of (map string_bytes c.args.words.now) c.read.result is c.read.ensures
