use Rattle.std.proofs.Common.{lit<}
use Rattle.std.proofs.lemmas.Str.Pattern.{strip_prefix_char}
use Rattle.lf_sweep.proofs.reading.behind_point.Goals as goal

pub returns : goal.returns
returns c = strip_prefix_char 46 c.args.text.now c.strip_prefix.result c.strip_prefix.ensures.cases (lit< tt)
