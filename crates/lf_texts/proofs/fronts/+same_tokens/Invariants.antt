use Rattle.std.proofs.Common.{length}
use Rattle.lf_texts.proofs.fronts.+same_tokens.Given as goal

abbrev pub decreases-same_tokens : goal.decreases-same_tokens
decreases-same_tokens l = length l.one.now
