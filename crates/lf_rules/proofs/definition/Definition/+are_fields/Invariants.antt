use Rattle.std.proofs.Common.{length}
use Rattle.lf_rules.proofs.definition.Definition.+are_fields.Given as goal

abbrev pub decreases-are_fields : goal.decreases-are_fields
decreases-are_fields l = length l.kinds.now
