use Rattle.lf_promises.specs.Promises.{Joined, Part, More, Whole, Round, Timed, steps}
use Rattle.lf_promises.proofs.reading.+promise.Given as goal

-- the steps of reading that are enough

abbrev pub decreases-read_joined : goal.decreases-read_joined
decreases-read_joined l = steps (Joined l.joint) l.tokens.now

abbrev pub decreases-read_part : goal.decreases-read_part
decreases-read_part l = steps (Part l.joint) l.tokens.now

abbrev pub decreases-read_more : goal.decreases-read_more
decreases-read_more l = steps (More l.joint l.parts.items) l.tokens.now

abbrev pub decreases-read_any_unit : goal.decreases-read_any_unit
decreases-read_any_unit l = steps Whole l.tokens.now

abbrev pub decreases-read_round : goal.decreases-read_round
decreases-read_round l = steps Round l.tokens.now

abbrev pub decreases-read_timed : goal.decreases-read_timed
decreases-read_timed l = steps (Timed l.time) l.tokens.now
