use Rattle.lf_delays.proofs.Pieces.{none-other}
use Rattle.lf_delays.proofs.reading.read_new.Goals as goal

pub returns-then-not-is_delay : goal.returns-then-not-is_delay
returns-then-not-is_delay c =
    none-other c.args.network.now c.keeps_limits.ensures c.args.piece.now c.args.delays.now c.in_ok-delay.delay c.in_ok-delay.ensures.0 c.in_ok-delay.ensures.1
    (λ is new. let never = c.is_delay.ensures.1 is in cc)

pub returns-then-not-is_new : goal.returns-then-not-is_new
returns-then-not-is_new c =
    none-other c.args.network.now c.keeps_limits.ensures c.args.piece.now c.args.delays.now c.in_ok-delay.delay c.in_ok-delay.ensures.0 c.in_ok-delay.ensures.1
    (λ is new. let never = c.is_new.ensures.1 new in cc)
