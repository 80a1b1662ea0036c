use Rattle.std.proofs.Common.{string_bytes}
use Rattle.lf_delays.proofs.Lists.{lines_more}
use Rattle.lf_delays.proofs.delay.push_delays.Goals as goal

pub delays-preserved : goal.delays-preserved
delays-preserved c =
    lines_more (string_bytes c.args.text.now) (string_bytes c.delays.text) (string_bytes c.push_delay.new.text) c.args.delays.now
    c.delays.delay-index (record { slot = record { from = 0; to = 0; step = 0 }; at = 0 }) c.delays-test.true c.delays.invariant c.in_ok-push_delay.ensures
