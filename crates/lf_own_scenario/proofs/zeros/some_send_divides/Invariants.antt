use Rattle.std.proofs.Common.{◌≡◌, take, false}
use Rattle.std.specs.List.{list_any}
use Rattle.lf_own_scenario.specs.Zeros.{send_divides}
use Rattle.lf_own_scenario.proofs.zeros.some_send_divides.Given as goal

abbrev pub invariant-sends : goal.invariant-sends
invariant-sends l = list_any (send_divides l.given) (take l.send-index l.sends) ≡ false
