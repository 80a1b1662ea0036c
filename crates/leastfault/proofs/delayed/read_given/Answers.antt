use Rattle.std.proofs.lemmas.Result.{IfOk-weaker}
use Rattle.leastfault.specs.Delayed.{IsGivenOf, IsGivenTo}
use Rattle.leastfault.specs.Known.{known_of}
use Rattle.leastfault.proofs.DelayedLemmas.{given_text}
use Rattle.leastfault.proofs.delayed.read_given.Goals as goal

pub returns-in-Ok : goal.returns-in-Ok
returns-in-Ok c =
    IfOk-weaker c.given.result (IsGivenTo c.in-Ok.scenario c.args.delays.now)
    (IsGivenOf (known_of c.args.known) c.args.delays.now c.args.text.now)
    (λ r said. given_text (known_of c.args.known) c.args.delays.now c.args.text.now c.in-Ok.scenario r c.in-Ok.ensures said)
    c.given.ensures
