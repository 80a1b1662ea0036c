use Rattle.std.proofs.Common.{sym, ap, ◌∙◌}
use Rattle.lf_protocols.specs.Protocols.{ignores_letters}
use Rattle.lf_protocols.proofs.IgnoringLemmas.{ignores}
use Rattle.lf_protocols.proofs.machine.ProtocolMachine.ignores_letters.Goals as goal

pub returns : goal.returns
returns c is inbox other =
    let known = ap (λ k. ignores_letters k c.args.t c.args.state.now) (sym c.kind.ensures.value) in
    ignores c.args.self.now c.args._node c.args.t c.args.state.now (known ∙ sym c.ignores_letters.ensures ∙ is) inbox other
