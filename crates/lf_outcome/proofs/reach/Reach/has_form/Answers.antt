use Rattle.std.proofs.Common.{◌≡◌, length, arith}
use Rattle.lf_outcome.proofs.ReachesLemmas.{ends-by}
use Rattle.lf_outcome.proofs.reach.Reach.has_form.Goals as goal

pub returns : goal.returns
returns c =
    let count : length c.args.self.now ≡ c.args.nodes = omega (arith, c.len.ensures.value, c.if-len-nodes.false) in
    let iff = ends-by c.args.nodes c.args.horizon c.args.self.now count in
    (λ h. iff.0 (c.ends_by.ensures.0 h), λ h. c.ends_by.ensures.1 (iff.1 h))
