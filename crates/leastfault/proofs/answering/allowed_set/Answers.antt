use Rattle.std.proofs.Common.{◌≡◌, true, false, subst, sym, ◌∙◌}
use Rattle.lf_faults.specs.Allowed.{IsAllowed}
use Rattle.leastfault.proofs.ReplyLemmas.{allowed, not_allowed, unnamed}
use Rattle.leastfault.proofs.answering.allowed_set.Goals as goal

pub returns-in_err-set : goal.returns-in_err-set
returns-in_err-set c =
    let spec = c.args.scenario.now.setting.spec in
    unnamed c.args.faults.now spec c.read_faults.result c.read_faults.ensures c.from_residual.result c.in_err-set.was c.from_residual.ensures

pub returns-then-admits : goal.returns-then-admits
returns-then-admits c =
    let spec = c.args.scenario.now.setting.spec in
    allowed c.args.faults.now spec c.read_faults.result c.read_faults.ensures c.in_ok-set.set c.in_ok-set.was
    (subst (λ s. IsAllowed s.spec c.in_ok-set.set) c.setting.ensures (c.admits.ensures.0 c.if-admits.true))

pub returns-else-admits : goal.returns-else-admits
returns-else-admits c =
    let spec = c.args.scenario.now.setting.spec in
    not_allowed c.args.faults.now spec c.read_faults.result c.read_faults.ensures c.in_ok-set.set c.in_ok-set.was
    (λ fits.
    let admitted = subst (λ s. IsAllowed s.spec c.in_ok-set.set) (sym c.setting.ensures) fits in
    let yes_and_no : false ≡ true = sym c.if-admits.false ∙ c.admits.ensures.1 admitted in
    cc)
