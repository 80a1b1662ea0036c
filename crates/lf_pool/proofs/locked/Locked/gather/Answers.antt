use Rattle.std.proofs.Common.{◌≡◌, sym, ◌∙◌, subst, arith, rules, vec_len}
use Rattle.lf_pool.specs.Holds.{IsAnsweredCount}
use Rattle.lf_pool.proofs.locked.Locked.gather.Goals as goal

pub returns-clause-counted : goal.returns-clause-counted
returns-clause-counted g c =
    let so = c.shares.invariant in
    let empty : vec_len c.shares.shares ≡ 0 = search rules in
    let whole = c.audit-2.ensures.whole (omega (arith, so.parts, c.requires.all, empty)) in
    subst (λ n. IsAnsweredCount c.args.self.book n) (sym so.total ∙ sym whole ∙ so.same) c.args.self.counted
