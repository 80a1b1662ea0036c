use denote.Param.Always.{Asked}
use denote.Param.Members.{lent}
use Rattle.std.proofs.Common.{◌≡◌, ◌-◌, ap, subst, ◌∙◌, arith}
use Rattle.std.specs.List.{AllZip, range_with_len}
use Rattle.rayon.specs.Numbers.{nat_range}
use Rattle.rayon.proofs.ListFacts.{IfOk-then}
use Rattle.rayon.proofs.ToStd.{nat_range-All}
use Rattle.lf_check.proofs.rows.in_each.Goals as goal

pub collect-requires-clause-ready : goal.collect-requires-clause-ready
collect-requires-clause-ready g c κs within =
    let ends = c.into_par_iter.ensures in
    let inside = nat_range-All (λ i. Asked g.F.Fn (lent c.args.find, (i, tt))) 0 c.args.parts (λ i low high. c.requires i high) in
    rw (c.map.ensures.base, c.with_min_len.ensures.base, c.map.ensures.f, ends.0, ends.1) (λ k d lt. (inside k d lt, λ y p. tt))

pub returns : goal.returns
returns g c =
    let ends = c.into_par_iter.ensures in
    let n = c.args.parts in
    let whole : n - 0 ≡ n = omega arith in
    IfOk-then c.collect.result _ _ c.collect.ensures (λ v h.
    let chain = rw (c.map.ensures.base, c.with_min_len.ensures.base, c.map.ensures.f) at h.1 in
    let all = chain.1 ∙ (λ i. nat_range (ends.0 i) (ends.1 i)) ∙ ap (range_with_len 0) whole in
    rw h.2 (subst (λ xs. AllZip (λ i one. g.F.Fn.post c.args.find (i, tt) one) xs h.0) all chain.2))
