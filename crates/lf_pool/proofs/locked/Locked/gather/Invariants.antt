use Rattle.std.specs.Prelude.{◌≡◌, ◌+◌, vec_len}
use Rattle.std.specs.List.{sum_by}
use Rattle.lf_pool.proofs.locked.Locked.gather.Given as goal

-- so much is merged, and the rest is left
abbrev pub invariant-shares : goal.invariant-shares
invariant-shares g l = record {
  same : l.all.amount ≡ l.sum;
  parts : l.all.parts + vec_len l.shares ≡ vec_len l.fn.shares;
  total : l.total.total ≡ l.fn.self.total.total;
  sum : l.sum + sum_by (λ share. share.filed) l.shares.items ≡ sum_by (λ share. share.filed) l.fn.shares.items;
}

abbrev pub decreases-shares : goal.decreases-shares
decreases-shares g l = goal.left-shares g l
