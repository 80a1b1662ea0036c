use Rattle.std.specs.Prelude.{◌≡◌, ◌+◌, vec_len}
use Rattle.std.specs.List.{All}
use Rattle.lf_pool.proofs.shared.cut.Given as goal

abbrev pub invariant-workers : goal.invariant-workers
invariant-workers g l =
    (l.whole.parts + l._worker ≡ l.workers + 1) × (l.whole.amount ≡ 0) × (vec_len l.shares ≡ l._worker) × All (λ share. share.filed ≡ 0) l.shares.items
