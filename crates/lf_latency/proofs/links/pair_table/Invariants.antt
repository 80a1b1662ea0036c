use Rattle.std.proofs.Common.{◌≡◌, ℕ, ◌<◌, length}
use Rattle.lf_latency.specs.Links.{pair_entry, entry_at}
use Rattle.lf_latency.proofs.links.pair_table.Given as goal

abbrev pub invariant-loop-from : goal.invariant-loop-from
invariant-loop-from l =
    (length l.table ≡ 8)
    × ((n m : ℕ) → n < l.from → m < 8 → entry_at l.table n m ≡ pair_entry l.nodes l.value l.other n m)
