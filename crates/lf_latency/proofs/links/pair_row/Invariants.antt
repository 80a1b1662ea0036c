use Rattle.std.proofs.Common.{◌≡◌, ℕ, ◌<◌, ◌≤◌, List, length, slice_index}
use Rattle.lf_latency.specs.Links.{pair_entry}
use Rattle.lf_latency.proofs.links.pair_row.Given as goal

pub record IsRow (nodes value other n i : ℕ) (row : List ℕ) : Type 0 where
  pub long : length row ≡ 8
  pub done : (m : ℕ) → m < i → slice_index row m ≡ pair_entry nodes value other n m
  pub rest : (m : ℕ) → i ≤ m → m < 8 → slice_index row m ≡ other

abbrev pub invariant-loop-to : goal.invariant-loop-to
invariant-loop-to l = IsRow l.nodes l.value l.other l.from l.to l.row
