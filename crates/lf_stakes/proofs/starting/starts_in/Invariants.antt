use Rattle.std.proofs.Common.{◌≡◌, ◌++◌, drop}
use Rattle.std.specs.List.{flat_map}
use Rattle.lf_stakes.specs.Starting.{chain_starts}
use Rattle.lf_stakes.proofs.starting.starts_in.Given as goal

-- those of the chains so far are there
abbrev pub invariant-loop-chain : goal.invariant-loop-chain
invariant-loop-chain l = l.starting.items ++ flat_map chain_starts (drop l.chain-index l.chains) ≡ flat_map chain_starts l.chains
