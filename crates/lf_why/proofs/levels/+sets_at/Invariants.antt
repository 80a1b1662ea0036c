use Rattle.std.proofs.Common.{◌≡◌, ◌-◌, map, min, sum, take}
use Rattle.lf_why.specs.Levels.{sets_at}
use Rattle.lf_why.proofs.levels.+sets_at.Given as goal

-- the sets beneath the kids so far
abbrev pub invariant-kids : goal.invariant-kids
invariant-kids l = l.count ≡ min (sum (map (λ kid. sets_at kid (l.level - 1)) (take l.kid-index l.kid-items))) 18446744073709551615
