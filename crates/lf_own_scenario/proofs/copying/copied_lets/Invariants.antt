use Rattle.std.proofs.Common.{◌≡◌, take}
use Rattle.lf_own_scenario.proofs.copying.copied_lets.Given as goal

-- the named expressions so far are copied
abbrev pub invariant-lets : goal.invariant-lets
invariant-lets l = l.copies.items ≡ take l.named-index l.lets
