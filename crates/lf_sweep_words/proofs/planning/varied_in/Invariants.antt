use Rattle.std.proofs.Common.{drop, map}
use Rattle.lf_sweep_words.proofs.Planned.{IsBegun}
use Rattle.lf_sweep_words.proofs.planning.varied_in.Given as goal

-- what varies so far, and the texts still to come
abbrev pub invariant-texts : goal.invariant-texts
invariant-texts l = IsBegun (map (λ t. t.now) l.texts) l.varied.items (map (λ t. t.now) (drop l.text-index l.texts))
