use Rattle.std.proofs.Common.{◌≡◌, replicate, string_bytes}
use Rattle.lf_sweep.proofs.value.seed_text.Given as goal

-- so many zeros
abbrev pub invariant-zeros : goal.invariant-zeros
invariant-zeros l = string_bytes l.text ≡ replicate l._i 48
