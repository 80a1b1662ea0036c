use Rattle.std.proofs.Common.{◌≡◌, ◌++◌, drop, map, string_bytes}
use Rattle.lf_sweep.specs.declared.varied.Varied.{Varied}
use Rattle.lf_sweep_words.specs.Words.{written_name}
use Rattle.lf_sweep_words.proofs.names.names_of.Given as goal

-- the names so far and those still to come
abbrev pub invariant-names : goal.invariant-names
invariant-names l =
    map string_bytes l.names.items ++ map (λ (v : Varied). written_name v.place) (drop l.one-index l.varied)
    ≡ map (λ (v : Varied). written_name v.place) l.varied
