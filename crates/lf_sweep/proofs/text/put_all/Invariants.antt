use Rattle.std.proofs.Common.{◌≡◌, drop, map, string_bytes}
use Rattle.toml.specs.View.{table_view}
use Rattle.lf_sweep.specs.Texts.{with_words}
use Rattle.lf_sweep.proofs.text.put_all.Given as goal

-- the values that were put, and those still to come
abbrev pub invariant-each : goal.invariant-each
invariant-each l =
    with_words (drop l.one-index l.varied) (map string_bytes l.left) (table_view l.scenario)
    ≡ with_words l.varied (map string_bytes l.words) (table_view l.initial.scenario)
