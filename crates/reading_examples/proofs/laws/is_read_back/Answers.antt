use Rattle.std.proofs.Common.{Ok, sym, ap, ◌∙◌}
use Rattle.lf_grammar.specs.Tokens.{tokens_of}
use Rattle.reading_examples.proofs.laws.is_read_back.Goals as goal

pub read_back-requires : goal.read_back-requires
read_back-requires c = ap tokens_of (sym c.as_bytes.ensures.value) ∙ c.in-Ok.ensures ∙ ap Ok (sym c.as_slice.ensures.value)
