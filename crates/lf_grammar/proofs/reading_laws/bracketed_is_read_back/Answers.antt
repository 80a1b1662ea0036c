use Rattle.lf_grammar.proofs.Written.{read-back}
use Rattle.lf_grammar.proofs.reading_laws.bracketed_is_read_back.Goals as goal

pub returns : goal.returns
returns c at name e sort plain writable sorted = read-back at name plain e sort writable sorted
